use Rattle.std.proofs.Common.{◌≡◌, ◌∙◌, false, subst, sym, true}
use Rattle.q_ledger.proofs.JudgedLaws.{event_judged, other_judged}
use Rattle.q_ledger.specs.Holding.{IsJudgedBy}
use Rattle.q_ledger.specs.Worlds.{world_of}
use Rattle.q_laws.specs.Traces.{is_outside}
use Rattle.q_ledger.proofs.verdict.judge_due.Goals as goal

pub returns-then-is_event : goal.returns-then-is_event
returns-then-is_event c = λ n k beside accounts living begun due.
    let w = world_of c.args.world.now in
    let b = c.args.ledger.now.ledger in
    let e = c.args.entry.now in
    subst (λ j. IsJudgedBy n w b e j) (sym (c.refuse.ensures n k beside accounts begun))
    (event_judged n w b e c.args.due.now c.next_is_the_same.ensures k living due (sym c.is_event.ensures ∙ c.if-is_event.true))

pub returns : goal.returns
returns c = λ n k beside accounts living begun due.
    let w = world_of c.args.world.now in
    let b = c.args.ledger.now.ledger in
    let e = c.args.entry.now in
    let within : is_outside e ≡ false = sym c.is_event.ensures ∙ c.if-is_event.false in
    subst (λ j. IsJudgedBy n w b e j) (sym (c.refuse-2.ensures n k beside accounts begun))
    (other_judged n w b e c.args.due.now living due (λ same.
    let bad : false ≡ true = sym c.if-is_same.false ∙ c.is_same.ensures.only (subst (λ d. is_outside d ≡ false) (sym same) within) same in absurd cc))
