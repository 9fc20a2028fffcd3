use Rattle.std.proofs.Common.{◌∙◌, subst, sym}
use Rattle.q_ledger.proofs.JudgedLaws.{outside_judged, quiet_judged}
use Rattle.q_ledger.specs.Holding.{IsJudgedBy}
use Rattle.q_ledger.specs.Worlds.{world_of}
use Rattle.q_ledger.proofs.verdict.judge_quiet.Goals as goal

pub returns-then-is_event : goal.returns-then-is_event
returns-then-is_event c = λ n k beside accounts living begun quiet.
    let w = world_of c.args.world.now in
    let b = c.args.ledger.now.ledger in
    let e = c.args.entry.now in
    subst (λ j. IsJudgedBy n w b e j) (sym (c.admit.ensures n k beside accounts begun))
    (outside_judged n w b e living quiet (sym c.is_event.ensures ∙ c.if-is_event.true))

pub returns-else-is_event : goal.returns-else-is_event
returns-else-is_event c = λ n k beside accounts living begun quiet.
    let w = world_of c.args.world.now in
    let b = c.args.ledger.now.ledger in
    let e = c.args.entry.now in
    subst (λ j. IsJudgedBy n w b e j) (sym (c.refuse.ensures n k beside accounts begun))
    (quiet_judged n w b e living quiet (sym c.is_event.ensures ∙ c.if-is_event.false))
