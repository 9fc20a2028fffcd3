use Rattle.std.proofs.Common.{◌∙◌, ◌≤◌, arith, subst, sym}
use Rattle.q_keyed.specs.Numbered.{Items}
use Rattle.q_rounds.specs.declared.round.Round.{Round}
use Rattle.q_rounds.specs.Jobs.{HasSet}
use Rattle.q_rounds.proofs.RoundSets.{has_key, set_left, set_new, set_put}
use Rattle.q_rounds.proofs.counting.set_rows.Goals as goal

pub returns-in_default-clause-set : goal.returns-in_default-clause-set
returns-in_default-clause-set c =
    let old = c.args.rounds.now in
    let some : 1 ≤ c.args.rows = omega arith in
    subst (λ (v : Items Round). HasSet c.args.id c.args.transport c.args.rows old.room old.items v.items) (sym c.push-number.ensures.items)
    (set_new c.args.id c.args.transport old.room old.items c.find.ensures.apart (sym c.find.ensures.is ∙ c.in_default.is) c.push-number.result c.args.rows c.push-number.ensures.fresh c.push-number.ensures.below some)

pub returns-then-rows-eq0-2-clause-set : goal.returns-then-rows-eq0-2-clause-set
returns-then-rows-eq0-2-clause-set c =
    let old = c.args.rounds.now in
    subst (λ (v : Items Round). HasSet c.args.id c.args.transport c.args.rows old.room old.items v.items) (sym c.remove-round.ensures.items)
    (set_left c.args.id c.args.transport old.room old.items c.find.ensures.apart c.in-Some.number (sym c.find.ensures.is ∙ c.in-Some.is) c.find.ensures.keys c.args.rows (omega arith))

pub put-requires : goal.put-requires
put-requires c =
    let old = c.args.rounds.now in
    has_key c.args.id c.args.transport old.room old.items c.find.ensures.apart c.in-Some.number (sym c.find.ensures.is ∙ c.in-Some.is) c.args.rows

pub returns-clause-set : goal.returns-clause-set
returns-clause-set c =
    let old = c.args.rounds.now in
    let some : 1 ≤ c.args.rows = omega arith in
    subst (λ (v : Items Round). HasSet c.args.id c.args.transport c.args.rows old.room old.items v.items) (sym c.put.ensures)
    (set_put c.args.id c.args.transport old.room old.items c.find.ensures.apart c.in-Some.number (sym c.find.ensures.is ∙ c.in-Some.is) c.args.rows some)
