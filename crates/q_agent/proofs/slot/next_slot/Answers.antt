use Rattle.std.proofs.Common.{sym}
use Rattle.std.proofs.Common.{ltb-false, ltb-true}
use Rattle.q_agent.proofs.Kept.{next_at, next_first, some_at}
use Rattle.q_agent.proofs.slot.next_slot.Goals as goal

pub returns-in-Some-clause-some : goal.returns-in-Some-clause-some
returns-in-Some-clause-some c =
    let found = c.in-Some.ensures.lookup in
    let p = c.place_above-place in
    next_at c.args.slots.now c.args.polled p.result c.in-Some.slot.now p.ensures.within p.ensures.place (some_at c.args.slots.now p.result c.in-Some.slot.now (ltb-true _ _ (sym found.0)) found.1)

pub returns-clause-some : goal.returns-clause-some
returns-clause-some c =
    let p = c.place_above-place in
    next_first c.args.slots.now c.args.polled p.result c.in_ok-slot.slot.now p.ensures.within p.ensures.place (ltb-false _ _ (sym c.in_default.ensures.lookup.0)) (sym c.in_ok-slot.ensures.value)
