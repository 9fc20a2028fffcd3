use Rattle.std.proofs.Common.{ap, ◌∙◌, ◌<◌, length, arith, slice_set, get_or, false}
use Rattle.std.proofs.lemmas.List.{get_or_default}
use Rattle.std.proofs.lemmas.List.Edits.{map_over_more}
use Rattle.q_ledger.specs.Loading.{slot_read}
use Rattle.q_ledger.specs.declared.admitted.Slot.{Slot}
use Rattle.q_ledger.proofs.joining.read_up_to.Goals as goal

-- what stands past a list's end
abbrev no_slot : Slot
no_slot = record { id = record { generation = 0; serial = 0; bounce = false }; unread = 0; recipients = 0; rows = 0 }

pub loop-slot-preserved : goal.loop-slot-preserved
loop-slot-preserved c =
    let i = c.loop-slot.slot-index in
    let slots = c.loop-slot.slots in
    let slot = get_or slots i no_slot in
    let within : i < length slots = omega (arith, c.loop-slot.auto.slots, c.loop-slot-test.true) in
    ap (slice_set slots i) c.read_up_to.ensures
    ∙ map_over_more (slot_read c.args.id c.args.to) c.args.slots.now slots i slot c.loop-slot-test.true c.loop-slot.invariant (get_or_default slots i no_slot slot within)
