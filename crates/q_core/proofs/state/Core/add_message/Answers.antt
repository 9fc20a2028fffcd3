use Rattle.std.proofs.Common.{◌≡◌, ◌∙◌, ◌<◌, ◌++◌, ◌∷◌, [], ap, arith, length, refl, subst, sym}
use Rattle.std.proofs.lemmas.List.{length-map}
use Rattle.q_core.proofs.MessageTies.{absent_message, messages_more, room_message, slot_absent}
use Rattle.q_core.proofs.PoolTies.{absent_held, heads_more}
use Rattle.q_core.proofs.StillTidyLaws.{slot_entered}
use Rattle.q_core.proofs.TiedLaws.{tied_more}
use Rattle.q_core.specs.Held.{is_admitted_in}
use Rattle.q_core.specs.ServedRows.{served_rows}
use Rattle.q_core.specs.State.{State}
use Rattle.q_core.specs.View.{state_of}
use Rattle.q_pool.specs.Kept.{heads}
use Rattle.q_schedule.specs.declared.admitted.Admitted.{Admitted}
use Rattle.q_schedule.specs.Schedule.{is_message, Scheduling}
use Rattle.std.specs.Prelude.{find}
use Rattle.q_pool.specs.Pooled.{Pooled}
use Rattle.q_pool.specs.declared.kept.Kept.{Kept}
use Rattle.q_held.specs.Held.{rows_of}
use Rattle.q_core.proofs.state.Core.add_message.Goals as goal

pub admit-requires-clause-absent : goal.admit-requires-clause-absent
admit-requires-clause-absent c =
    let a = c.self.inside in
    ap (λ (m : Admitted). find (is_message m.id) a.schedule.messages) c.admitted.ensures
    ∙ absent_message a.params a.schedule (heads a.admitted.items) c.self.invariant.5 c.args.slot.id (slot_absent (heads a.admitted.items) c.args.slot.id (ap (λ (s : State). is_admitted_in s c.args.slot.id) c.self.view_is ∙ c.requires.absent))

pub admit-requires-clause-room : goal.admit-requires-clause-room
admit-requires-clause-room c =
    let a = c.self.inside in
    room_message a.params a.schedule (heads a.admitted.items) c.self.invariant.5
    (subst (λ (s : State). length s.admitted < s.params.active_limit) (sym c.self.view_is) c.requires.room)

pub push-requires-clause-absent : goal.push-requires-clause-absent
push-requires-clause-absent c =
    absent_held (state_of c.self.inside) c.self.inside.admitted.items refl c.args.slot.id (ap (λ (s : State). is_admitted_in s c.args.slot.id) c.self.view_is ∙ c.requires.absent)

pub push-requires-clause-room : goal.push-requires-clause-room
push-requires-clause-room c =
    let a = c.self.inside in
    let same = ap (λ (s : State). length s.admitted) c.self.view_is in
    let count = length-map a.admitted.items (λ (k : Kept). k.slot) in
    let limit = ap (λ (s : State). s.params.active_limit) c.self.view_is in
    omega (arith, same, count, limit, c.self.invariant.0.pool.room, c.requires.room)

pub invariant_of-self : goal.invariant_of-self
invariant_of-self c =
    let a = c.self.inside in
    let slots : heads c.push.new.self.items ≡ heads a.admitted.items ++ c.args.slot ∷ [] = ap (λ (m : Pooled). heads m.items) c.push.ensures ∙ heads_more a.admitted.items _ in (
      tied_more a.params a.admitted c.push.new.self (rows_of a.waiting.items) a.flights.items a.unsettled.items a.starts c.args.slot c.push.ensures c.self.invariant.0,
      rw (slots, ap (λ (x : Scheduling). x.lines) c.admit.ensures) (slot_entered _ c.self.invariant.1),
      c.self.invariant.2,
      rw (ap (λ (x : Scheduling). x.peers) c.admit.ensures) c.self.invariant.3,
      c.self.invariant.4,
      messages_more a.params a.schedule (heads a.admitted.items) c.self.invariant.5 c.args.slot c.admit.new.self _ (c.admit.ensures ∙ ap (λ m. record a.schedule { messages = a.schedule.messages ++ m ∷ [] }) c.admitted.ensures) slots,
      c.self.invariant.6,
      rw (ap (λ (x : Scheduling). x.room) c.admit.ensures, ap (λ (x : Scheduling). x.line_room) c.admit.ensures) c.self.invariant.7,
      c.self.invariant.8,
      rw (ap (λ (x : Scheduling). x.suspended) c.admit.ensures) c.self.invariant.9,
    )

pub returns : goal.returns
returns c =
    ap (λ (x : Scheduling). record (state_of c.self.inside) { admitted = heads c.push.new.self.items; served = served_rows x.peers; lines = x.lines }) c.admit.ensures
    ∙ ap (λ (m : Pooled). record (state_of c.self.inside) { admitted = heads m.items }) c.push.ensures
    ∙ ap (λ ss. record (state_of c.self.inside) { admitted = ss }) (heads_more c.self.inside.admitted.items _)
    ∙ ap (λ (s : State). record s { admitted = s.admitted ++ c.args.slot ∷ [] }) c.self.view_is
