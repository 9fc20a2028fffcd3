use Rattle.std.proofs.Common.{◌≡◌, ◌∙◌, ap, map, refl}
use Rattle.q_core.proofs.MessageTies.{messages_read, slots_found}
use Rattle.q_core.proofs.PoolTies.{heads_kept}
use Rattle.q_core.proofs.StayLaws.{unread_other}
use Rattle.q_core.proofs.StillTidyLaws.{slots_touched}
use Rattle.q_core.proofs.TiedLaws.{tied_kept}
use Rattle.q_core.specs.ServedRows.{served_rows}
use Rattle.q_core.specs.State.{State}
use Rattle.q_pool.specs.Kept.{heads}
use Rattle.q_pool.specs.Pooled.{Pooled}
use Rattle.q_pool.specs.Slots.{changed_at, with_damage}
use Rattle.q_core.specs.View.{state_of}
use Rattle.q_schedule.specs.Schedule.{Scheduling}
use Rattle.q_held.specs.Held.{rows_of}
use Rattle.q_core.proofs.state.Core.note_damage.Goals as goal

pub invariant_of-self : goal.invariant_of-self
invariant_of-self c =
    let a = c.self.inside in
    let slots : heads c.damage.new.self.items ≡ map (changed_at c.args.id with_damage) (heads a.admitted.items) =
    ap (λ (m : Pooled). heads m.items) c.damage.ensures ∙ heads_kept c.args.id with_damage a.admitted.items in (
      tied_kept a.params a.admitted c.damage.new.self (rows_of a.waiting.items) a.flights.items a.unsettled.items a.starts c.args.id with_damage (λ s. refl) c.damage.ensures c.self.invariant.0,
      rw (slots, c.touch_message.ensures, ap (λ (x : Scheduling). x.lines) c.read.ensures) (slots_touched c.args.id (unread_other c.args.id with_damage (λ s. refl) (heads a.admitted.items)) c.self.invariant.1),
      c.self.invariant.2,
      rw (ap (λ (x : Scheduling). x.peers) c.read.ensures) c.self.invariant.3,
      c.self.invariant.4,
      messages_read a.params a.schedule (heads a.admitted.items) c.self.invariant.5 c.args.id with_damage (λ s. refl) (λ s. refl) _ c.unread.result c.unread.ensures c.read.new.self c.read.ensures slots (slots_found _ c.stand_apart.ensures.apart),
      c.self.invariant.6,
      rw (ap (λ (x : Scheduling). x.room) c.read.ensures, ap (λ (x : Scheduling). x.line_room) c.read.ensures) c.self.invariant.7,
      c.self.invariant.8,
      rw (ap (λ (x : Scheduling). x.suspended) c.read.ensures) c.self.invariant.9,
    )

pub returns : goal.returns
returns c = record {
  rest =
      ap (λ (x : Scheduling). record (state_of c.self.inside) { admitted = heads c.damage.new.self.items; served = served_rows x.peers; lines = x.lines }) c.read.ensures
      ∙ ap (λ (s : State). record s { admitted = heads c.damage.new.self.items }) c.self.view_is;
  admitted =
      ap (λ (m : Pooled). heads m.items) c.damage.ensures ∙ heads_kept c.args.id with_damage c.self.inside.admitted.items
      ∙ ap (λ (s : State). map (changed_at c.args.id with_damage) s.admitted) c.self.view_is;
}
