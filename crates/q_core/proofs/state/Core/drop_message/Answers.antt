use Rattle.std.proofs.Common.{◌≡◌, ◌∙◌, ap}
use Rattle.q_core.proofs.MessageTies.{messages_left}
use Rattle.q_core.proofs.PoolTies.{heads_left, no_rows_kept}
use Rattle.q_core.proofs.StillTidyLaws.{slot_gone}
use Rattle.q_core.proofs.TiedLaws.{tied_left}
use Rattle.q_core.specs.Changes.{slots_without}
use Rattle.q_core.specs.ServedRows.{served_rows}
use Rattle.q_core.specs.State.{State}
use Rattle.q_core.specs.View.{state_of}
use Rattle.q_core.specs.Held.{has_rows_in}
use Rattle.q_pool.specs.Kept.{heads}
use Rattle.q_pool.specs.Pooled.{Pooled}
use Rattle.q_schedule.specs.Schedule.{Scheduling}
use Rattle.q_held.specs.Held.{rows_of}
use Rattle.q_core.proofs.state.Core.drop_message.Goals as goal

pub invariant_of-self : goal.invariant_of-self
invariant_of-self c =
    let a = c.self.inside in
    let t = c.self.invariant.0 in
    let none = no_rows_kept (state_of a) a.admitted.items c.args.id (ap (λ (s : State). has_rows_in s c.args.id) c.self.view_is ∙ c.requires) t.waiting t.flights t.unsettled in
    let slots : heads c.remove.new.self.items ≡ slots_without c.args.id (heads a.admitted.items) = ap (λ (m : Pooled). heads m.items) c.remove.ensures ∙ heads_left c.args.id a.admitted.items in (
      tied_left a.params a.admitted c.remove.new.self (rows_of a.waiting.items) a.flights.items a.unsettled.items a.starts c.args.id none.0 none.1 none.2 c.remove.ensures t,
      rw (slots, c.touch_unread.ensures, ap (λ (x : Scheduling). x.lines) c.remove-2.ensures) (slot_gone c.args.id c.self.invariant.1),
      c.self.invariant.2,
      rw (ap (λ (x : Scheduling). x.peers) c.remove-2.ensures) c.self.invariant.3,
      c.self.invariant.4,
      messages_left a.params a.schedule (heads a.admitted.items) c.self.invariant.5 c.args.id c.remove-2.new.self _ c.remove-2.ensures slots,
      c.self.invariant.6,
      rw (ap (λ (x : Scheduling). x.room) c.remove-2.ensures, ap (λ (x : Scheduling). x.line_room) c.remove-2.ensures) c.self.invariant.7,
      c.self.invariant.8,
      rw (ap (λ (x : Scheduling). x.suspended) c.remove-2.ensures) c.self.invariant.9,
    )

pub returns : goal.returns
returns c =
    ap (λ (x : Scheduling). record (state_of c.self.inside) { admitted = heads c.remove.new.self.items; served = served_rows x.peers; lines = x.lines }) c.remove-2.ensures
    ∙ ap (λ (m : Pooled). record (state_of c.self.inside) { admitted = heads m.items }) c.remove.ensures
    ∙ ap (λ ss. record (state_of c.self.inside) { admitted = ss }) (heads_left c.args.id c.self.inside.admitted.items)
    ∙ ap (λ (s : State). record s { admitted = slots_without c.args.id s.admitted }) c.self.view_is
