use Rattle.std.proofs.Common.{◌≡◌, ◌∙◌, ap, map, refl}
use Rattle.q_core.proofs.MessageTies.{messages_kept}
use Rattle.q_core.proofs.PoolTies.{heads_kept}
use Rattle.q_core.proofs.StayLaws.{unread_same}
use Rattle.q_core.proofs.StillTidyLaws.{slots_same}
use Rattle.q_core.proofs.TiedLaws.{tied_kept}
use Rattle.q_core.specs.State.{State}
use Rattle.q_pool.specs.Kept.{heads}
use Rattle.q_pool.specs.Pooled.{Pooled}
use Rattle.q_pool.specs.Slots.{changed_at, with_log}
use Rattle.q_held.specs.Held.{rows_of}
use Rattle.q_core.proofs.state.Core.note_log.Goals as goal

pub invariant_of-self : goal.invariant_of-self
invariant_of-self c =
    let a = c.self.inside in
    let slots : heads c.log.new.self.items ≡ map (changed_at c.args.id with_log) (heads a.admitted.items) =
    ap (λ (m : Pooled). heads m.items) c.log.ensures ∙ heads_kept c.args.id with_log a.admitted.items in (
      tied_kept a.params a.admitted c.log.new.self (rows_of a.waiting.items) a.flights.items a.unsettled.items a.starts c.args.id with_log (λ s. refl) c.log.ensures c.self.invariant.0,
      rw slots (slots_same (unread_same c.args.id with_log (λ s. refl) (λ s. refl) (heads a.admitted.items)) c.self.invariant.1),
      c.self.invariant.2,
      c.self.invariant.3,
      c.self.invariant.4,
      messages_kept a.params a.schedule (heads a.admitted.items) c.self.invariant.5 c.args.id with_log (λ s. refl) _ slots,
      c.self.invariant.6,
      c.self.invariant.7,
      c.self.invariant.8,
      c.self.invariant.9,
    )

pub returns : goal.returns
returns c = record {
  rest = ap (λ (s : State). record s { admitted = heads c.log.new.self.items }) c.self.view_is;
  admitted =
      ap (λ (m : Pooled). heads m.items) c.log.ensures ∙ heads_kept c.args.id with_log c.self.inside.admitted.items
      ∙ ap (λ (s : State). map (changed_at c.args.id with_log) s.admitted) c.self.view_is;
}
