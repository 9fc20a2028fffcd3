use Rattle.std.proofs.Common.{◌≡◌, ◌∙◌, ap, map, refl}
use Rattle.q_core.proofs.MessageTies.{messages_kept}
use Rattle.q_core.proofs.PoolTies.{heads_kept}
use Rattle.q_core.proofs.StayLaws.{unread_same}
use Rattle.q_core.proofs.StillTidyLaws.{slots_same}
use Rattle.q_core.proofs.TiedLaws.{tied_kept}
use Rattle.q_core.specs.State.{State}
use Rattle.q_pool.specs.Kept.{heads}
use Rattle.q_pool.specs.Pooled.{Pooled}
use Rattle.q_pool.specs.Slots.{changed_at, cleared}
use Rattle.q_held.specs.Held.{rows_of}
use Rattle.q_core.proofs.state.Core.clear_marks.Goals as goal

pub invariant_of-self : goal.invariant_of-self
invariant_of-self c =
    let a = c.self.inside in
    let slots : heads c.sync.new.self.items ≡ map (changed_at c.args.id cleared) (heads a.admitted.items) =
    ap (λ (m : Pooled). heads m.items) c.sync.ensures ∙ heads_kept c.args.id cleared a.admitted.items in (
      tied_kept a.params a.admitted c.sync.new.self (rows_of a.waiting.items) a.flights.items a.unsettled.items a.starts c.args.id cleared (λ s. refl) c.sync.ensures c.self.invariant.0,
      rw slots (slots_same (unread_same c.args.id cleared (λ s. refl) (λ s. refl) (heads a.admitted.items)) c.self.invariant.1),
      c.self.invariant.2,
      c.self.invariant.3,
      c.self.invariant.4,
      messages_kept a.params a.schedule (heads a.admitted.items) c.self.invariant.5 c.args.id cleared (λ s. refl) _ slots,
      c.self.invariant.6,
      c.self.invariant.7,
      c.self.invariant.8,
      c.self.invariant.9,
    )

pub returns : goal.returns
returns c = record {
  rest = ap (λ (s : State). record s { admitted = heads c.sync.new.self.items }) c.self.view_is;
  admitted =
      ap (λ (m : Pooled). heads m.items) c.sync.ensures ∙ heads_kept c.args.id cleared c.self.inside.admitted.items
      ∙ ap (λ (s : State). map (changed_at c.args.id cleared) s.admitted) c.self.view_is;
}
