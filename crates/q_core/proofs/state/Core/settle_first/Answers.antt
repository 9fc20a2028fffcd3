use Rattle.q_core.proofs.CodeLaws.{rest_all}
use Rattle.q_core.specs.Rooms.{is_loggable}
use Rattle.std.proofs.Common.{◌≡◌, ◌∙◌, ◌<◌, [], ◌∷◌, ap, arith, drop, length, List, None, Some, subst, sym}
use Rattle.std.specs.List.{remove}
use Rattle.std.specs.Prelude.{slice_get}
use Rattle.q_core.proofs.MessageTies.{messages_same}
use Rattle.q_core.proofs.PoolTies.{heads_recounted}
use Rattle.q_core.proofs.TiedLaws.{tied_settled}
use Rattle.q_core.specs.Counting.{without_unsettled}
use Rattle.q_core.specs.State.{State}
use Rattle.q_core.specs.View.{state_of}
use Rattle.q_model.specs.declared.rows.Unsettled.{Unsettled}
use Rattle.q_pool.specs.Kept.{heads}
use Rattle.q_pool.specs.Pooled.{Pooled}
use Rattle.q_held.specs.Held.{rows_of}
use Rattle.q_queue.specs.Queued.{Queued}
use Rattle.q_core.proofs.state.Core.settle_first.Goals as goal

first_there : {X : Type 0} (xs : List X) → 0 < length xs → slice_get xs 0 ≡ None → ⊥
first_there [] some none = omega (arith, some)
first_there (x ∷ xs) some none = cc

pub unreachable-requires : goal.unreachable-requires
unreachable-requires c =
    let us = c.self.inside.unsettled.items in
    first_there us (subst (λ (s : State). 0 < length s.unsettled) (sym c.self.view_is) c.requires) (sym c.pop.ensures.taken ∙ c.in_default.is)

pub invariant_of-self : goal.invariant_of-self
invariant_of-self c =
    let a = c.self.inside in
    let us = a.unsettled.items in
    let first = c.in-Some.first in
    let there : slice_get us 0 ≡ Some first = sym c.pop.ensures.taken ∙ c.in-Some.is in
    let left : c.pop.new.self.items ≡ remove us 0 = ap (λ (q : Queued Unsettled). q.items) c.pop.ensures.items in
    let slots : heads c.lose_unsettled.new.pool.items ≡ heads a.admitted.items = ap (λ (m : Pooled). heads m.items) c.lose_unsettled.ensures ∙ heads_recounted (without_unsettled 1) first.id a.admitted.items in (
      rw left (tied_settled a.params a.admitted c.lose_unsettled.new.pool (rows_of a.waiting.items) a.flights.items us a.starts 0 first there c.lose_unsettled.ensures c.self.invariant.0),
      rw slots c.self.invariant.1,
      c.self.invariant.2,
      c.self.invariant.3,
      c.self.invariant.4,
      messages_same a.params a.schedule (heads a.admitted.items) c.self.invariant.5 _ slots,
      record {
        deliveries = c.self.invariant.6.deliveries;
        asked = c.self.invariant.6.asked;
        names = c.self.invariant.6.names;
        named_few = c.self.invariant.6.named_few;
        outcomes = ap (λ (q : Queued Unsettled). q.room) c.pop.ensures.items ∙ c.self.invariant.6.outcomes;
        codes = rw left (rest_all is_loggable us c.self.invariant.6.codes);
        dated = c.self.invariant.6.dated;
      },
      c.self.invariant.7,
      c.self.invariant.8,
      c.self.invariant.9,
    )

pub returns-clause-change : goal.returns-clause-change
returns-clause-change c =
    let a = c.self.inside in
    let slots : heads c.lose_unsettled.new.pool.items ≡ heads a.admitted.items = ap (λ (m : Pooled). heads m.items) c.lose_unsettled.ensures ∙ heads_recounted (without_unsettled 1) c.in-Some.first.id a.admitted.items in
    record {
      rest =
          ap (λ ss. record (state_of a) { admitted = ss; unsettled = c.pop.new.self.items; in_memory = c.saturating_sub-self-inside.result }) slots
          ∙ ap (λ (s : State). record s { unsettled = c.pop.new.self.items; in_memory = c.saturating_sub-self-inside.result }) c.self.view_is;
      unsettled = ap (λ (q : Queued Unsettled). q.items) c.pop.ensures.items ∙ ap (λ (s : State). drop 1 s.unsettled) c.self.view_is;
    }
