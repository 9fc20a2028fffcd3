-- How an agent keeps its open sessions. No public clause cites this module.
use Rattle.std.specs.List.{AllByRecursion}
use Rattle.std.specs.Option.{option_and_then, option_map, option_map_or}
use Rattle.std.specs.Prelude.{◌≢◌, [], IsSome, List, map, Option, ℕ, ◌∷◌}
use Rattle.slab.specs.Slab.{get, Slab}
use Rattle.q_link.specs.Views.{View}
use Rattle.q_agent.specs.Sessions.{IsSound, OpenSession, Rises, Work}
use Rattle.q_agent.specs.declared.delivery_session.DeliverySession.{DeliverySession}
use Rattle.q_agent.specs.declared.delivery_session.Work.{Work as TheWork}
use Rattle.q_agent.specs.declared.slot.Slot.{Slot}

-- a session and its link, as callers see them
abbrev pub shown_work : {L : Type 0} → (L → View) → TheWork L → Work
shown_work view w = record { session = w.session; link = view w.link }

abbrev pub work_of : {L : Type 0} → (L → View) → DeliverySession L → Option Work
work_of view h = option_map (shown_work view) h.work

-- the session of a delivery
abbrev pub shown : {L : Type 0} → (L → View) → ℕ → DeliverySession L → OpenSession
shown view number h = record { number = number; recipients = h.recipients; work = work_of view h }

-- the session that stands there
abbrev pub shown_at : {L : Type 0} → (L → View) → Slab (DeliverySession L) → Slot → OpenSession
shown_at view slab e = record {
  number = e.number;
  recipients = option_map_or (λ h. h.recipients) (get slab e.key) 0;
  work = option_and_then (work_of view) (get slab e.key);
}

-- no key stands twice
abbrev pub Differ : List ℕ → Type 0
Differ [] = Unit {0}
Differ (k ∷ ks) = AllByRecursion (λ j. j ≢ k) ks × Differ ks

-- Each slot holds a session of its own that may be polled, and the numbers rise.
pub record Holds {L : Type 0} (view : L → View) (slab : Slab (DeliverySession L)) (slots : List Slot) : Type 0 where
  pub rise : Rises (map (λ e. e.number) slots)
  pub differ : Differ (map (λ e. e.key) slots)
  pub there : AllByRecursion (λ e. IsSome (get slab e.key)) slots
  pub sound : AllByRecursion (λ e. IsSound (shown_at view slab e)) slots
