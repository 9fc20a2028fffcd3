-- The turn of a moment, and that of a reply, name just their own event.
use native.Mathlib.Omega.{arith}
use Rattle.std.proofs.Common.{◌≤◌, ◌≡◌, ℕ, List, [], ◌∷◌, refl, ap, ◌∙◌}
use Rattle.std.specs.Prelude.{max}
use Rattle.q_drain.proofs.Silent.{decisions_inside, no_events}
use Rattle.q_drain.specs.Told.{events_of}
use Rattle.q_model.specs.declared.entry.Entry.TheVariants as entries
use Rattle.q_model.specs.declared.event.Event.{Event}
use Rattle.q_model.specs.declared.event.Event.TheVariants as events
use Rattle.q_model.specs.declared.event.LifeEvent.TheVariants.{Heard}
use Rattle.q_model.specs.declared.outcome.Outcome.{Outcome}
use Rattle.q_model.specs.declared.outcome.SiteState.{SiteState}
use Rattle.q_model.specs.Ledger.{Ledger}
use Rattle.q_model.specs.Run.{decisions, turn}
use Rattle.q_model.specs.Settings.{World}
use Rattle.q_model.specs.Step.{after}

-- what is heard of a moment no earlier than the ledger's
pub at_turn : (w : World) (l : Ledger) (t : ℕ) → max l.now t ≡ t → turn w l (Heard (events.At t)) ≡ entries.At t ∷ decisions w (after w l (entries.At t))
unfolding turn
at_turn w l t h = ap (λ (n : ℕ). entries.At n ∷ decisions w (after w l (entries.At n))) h

pub reply_turn : (w : World) (l : Ledger) (number : ℕ) (site : SiteState) (outcomes : List Outcome) → turn w l (Heard (events.Reply number site outcomes)) ≡ entries.Reply number site outcomes ∷ decisions w (after w l (entries.Reply number site outcomes))
unfolding turn
reply_turn w l number site outcomes = refl

pub at_names : (w : World) (l : Ledger) (t : ℕ) → events_of (entries.At t ∷ decisions w l) ≡ events.At t ∷ []
at_names w l t = ap (λ (es : List Event). events.At t ∷ es) (no_events (decisions w l) (decisions_inside w l))

pub reply_names : (w : World) (l : Ledger) (number : ℕ) (site : SiteState) (outcomes : List Outcome) → events_of (entries.Reply number site outcomes ∷ decisions w l) ≡ events.Reply number site outcomes ∷ []
reply_names w l number site outcomes = ap (λ (es : List Event). events.Reply number site outcomes ∷ es) (no_events (decisions w l) (decisions_inside w l))

-- ---- turns

pub reply_names_turn : (w : World) (l : Ledger) (number : ℕ) (site : SiteState) (outcomes : List Outcome) → events_of (turn w l (Heard (events.Reply number site outcomes))) ≡ events.Reply number site outcomes ∷ []
reply_names_turn w l number site outcomes = ap events_of (reply_turn w l number site outcomes) ∙ reply_names w (after w l (entries.Reply number site outcomes)) number site outcomes

pub at_names_turn : (w : World) (l : Ledger) (t : ℕ) → l.now ≤ t → events_of (turn w l (Heard (events.At t))) ≡ events.At t ∷ []
at_names_turn w l t h = ap events_of (at_turn w l t (omega (arith, h))) ∙ at_names w (after w l (entries.At t)) t
