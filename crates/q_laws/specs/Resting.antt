-- Deliveries to a site keep apart by the delay between them, where there is one.
use Rattle.std.specs.List.{list_any}
use Rattle.std.specs.Prelude.{◌&&◌, ◌+◌, ◌≡◌, ◌≤◌, ◌⊎◌, Bool, false, is_none, List, nat_lt, Some, true, ◌||◌, ℕ, [], ◌∷◌}
use Rattle.q_laws.specs.Traces.{AreEntriesOf}
use Rattle.q_model.specs.declared.entry.Entry.{Entry}
use Rattle.q_model.specs.declared.id.Id.{Id}
use Rattle.q_model.specs.declared.outcome.Outcome.{Outcome}
use Rattle.q_model.specs.declared.outcome.SiteState.{SiteState}
use Rattle.q_model.specs.declared.rows.Delivery.{Delivery}
use Rattle.q_model.specs.Deliveries.{busy, flight_of}
use Rattle.q_model.specs.Ledger.{Ledger}
use Rattle.q_model.specs.Past.{is_life}
use Rattle.q_model.specs.Settings.{World}
use Rattle.q_model.specs.SiteRecords.{record_of}
use Rattle.q_model.specs.Step.{after, after_all, may}
use Rattle.q_model.specs.Values.{Site}
use Rattle.q_model.specs.declared.entry.Entry.TheVariants as entries

-- where there is a delay, at most one delivery to each site is in flight
abbrev pub GoesOneByOne : World → Ledger → Type 0
GoesOneByOne w l = (w.settings.rate_delay ≡ 0 → ⊥) → (site : Site) → busy l site ≤ 1

-- after one of these entries nothing is known of the site, and the clock is before the moment
abbrev pub is_forgotten_before : ℕ → Site → World → Ledger → List Entry → Bool
is_forgotten_before moment site w l [] = false
is_forgotten_before moment site w l (e ∷ es) =
    (is_none (record_of (after w l e) site) && nat_lt (after w l e).now moment)
    || is_forgotten_before moment site w (after w l e) es

-- A delivery to the site that may begin after these entries begins at the moment or later, unless the
-- site was forgotten before.
abbrev pub BeginsFrom : ℕ → Site → World → Ledger → List Entry → Type 0
BeginsFrom moment site w l es =
    (number : ℕ) (id : Id) (positions : List ℕ) →
    may w (after_all w l es) (entries.Start number id site positions) ≡ true →
    (moment ≤ (after_all w l es).now) ⊎ (is_forgotten_before moment site w l es ≡ true)

-- After the reply to a delivery the next one to its site begins the delay later, in the same life.
abbrev pub KeepsApart : World → Ledger → Type 0
KeepsApart w l =
    (number : ℕ) (state : SiteState) (outcomes : List Outcome) (f : Delivery) →
    flight_of l number ≡ Some f →
    (es : List Entry) → list_any is_life es ≡ false →
    AreEntriesOf w l (entries.Reply number state outcomes ∷ es) →
    BeginsFrom (l.now + w.settings.rate_delay) f.row.site w l (entries.Reply number state outcomes ∷ es)
