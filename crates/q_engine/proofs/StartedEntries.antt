-- The entry of a delivery that starts: its positions are those that the core keeps.
use Rattle.std.proofs.Common.{◌≡◌, ℕ, List, Some, sym, subst, ap, ◌∙◌}
use Rattle.std.specs.Prelude.{find, option_map, ◌==◌}
use Rattle.q_model.specs.Deliveries.{flight_of}
use Rattle.q_model.specs.Ledger.{Ledger}
use Rattle.q_model.specs.Settings.{World}
use Rattle.q_model.specs.Step.{after}
use Rattle.q_model.specs.Values.{Site}
use Rattle.q_model.specs.declared.entry.Entry.{Entry}
use Rattle.q_model.specs.declared.entry.Entry.TheVariants as entries
use Rattle.q_model.specs.declared.id.Id.{Id}
use Rattle.q_model.specs.declared.rows.Delivery.{Delivery}
use Rattle.q_host.specs.View.{View}
use Rattle.q_core.specs.Agrees.{Agrees}
use Rattle.q_core.specs.declared.decision.Decision.TheVariants as decisions
use Rattle.q_engine.specs.Stands.{HasDecided, IsNextEntry}
use Rattle.q_engine.specs.declared.engine.Engine.{Engine}

some_same : {A : Type 0} (x y : A) → Some x ≡ Some y → x ≡ y
some_same x y h = cc

-- the positions that the core tells of a delivery
abbrev pub TellsPositions : Engine → ℕ → List ℕ → Type 0
TellsPositions engine number positions = (w : World) → (l : Ledger) → Agrees w engine.core.value l
    → Some positions ≡ option_map (λ (f : Delivery). f.row.positions) (flight_of l number)

pub start_decided : (w : World) (l : Ledger) (number : ℕ) (id : Id) (site : Site) (engine : Engine) (v : View) (positions : List ℕ) → TellsPositions engine number positions → IsNextEntry w l (Some (decisions.Start number id site)) engine v
    → HasDecided w l (decisions.Start number id site) (entries.Start number id site positions) engine v
start_decided w l number id site engine v positions tells (e, h) =
    let ps : List ℕ = h.of.0 in
    let in_flight = h.started ps (h.following ∙ ap (λ (x : Entry). Some x) h.of.1) in
    let flights = ap (λ (fs : List Delivery). option_map (λ (f : Delivery). f.row.positions) (find (λ (f : Delivery). f.number == number) fs)) h.core.matches.parts.flights in
    let same : positions ≡ ps = some_same positions ps (tells w (after w l e) h.core ∙ sym flights ∙ ap (option_map (λ (f : Delivery). f.row.positions)) in_flight) in
    subst (λ (x : Entry). HasDecided w l (decisions.Start number id site) x engine v) (h.of.1 ∙ ap (entries.Start number id site) (sym same)) h
