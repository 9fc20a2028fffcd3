-- The entry of a row that is put off: its positions are those that the core keeps.
use Rattle.std.proofs.Common.{◌≡◌, ◌==◌, ℕ, Bool, true, List, Some, None, if◌then◌else◌, sym, subst, ap, ◌∙◌}
use Rattle.std.proofs.lemmas.Bool.{eq-eqb}
use Rattle.q_model.specs.Ledger.{Ledger}
use Rattle.q_model.specs.Settings.{World}
use Rattle.q_model.specs.Values.{Site}
use Rattle.q_model.specs.declared.entry.Entry.{Entry}
use Rattle.q_model.specs.declared.entry.Entry.TheVariants as entries
use Rattle.q_model.specs.declared.id.Id.{Id}
use Rattle.q_model.specs.declared.rows.Row.{Row}
use Rattle.q_host.specs.View.{View}
use Rattle.q_core.specs.Queries.{skipped_in}
use Rattle.q_core.specs.declared.decision.Decision.TheVariants as decisions
use Rattle.q_engine.specs.Stands.{HasDecided, IsNextEntry}
use Rattle.q_engine.specs.declared.engine.Engine.{Engine}

some_same : {A : Type 0} (x y : A) → Some x ≡ Some y → x ≡ y
some_same x y h = cc

pub skip_decided : (w : World) (l : Ledger) (id : Id) (site : Site) (number : ℕ) (engine : Engine) (v : View) (positions : List ℕ) → Some positions ≡ skipped_in engine.core.value number → IsNextEntry w l (Some (decisions.Skip id site number)) engine v
    → HasDecided w l (decisions.Skip id site number) (entries.Skip id site positions) engine v
skip_decided w l id site number engine v positions tells (e, h) =
    let ps : List ℕ = h.of.0 in
    let row : Row = record { id = id; site = site; positions = ps } in
    let here : (engine.core.value.skips == number) ≡ true = eq-eqb engine.core.value.skips number h.skipped.number in
    let told : positions ≡ engine.core.value.skipped = some_same positions engine.core.value.skipped (tells ∙ ap (λ (b : Bool). if b then Some engine.core.value.skipped else None) here) in
    let same : positions ≡ ps = told ∙ h.skipped.row row h.of.1 in
    subst (λ (x : Entry). HasDecided w l (decisions.Skip id site number) x engine v) (h.of.2 ∙ ap (entries.Skip id site) (sym same)) h
