-- Whether a walk gives a name.
use Rattle.std.specs.Prelude.{◌<◌, List, ℕ}
use Rattle.q_model.specs.declared.id.Id.{Id}
use Rattle.q_model.specs.declared.spot.Area.{Area}
use Rattle.q_scan.specs.declared.fit.Fit.{Fit}
use Rattle.q_scan.specs.declared.fit.Fit.TheVariants.{Given, Later, Other}
use Rattle.q_scan.specs.Walks.{IsDueName, IsWalked, IsWithin}
use Rattle.q_model.specs.declared.spot.Area.TheVariants as areas

-- the name of a file in deferred that is due after the moment
abbrev pub IsLater : Area → ℕ → List ℕ → Type 0
IsLater areas.Deferred until n = (due : ℕ) × (id : Id) × IsDueName n due id × (until < due)
IsLater area until n = ⊥

-- what each answer says of the name
abbrev pub IsFitOf : Area → ℕ → List ℕ → Fit → Type 0
IsFitOf area until n Given = IsWithin area until n
IsFitOf area until n Other = IsWalked area n → ⊥
IsFitOf area until n Later = IsLater area until n
