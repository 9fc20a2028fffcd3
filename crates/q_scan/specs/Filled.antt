-- What a walk does with the names that are left.
use Rattle.std.specs.Prelude.{◌≡◌, ◌≢◌, ◌⊎◌, ◌∷◌, [], List, Some, ℕ}
use Rattle.q_host.specs.Reads.{IsListing}
use Rattle.q_model.specs.SpoolFiles.{Files}
use Rattle.q_scan.specs.Walks.{Walk}

-- some are left, or those behind the place were listed
abbrev pub IsFilled : Files → Walk → Walk → Type 0
IsFilled f old new = ((new.ahead ≡ old.ahead) × (old.ahead ≢ []))
    ⊎ ((old.ahead ≡ []) × IsListing (f old.area) old.place new.ahead)

-- the first was passed
pub record IsStepped (old new : Walk) : Type 0 where
  pub name : List ℕ
  pub area : new.area ≡ old.area
  pub place : new.place ≡ Some name
  pub ahead : old.ahead ≡ name ∷ new.ahead
