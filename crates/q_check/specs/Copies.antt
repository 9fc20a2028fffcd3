-- Copies of the names of a spool, by which a life is refused.
use Rattle.std.specs.Prelude.{◌≡◌, ◌⊎◌, ◌∷◌, [], Contains, IsSome, List, ℕ}
use Rattle.q_model.specs.declared.spot.Area.{Area}
use Rattle.q_model.specs.declared.spot.Area.TheVariants as areas
use Rattle.q_model.specs.SpoolFiles.{Files}

-- the areas whose names decide whether a life can begin
abbrev pub decisive : List Area
decisive = areas.Boot ∷ areas.Incoming ∷ areas.Active ∷ areas.Deferred ∷ areas.Hold ∷ areas.Corrupt ∷ []

-- no file stands there
abbrev pub HasNoFiles : Files → Type 0
HasNoFiles f = (a : Area) (n : List ℕ) → IsSome (f a n) → ⊥

-- files of these names were added to an area, and no others
pub record AddsNames (area : Area) (names : List (List ℕ)) (f g : Files) : Type 0 where
  pub kept : (a : Area) (n : List ℕ) → IsSome (f a n) → IsSome (g a n)
  pub there : (n : List ℕ) → Contains names n → IsSome (g area n)
  pub nothing_else : (a : Area) (n : List ℕ) → IsSome (g a n)
      → IsSome (f a n) ⊎ ((a ≡ area) × Contains names n)

-- A file stands in the copy only where one stands in the spool, and in these areas wherever one does.
pub record CopiesNames (these : List Area) (f copy : Files) : Type 0 where
  pub there : (a : Area) (n : List ℕ) → IsSome (copy a n) → IsSome (f a n)
  pub all : (a : Area) → Contains these a → (n : List ℕ) → IsSome (f a n) → IsSome (copy a n)
