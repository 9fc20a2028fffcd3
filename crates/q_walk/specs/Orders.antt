-- A list put in order.
use Rattle.std.specs.Prelude.{◌∷◌, [], Bool, if◌then◌else◌, List}

module _ {X : Type 0} (before : X → X → Bool) where
  -- an item at its place among others that are in order
  abbrev pub put_in_order : X → List X → List X
  put_in_order x [] = x ∷ []
  put_in_order x (y ∷ ys) = if before y x then y ∷ put_in_order x ys else x ∷ y ∷ ys

  abbrev pub in_order : List X → List X
  in_order [] = []
  in_order (x ∷ xs) = put_in_order x (in_order xs)
