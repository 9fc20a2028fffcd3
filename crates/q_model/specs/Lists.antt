-- Words on lists that several definitions use.
use Rattle.std.specs.Option.{option_map_or}
use Rattle.std.specs.Prelude.{◌+◌, [], Bool, false, filter_map, find, if◌then◌else◌, List, None, Option, option_map, slice_get, Some, true, ℕ, ◌∷◌}

-- the element that stands before all others
abbrev pub least : {A : Type 0} → (A → A → Bool) → List A → Option A
least before [] = None
least before (x ∷ xs) = Some (option_map_or (λ y. if before y x then y else x) (least before xs) x)

-- without the first that passes
abbrev pub drop_first : {A : Type 0} → (A → Bool) → List A → List A
drop_first test [] = []
drop_first test (x ∷ xs) = if test x then xs else x ∷ drop_first test xs

-- the list is empty
abbrev pub has_none : {A : Type 0} → List A → Bool
has_none [] = true
has_none (x ∷ xs) = false

-- what the first gives for which it gives something
abbrev pub first_some : {A B : Type 0} → (A → Option B) → List A → Option B
first_some f xs = slice_get (filter_map f xs) 0

-- The first whose test passes; a later test is looked at only where the earlier ones fail.
abbrev pub first_of : {A : Type 0} → List (Bool × A) → Option A
first_of choices = option_map (λ c. c.1) (find (λ c. c.0) choices)

-- the places in a list at which a test passes, from n on
abbrev pub places_from : {A : Type 0} → ℕ → (ℕ → A → Bool) → List A → List ℕ
places_from n test [] = []
places_from n test (x ∷ xs) = if test n x then n ∷ places_from (n + 1) test xs else places_from (n + 1) test xs
