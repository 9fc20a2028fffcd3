-- Words on lists.
use Rattle.std.specs.Prelude.{◌++◌, [], Bool, find, if◌then◌else◌, List, Option, Some, ◌∷◌, ◌≡◌, position, slice_get, ℕ}
use Rattle.std.specs.Option.{option_map_or}
use Rattle.q_model.specs.Lists.{drop_first}

-- the one behind, where there is one and it stands before the other
abbrev pub better_of : {A : Type 0} → (A → A → Bool) → A → Option A → A
better_of before x o = option_map_or (λ y. if before y x then y else x) o x

-- the one found before, or this one, where it stands before that
abbrev pub sooner_of : {A : Type 0} → (A → A → Bool) → Option A → A → A
sooner_of before o x = option_map_or (λ b. if before x b then x else b) o x

-- the first that passes goes to the end
abbrev pub moved_back : {A : Type 0} → (A → Bool) → List A → List A
moved_back test xs = option_map_or (λ x. drop_first test xs ++ x ∷ []) (find test xs) xs

-- this holds of the place of the first that passes, where there is one
abbrev pub AtFirst : {A : Type 0} → (A → Bool) → List A → (ℕ → Type 0) → Type 0
AtFirst test xs P = (i : ℕ) → position test xs ≡ Some i → P i

-- this holds of the element at a place, where there is one
abbrev pub AtPlace : {A : Type 0} → List A → ℕ → (A → Type 0) → Type 0
AtPlace {A = A} xs place P = (x : A) → slice_get xs place ≡ Some x → P x
