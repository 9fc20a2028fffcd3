-- What a contract sees of chains, and what each call makes of it.
use Rattle.std.specs.List.{AllByRecursion, concat, find, flat_map, IsDistinct, list_any}
use Rattle.std.specs.Option.{unwrap_or}
use Rattle.std.specs.Prelude.{◌++◌, ◌-◌, ◌<◌, ◌==◌, ◌∷◌, [], Bool, filter, get_or, if◌then◌else◌, length, List, nat_eq, None, not, Option, set, slice_get, Some, ℕ}

-- the lists in order, and how many numbers there are: those below this
pub record Lists : Type 0 where
  pub lists : List (List ℕ)
  pub numbers : ℕ

-- the numbers in the lists are below this
abbrev pub AllBelow : ℕ → List (List ℕ) → Type 0
AllBelow numbers xss = AllByRecursion (AllByRecursion (λ x. x < numbers)) xss

-- a number stands in one list at most, and once
pub record StandOnce (s : Lists) : Type 0 where
  pub below : AllBelow s.numbers s.lists
  pub once : IsDistinct nat_eq (concat s.lists)

-- whether the number stands in this list
abbrev pub is_in : ℕ → List ℕ → Bool
is_in n xs = list_any (nat_eq n) xs

-- whether it stands in any of them
abbrev pub stands : ℕ → List (List ℕ) → Bool
stands n xss = list_any (is_in n) xss

-- the list in which it stands, or an empty one where it stands in none
abbrev pub list_with : ℕ → List (List ℕ) → List ℕ
list_with n xss = unwrap_or (find (is_in n) xss) []

-- the number at the end of one list
abbrev pub pushed : ℕ → ℕ → List (List ℕ) → List (List ℕ)
pushed list n xss = set xss list (get_or xss list [] ++ n ∷ [])

-- the number right before another, where that one stands in the list
abbrev pub inserted : ℕ → ℕ → List ℕ → List ℕ
inserted n at xs = flat_map (λ x. if x == at then n ∷ x ∷ [] else x ∷ []) xs

-- the list without the number
abbrev pub without : ℕ → List ℕ → List ℕ
without n xs = filter (λ x. not (x == n)) xs

abbrev pub first_of : List ℕ → Option ℕ
first_of xs = slice_get xs 0

abbrev pub last_of : List ℕ → Option ℕ
last_of xs = slice_get xs (length xs - 1)

-- the one right behind the number
abbrev pub behind : ℕ → List ℕ → Option ℕ
behind n [] = None
behind n (x ∷ xs) = if x == n then first_of xs else behind n xs

-- the one right before the number, where `ahead` stands before the list
abbrev pub ahead_from : Option ℕ → ℕ → List ℕ → Option ℕ
ahead_from ahead n [] = None
ahead_from ahead n (x ∷ xs) = if x == n then ahead else ahead_from (Some x) n xs

-- the one right before the number
abbrev pub ahead_of : ℕ → List ℕ → Option ℕ
ahead_of n xs = ahead_from None n xs
