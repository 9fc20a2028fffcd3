-- How lists lie in two arrays. Each place leads to the next one and back to the one before. The
-- places are the numbers, and behind these the borders: a list lies from its border to the next, so
-- that all lists are one path from the first border to the last.
use Rattle.std.specs.List.{All}
use Rattle.std.specs.Prelude.{◌+◌, ◌++◌, ◌-◌, ◌<◌, ◌^◌, ◌∷◌, ◌≡◌, ◌≢◌, ◌≤◌, [], get_or, if◌then◌else◌, length, List, min, nat_le, nat_lt, None, Option, set, Some, suc, zero, ℕ}
use Rattle.q_chains.specs.Lists.{AllBelow}

-- the places from the one behind this border to the last border
abbrev pub strung : ℕ → List (List ℕ) → List ℕ
strung border [] = []
strung border (xs ∷ xss) = xs ++ (border + 1) ∷ strung (border + 1) xss

-- from a place each leads to the next of these, and back
abbrev pub IsPath : List ℕ → List ℕ → ℕ → List ℕ → Type 0
IsPath next before a [] = Unit {0}
IsPath next before a (b ∷ ps) =
    (get_or next a 0 ≡ b) × (get_or before b 0 ≡ a) × IsPath next before b ps

-- the place isn't one of these
abbrev pub Lacks : ℕ → List ℕ → Type 0
Lacks p [] = Unit {0}
Lacks p (q ∷ qs) = (p ≢ q) × Lacks p qs

-- no place stands twice
abbrev pub AreApart : List ℕ → Type 0
AreApart [] = Unit {0}
AreApart (p ∷ ps) = Lacks p ps × AreApart ps

-- each place leads to places
pub record AreJoined (nexts befores : List ℕ) : Type 0 where
  pub same : length befores ≡ length nexts
  pub few : length nexts ≤ 2 ^ 32
  pub next : All (λ p. p < length nexts) nexts
  pub before : All (λ p. p < length nexts) befores

-- the arrays hold these lists
pub record IsLaid (next before : List ℕ) (numbers : ℕ) (xss : List (List ℕ)) : Type 0 where
  pub joined : AreJoined next before
  pub count : length next ≡ numbers + length xss + 1
  pub below : AllBelow numbers xss
  pub path : IsPath next before numbers (strung numbers xss)
  pub apart : AreApart (numbers ∷ strung numbers xss)
  -- a number in no list leads to itself
  pub alone : (n : ℕ) → n < numbers → Lacks n (strung numbers xss)
      → (get_or next n 0 ≡ n) × (get_or before n 0 ≡ n)

-- the numbers from a place on, as far as the next border
abbrev pub walked : List ℕ → ℕ → ℕ → ℕ → List ℕ
walked next numbers zero p = []
walked next numbers (suc steps) p =
    if nat_lt p numbers then p ∷ walked next numbers steps (get_or next p 0) else []

-- so many lists from this border on
abbrev pub lists_from : List ℕ → ℕ → ℕ → ℕ → List (List ℕ)
lists_from next numbers border zero = []
lists_from next numbers border (suc count) =
    walked next numbers numbers (get_or next border 0)
    ∷ lists_from next numbers (border + 1) count

-- the lists in the array: the first border stands behind the numbers
abbrev pub lists_in : List ℕ → ℕ → List (List ℕ)
lists_in next numbers = lists_from next numbers numbers (length next - numbers - 1)

-- what always holds of the arrays
abbrev pub IsSound : List ℕ → List ℕ → ℕ → Type 0
IsSound next before numbers = IsLaid next before numbers (lists_in next numbers)

-- the number of a place, where it is none of the borders
abbrev pub number_at : ℕ → ℕ → Option ℕ
number_at numbers p = if nat_lt p numbers then Some p else None

-- one of the two arrays, where a number is put between two places
abbrev pub put_between : List ℕ → ℕ → ℕ → ℕ → List ℕ
put_between links from n to = set (set links from n) n to

-- one of the two arrays, where the place that the other one names leads past the number, and the
-- number to itself
abbrev pub led_past : List ℕ → List ℕ → ℕ → List ℕ
led_past links back n = set (set links (get_or back n 0) (get_or links n 0)) n n

-- where a place leads while all lists are empty
abbrev pub fresh_next : ℕ → ℕ → ℕ → ℕ
fresh_next numbers last p = if nat_lt p numbers then p else min (p + 1) last

abbrev pub fresh_before : ℕ → ℕ → ℕ
fresh_before numbers p = if nat_le p numbers then p else p - 1
