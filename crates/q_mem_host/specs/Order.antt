-- The order of places, and files that stand in it.
use Rattle.std.specs.Prelude.{◌≡◌, ◌≤◌, ◌<◌, ℕ, Bool, true, false, nat_le, List, length, take, drop, Option, Some, None}
use Rattle.std.specs.List.{AllByRecursion, HoldsAt}
use Rattle.std.specs.List.Sorted.{IsStrictlySortedBy}
use Rattle.std.specs.Ordering.{is_gt, nat_cmp, ordering_then}
use Rattle.std.specs.declared.cmp.Ordering.{Ordering}
use Rattle.std.specs.declared.cmp.Ordering.TheVariants.{Equal, Greater, Less}
use Rattle.std.specs.Cmp.Lexicographic.{slice_cmp}
use Rattle.q_model.specs.declared.spot.Area.{Area}
use Rattle.q_host.specs.Files.{area_number}
use Rattle.q_mem_host.specs.declared.placed_files.PlacedFile.{PlacedFile}

-- by area, then by name
abbrev pub place_cmp : Area → List ℕ → Area → List ℕ → Ordering
place_cmp a n b m = ordering_then (nat_cmp (area_number a) (area_number b)) (slice_cmp nat_cmp n m)

-- a file's place with another one
abbrev pub placed_cmp : Area → List ℕ → PlacedFile → Ordering
placed_cmp a n e = place_cmp e.area e.name a n

-- each file goes before all that stand behind it, so no place comes twice
abbrev pub InOrder : List PlacedFile → Type 0
InOrder es = IsStrictlySortedBy (λ x y. placed_cmp y.area y.name x) es

-- the file of the place stands there
pub record IsAt (es : List PlacedFile) (i : ℕ) (a : Area) (n : List ℕ) : Type 0 where
  pub within : i < length es
  pub here : HoldsAt (λ e. placed_cmp a n e ≡ Equal) es i

-- the file of the place isn't there, and would stand there
pub record IsGap (es : List PlacedFile) (i : ℕ) (a : Area) (n : List ℕ) : Type 0 where
  pub within : i ≤ length es
  pub front : AllByRecursion (λ e. placed_cmp a n e ≡ Less) (take i es)
  pub rest : AllByRecursion (λ e. placed_cmp a n e ≡ Greater) (drop i es)

-- the file is behind the name of the area, or with no name, not before the area
abbrev pub is_past : Area → Option (List ℕ) → PlacedFile → Bool
is_past a None e = nat_le (area_number a) (area_number e.area)
is_past a (Some n) e = is_gt (placed_cmp a n e)

-- the files that are past begin there
pub record IsCut (es : List PlacedFile) (i : ℕ) (a : Area) (after : Option (List ℕ)) : Type 0 where
  pub within : i ≤ length es
  pub front : AllByRecursion (λ e. is_past a after e ≡ false) (take i es)
  pub rest : AllByRecursion (λ e. is_past a after e ≡ true) (drop i es)
