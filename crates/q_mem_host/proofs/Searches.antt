-- Where searches end.
use Rattle.std.proofs.Common.{◌≡◌, ◌≤◌, ◌<◌, ◌+◌, ℕ, zero, suc, true, false, nat_le, not, List, [], ◌∷◌, length, take, drop, get_or, refl, sym, ap, subst, arith, inl, inr, Option, Some, None, Result, Ok, Err, IfOk, IfErr}
use Rattle.std.proofs.lemmas.Bool.{cases_eq, not-true, not-false, not_from_false, false_from_ne_true}
use Rattle.std.proofs.lemmas.List.Sorted.{searchable_from_sorted}
use Rattle.std.specs.List.{AllByRecursion, AllWithin}
use Rattle.std.specs.List.Sorted.{IsBinarySearchResult, IsNonDecreasingBy, IsPartitionedBy, IsPartitionPoint, IsSearchInRange}
use Rattle.std.specs.Ordering.{is_gt, is_lt, MatchOrdering, nat_cmp, ordering_index, ordering_then}
use Rattle.std.specs.Cmp.{ranks}
use Rattle.std.specs.declared.cmp.Ordering.{Ordering}
use Rattle.std.specs.declared.cmp.Ordering.TheVariants.{Equal, Greater, Less}
use Rattle.std.specs.Cmp.Lexicographic.{slice_cmp}
use Rattle.std.proofs.lemmas.Bool.Decides.{nat_tests}
use Rattle.q_model.specs.declared.spot.Area.{Area}
use Rattle.q_model.proofs.EachLaws.{each-same}
use Rattle.q_host.specs.Files.{area_number}
use Rattle.q_mem_host.specs.Order.{InOrder, is_past, IsAt, IsCut, IsGap, placed_cmp}
use Rattle.q_mem_host.specs.declared.placed_files.PlacedFile.{PlacedFile}
use Rattle.q_mem_host.proofs.Order.{before_turned, behind_along, GoesBefore, Place, places_total, rises_at}

-- ---- facts of the elements up to an index, and from it on

all_front : {X : Type 0} (P : X → Type 0) (xs : List X) (i : ℕ) → i ≤ length xs → AllWithin P xs 0 i → AllByRecursion P (take i xs)
all_front P xs zero h all = tt
all_front P [] (suc i) h all = tt
all_front P (x ∷ xs) (suc i) h all = (all 0 x (omega arith) (omega arith), all_front P xs i (omega (arith, h)) (λ k d low high. all (suc k) d (omega arith) (omega (arith, high))))

all_rest : {X : Type 0} (P : X → Type 0) (xs : List X) (i : ℕ) → AllWithin P xs i (length xs) → AllByRecursion P (drop i xs)
all_rest P [] zero all = tt
all_rest P [] (suc i) all = tt
all_rest P (x ∷ xs) zero all = (all 0 x (omega arith) (omega arith), all_rest P xs zero (λ k d low high. all (suc k) d (omega arith) (omega (arith, high))))
all_rest P (x ∷ xs) (suc i) all = all_rest P xs i (λ k d low high. all (suc k) d (omega (arith, low)) (omega (arith, high)))

-- ---- a place

not_less : (x y : PlacedFile) → GoesBefore x y → is_lt (placed_cmp x.area x.name y) ≡ false
not_less x y before = ap is_lt (before_turned x.area x.name y.area y.name before)

-- files in order go before a place first, and behind it last
searchable : (a : Area) (n : List ℕ) (es : List PlacedFile) → InOrder es → IsNonDecreasingBy (λ e. ordering_index (placed_cmp a n e)) es
searchable a n es order =
    let key : PlacedFile → Place = λ e. (e.area, e.name) in
    searchable_from_sorted places_total key es (a, n) (λ k d low high. not_less (get_or es k d) (get_or es (k + 1) d) (rises_at es k (k + 1) d order (omega arith) high))

pub found : (a : Area) (n : List ℕ) (es : List PlacedFile) (r : Result ℕ ℕ) → IsSearchInRange r (length es) → IsBinarySearchResult (placed_cmp a n) es r → IfOk r (λ i. IsAt es i a n)
found a n es (Ok i) within here = record { within = within; here = here }
found a n es (Err i) within turns = tt

pub missing : (a : Area) (n : List ℕ) (es : List PlacedFile) (r : Result ℕ ℕ) → InOrder es → IsSearchInRange r (length es) → IsBinarySearchResult (placed_cmp a n) es r → IfErr r (λ i. IsGap es i a n)
missing a n es (Ok i) order within here = tt
missing a n es (Err i) order within turns =
    let point = turns (searchable a n es order) in
    record {
      within = within;
      front = all_front (λ e. placed_cmp a n e ≡ Less) es i within point.0;
      rest = all_rest (λ e. placed_cmp a n e ≡ Greater) es i point.1;
    }

-- ---- the files that are past

areas_rise_step : (x y : ℕ) (o p : Ordering) → MatchOrdering o (x < y) (x ≡ y) (y < x) → ordering_then o p ≡ Less → x ≤ y
areas_rise_step x y Less p h k = omega (arith, h)
areas_rise_step x y Equal p h k = omega (arith, h)
areas_rise_step x y Greater p h k = absurd cc

pub areas_rise : (x y : PlacedFile) → GoesBefore x y → area_number x.area ≤ area_number y.area
areas_rise x y before = areas_rise_step (area_number x.area) (area_number y.area) (nat_cmp (area_number x.area) (area_number y.area)) (slice_cmp nat_cmp x.name y.name) (ranks (area_number x.area) (area_number y.area)) before

pub greater : (o : Ordering) → is_gt o ≡ true → o ≡ Greater
greater Less h = absurd cc
greater Equal h = absurd cc
greater Greater h = refl

le_along : (x y z : ℕ) → y ≤ z → nat_le x y ≡ true → nat_le x z ≡ true
le_along x y z up h = grind (arith, nat_tests)

past_along : (a : Area) (after : Option (List ℕ)) (x y : PlacedFile) → GoesBefore x y → is_past a after x ≡ true → is_past a after y ≡ true
past_along a None x y before h = le_along (area_number a) (area_number x.area) (area_number y.area) (areas_rise x y before) h
past_along a (Some n) x y before h = ap is_gt (behind_along x y before a n (greater (placed_cmp a n x) h))

-- what isn't past comes first
pub parted : (a : Area) (after : Option (List ℕ)) (es : List PlacedFile) → InOrder es → IsPartitionedBy (λ e. not (is_past a after e)) es
parted a after es order = λ i j d h k q. elim (cases_eq i j) [
  | inl same ↦ subst (λ (l : ℕ). not (is_past a after (get_or es l d)) ≡ true) (sym same) q
  | inr differ ↦ not_from_false (is_past a after (get_or es i d)) (down i j d (omega (arith, h, differ)) k (not-true (is_past a after (get_or es j d)) q))
]
  where
    down : (i j : ℕ) (d : PlacedFile) → i < j → j < length es → is_past a after (get_or es j d) ≡ false → is_past a after (get_or es i d) ≡ false
    down i j d h k none = false_from_ne_true (is_past a after (get_or es i d)) (λ past. let next = past_along a after (get_or es i d) (get_or es j d) (rises_at es i j d order h k) past in absurd cc)

pub cut_there : (a : Area) (after : Option (List ℕ)) (es : List PlacedFile) (i : ℕ) → i ≤ length es → IsPartitionPoint (λ e. not (is_past a after e) ≡ true) (λ e. not (is_past a after e) ≡ false) es i → IsCut es i a after
cut_there a after es i within point = record {
  within = within;
  front = each-same (λ e. not (is_past a after e) ≡ true) (λ e. is_past a after e ≡ false) (take i es) (λ e h. not-true (is_past a after e) h) (all_front (λ e. not (is_past a after e) ≡ true) es i within point.0);
  rest = each-same (λ e. not (is_past a after e) ≡ false) (λ e. is_past a after e ≡ true) (drop i es) (λ e h. not-false (is_past a after e) h) (all_rest (λ e. not (is_past a after e) ≡ false) es i point.1);
}
