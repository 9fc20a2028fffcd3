-- The numbers are the first of the leaves; those behind have no key.
use Rattle.std.proofs.Common.{◌≡◌, ℕ, ◌+◌, ◌<◌, ◌≤◌, ◌-◌, All, ap, arith, drop, IfSome, inl, inr, length, length-drop, List, None, nat_lt, Option, position, Some, sym, take, ◌∙◌}
use Rattle.std.proofs.lemmas.Bool.{cases_lt, cond-false, cond-true, le-leb, le-ltb, lt-leb, lt-ltb}
use Rattle.std.proofs.lemmas.List.{get_or-take, length-take-le}
use Rattle.std.proofs.lemmas.List.Elements.{All-take}
use Rattle.std.proofs.lemmas.List.Sums.{position_or_len_is}
use Rattle.std.proofs.Common.{get_or, get_or-drop}
use Rattle.std.specs.Option.{IfNone}
use Rattle.std.specs.List.{position_or_len}
use Rattle.q_least.specs.Keys.{IsLeastAt, is_within, key_at, no_key}
use Rattle.q_least.specs.Trees.{AreKeysIn, IsFirstWithin, leaf_keys}
use Rattle.q_least.specs.declared.tree.Keyed.{Keyed}
use Rattle.q_least.proofs.Made.{length-leaf_keys}

-- a list of keys of which so many are those of numbers
pub record AreNumbersOf (count : ℕ) (all : List ℕ) : Type 0 where
  pub some : 1 ≤ count
  pub inside : count ≤ length all
  pub keys : All (λ key. key ≤ no_key) all
  pub behind : All (λ key. key ≡ no_key) (drop count all)

pub numbers_of : (count n : ℕ) (tree : List Keyed) → AreKeysIn count n tree → AreNumbersOf count (leaf_keys n tree)
numbers_of count n tree h = record {
  some = h.some;
  inside = omega (arith, length-leaf_keys n tree h.tree.len, h.inside);
  keys = h.keys;
  behind = h.behind;
}

behind_none : (count : ℕ) (keys : List ℕ) (i : ℕ) → AreNumbersOf count keys → count ≤ i → i < length keys → key_at keys i ≡ no_key
behind_none count keys i h from within =
    let j = i - count in
    let there : count + j ≡ i = omega (arith, from) in
    ap (λ (k : ℕ). get_or keys k 0) (sym there) ∙ sym (get_or-drop count keys j 0) ∙ h.behind j 0 (omega (arith, length-drop count keys, within, from))

-- the first of the least is a number
pub least_of_numbers : (count : ℕ) (keys : List ℕ) (i : ℕ) → AreNumbersOf count keys → IsLeastAt keys i → IsLeastAt (take count keys) i
least_of_numbers count keys i h least =
    let len = length-take-le count keys h.inside in
    let inside : i < count = elim (cases_lt i count) [
      | inl e ↦ e
      | inr e ↦ absurd (omega (arith, behind_none count keys i h e least.within, least.first 0 (omega (arith, e, h.some)), h.keys 0 0 (omega (arith, h.some, h.inside))))
    ] in
    record {
      within = omega (arith, len, inside);
      least = λ j within.
          let before : j < count = omega (arith, len, within) in
          omega (arith, get_or-take count keys i 0 inside, get_or-take count keys j 0 before, least.least j (omega (arith, before, h.inside)));
      first = λ j earlier. omega (arith, get_or-take count keys i 0 inside, get_or-take count keys j 0 (omega (arith, earlier, inside)), least.first j earlier);
    }

position_is : (bound : ℕ) (keys : List ℕ) (i : ℕ) → IsFirstWithin bound keys i → Some i ≡ position (is_within bound) keys
position_is bound keys i h =
    let at = position_or_len_is (is_within bound) keys i 0 (omega (arith, h.inside)) (λ k earlier. lt-leb (key_at keys k) bound (h.first k earlier)) (λ _. le-leb (key_at keys i) bound h.within) in
    sym (cond-true (nat_lt (position_or_len (is_within bound) keys) (length keys)) (Some (position_or_len (is_within bound) keys)) None (lt-ltb _ (length keys) (omega (arith, at, h.inside))) ∙ ap Some at)

-- the first within the bound is a number
pub first_of_numbers : (count bound : ℕ) (keys : List ℕ) (i : ℕ) → AreNumbersOf count keys → bound ≤ no_key → IsFirstWithin bound keys i → Some i ≡ position (is_within bound) (take count keys)
first_of_numbers count bound keys i h few first =
    let len = length-take-le count keys h.inside in
    let inside : i < count = elim (cases_lt i count) [
      | inl e ↦ e
      | inr e ↦ absurd (omega (arith, behind_none count keys i h e first.inside, first.within, first.first 0 (omega (arith, e, h.some)), h.keys 0 0 (omega (arith, h.some, h.inside))))
    ] in
    position_is bound (take count keys) i (record {
      inside = omega (arith, len, inside);
      within = omega (arith, get_or-take count keys i 0 inside, first.within);
      first = λ j earlier. omega (arith, get_or-take count keys j 0 (omega (arith, earlier, inside)), first.first j earlier);
    })

-- no number is within the bound
pub none_of_numbers : (count bound : ℕ) (keys : List ℕ) → All (λ key. bound < key) keys → None ≡ position (is_within bound) (take count keys)
none_of_numbers count bound keys h =
    let ks = take count keys in
    let above = All-take (λ key. bound < key) count keys h in
    let at = position_or_len_is (is_within bound) ks (length ks) 0 (omega arith) (λ k within. lt-leb (key_at ks k) bound (above k 0 within)) (λ within. absurd (omega (arith, within))) in
    sym (cond-false (nat_lt (position_or_len (is_within bound) ks) (length ks)) (Some (position_or_len (is_within bound) ks)) None (le-ltb _ (length ks) (omega (arith, at))))

-- so the first number within the bound is that of the leaves
pub position_of_numbers : (count bound : ℕ) (keys : List ℕ) (found : Option ℕ) → AreNumbersOf count keys → bound ≤ no_key → IfNone found (All (λ key. bound < key) keys) → IfSome found (IsFirstWithin bound keys)
    → found ≡ position (is_within bound) (take count keys)
position_of_numbers count bound keys None h few none some = none_of_numbers count bound keys none
position_of_numbers count bound keys (Some i) h few none some = first_of_numbers count bound keys i h few some
