-- The way down from the root to the first leaf whose key is at most a bound.
use Rattle.std.proofs.Common.{◌≡◌, ℕ, ◌+◌, ◌*◌, ◌<◌, ◌≤◌, ◌^◌, ◌-◌, All, List, nat_le, sym, ap, ◌∙◌, arith, suc, subst, zero, refl, inl, inr}
use Rattle.std.proofs.lemmas.Bool.{cases_lt, cond_both, leb-false, leb-true}
use Rattle.std.proofs.lemmas.List.Elements.{All-from_get_or}
use Rattle.std.proofs.Math.Nat.{two-pow-succ}
use Rattle.q_least.specs.Trees.{AreLesser, child_within, IsFirstWithin, IsTree, keyed_at, leaf_keys}
use Rattle.q_least.specs.declared.tree.Keyed.{Keyed}
use Rattle.q_least.proofs.Made.{length-leaf_keys}
use Rattle.q_least.proofs.Rooted.{leaf_key_at, lesser_of, root_first}

-- the first of the places so many levels below one
abbrev pub leftmost : ℕ → ℕ → ℕ
leftmost zero p = p
leftmost (suc h) p = leftmost h (2 * p)

no_less : (h p : ℕ) → p ≤ leftmost h p
no_less zero p = omega arith
no_less (suc h) p = omega (arith, no_less h (2 * p))

ordered : (h p q : ℕ) → p ≤ q → leftmost h p ≤ leftmost h q
ordered zero p q le = le
ordered (suc h) p q le = ordered h (2 * p) (2 * q) (omega (arith, le))

doubled : (h p : ℕ) → leftmost h (2 * p) ≡ 2 * leftmost h p
doubled zero p = refl
doubled (suc h) p = doubled h (2 * p)

powers : (h : ℕ) → leftmost h 1 ≡ 2 ^ h
powers zero = refl
powers (suc h) = doubled h 1 ∙ omega (arith, powers h, two-pow-succ h)

next_children : (h p : ℕ) → leftmost h (2 * (p + 1)) ≡ leftmost h (2 * p + 1 + 1)
next_children h p = let same : 2 * (p + 1) ≡ 2 * p + 1 + 1 = omega arith in ap (leftmost h) same

-- a place has no greater key than one below it
below : (h n p q : ℕ) (tree : List Keyed) → AreLesser n tree → 1 ≤ p → leftmost h (p + 1) ≤ 2 * n → leftmost h p ≤ q → q < leftmost h (p + 1) → (keyed_at tree p).key ≤ (keyed_at tree q).key
below zero n p q tree h some inside from to = let same : p ≡ q = omega (arith, from, to) in omega (arith, ap (λ (r : ℕ). (keyed_at tree r).key) same)
below (suc k) n p q tree h some inside from to =
    let left = keyed_at tree (2 * p) in
    let right = keyed_at tree (2 * p + 1) in
    let next = next_children k p in
    let inner : p < n = omega (arith, no_less k (2 * (p + 1)), inside) in
    let of = lesser_of left right in
    let key = ap (λ (x : Keyed). x.key) (h p some inner) in
    elim (cases_lt q (leftmost k (2 * p + 1))) [
      | inl e ↦
          let rest = below k n (2 * p) q tree h (omega (arith, some)) (omega (arith, ordered k (2 * p + 1) (2 * (p + 1)) (omega arith), inside)) from e in
          omega (arith, rest, key, of.left.key)
      | inr e ↦
          let rest = below k n (2 * p + 1) q tree h (omega arith) (omega (arith, next, inside)) e (omega (arith, next, to)) in
          omega (arith, rest, key, of.right.key)
    ]

-- each leaf before this place has a key above the bound
abbrev pub AreAbove : ℕ → ℕ → List Keyed → ℕ → Type 0
AreAbove bound n tree p = (q : ℕ) → n ≤ q → q < p → bound < (keyed_at tree q).key

-- the first leaf within the bound is at or below this place
pub record IsAbove (bound n : ℕ) (tree : List Keyed) (p : ℕ) : Type 0 where
  pub some : 1 ≤ p
  pub height : ℕ
  pub low : n ≤ leftmost height p
  pub high : leftmost height (p + 1) ≤ 2 * n
  pub within : (keyed_at tree p).key ≤ bound
  pub before : AreAbove bound n tree (leftmost height p)

pub at_root : (bound n k : ℕ) (tree : List Keyed) → n ≡ 2 ^ k → (keyed_at tree 1).key ≤ bound → IsAbove bound n tree 1
at_root bound n k tree power within =
    let low : leftmost k 1 ≡ n = powers k ∙ sym power in
    let high : leftmost k (1 + 1) ≡ 2 * n = doubled k 1 ∙ ap (λ (w : ℕ). 2 * w) low in
    record {
      some = omega arith;
      height = k;
      low = omega (arith, low);
      high = omega (arith, high);
      within = within;
      before = λ q leaf earlier. absurd (omega (arith, low, leaf, earlier));
    }

to_left : (height bound n p : ℕ) (tree : List Keyed) → p < n → 1 ≤ p → n ≤ leftmost height p → leftmost height (p + 1) ≤ 2 * n → AreAbove bound n tree (leftmost height p)
    → (keyed_at tree (2 * p)).key ≤ bound → IsAbove bound n tree (2 * p)
to_left zero bound n p tree inner some low high before within = absurd (omega (arith, inner, low))
to_left (suc k) bound n p tree inner some low high before within = record {
  some = omega (arith, some);
  height = k;
  low = low;
  high = omega (arith, ordered k (2 * p + 1) (2 * (p + 1)) (omega arith), high);
  within = within;
  before = before;
}

to_right : (height bound n p : ℕ) (tree : List Keyed) → AreLesser n tree → p < n → 1 ≤ p → n ≤ leftmost height p → leftmost height (p + 1) ≤ 2 * n → AreAbove bound n tree (leftmost height p)
    → bound < (keyed_at tree (2 * p)).key → (keyed_at tree (2 * p + 1)).key ≤ bound → IsAbove bound n tree (2 * p + 1)
to_right zero bound n p tree h inner some low high before above within = absurd (omega (arith, inner, low))
to_right (suc k) bound n p tree h inner some low high before above within =
    let middle = ordered k (2 * p) (2 * p + 1) (omega arith) in
    let end = ordered k (2 * p + 1) (2 * (p + 1)) (omega arith) in
    record {
      some = omega arith;
      height = k;
      low = omega (arith, low, middle);
      high = omega (arith, next_children k p, high);
      within = within;
      before = λ q leaf earlier. elim (cases_lt q (leftmost k (2 * p))) [
        | inl e ↦ before q leaf e
        | inr e ↦ omega (arith, above, below k n (2 * p) q tree h (omega (arith, some)) (omega (arith, end, high)) e earlier)
      ];
    }

pub to_child : (bound n p : ℕ) (tree : List Keyed) → AreLesser n tree → p < n → IsAbove bound n tree p → IsAbove bound n tree (child_within bound tree p)
to_child bound n p tree h inner at =
    let left = keyed_at tree (2 * p) in
    let right = keyed_at tree (2 * p + 1) in
    cond_both (nat_le left.key bound) (2 * p) (2 * p + 1) (IsAbove bound n tree)
    (λ is. to_left at.height bound n p tree inner at.some at.low at.high at.before (leb-true left.key bound is))
    (λ is.
    let above = leb-false left.key bound is in
    let key = ap (λ (x : Keyed). x.key) (h p at.some inner) in
    let other : right.key ≤ bound = elim (lesser_of left right).one [
      | inl e ↦ absurd (omega (arith, ap (λ (x : Keyed). x.key) e, key, at.within, above))
      | inr e ↦ omega (arith, ap (λ (x : Keyed). x.key) e, key, at.within)
    ] in
    to_right at.height bound n p tree h inner at.some at.low at.high at.before above other)

pub a_place : (bound n p : ℕ) (tree : List Keyed) → IsAbove bound n tree p → p < 2 * n
a_place bound n p tree at = omega (arith, no_less at.height (p + 1), at.high)

-- at the leaves the way ends
ended : (height bound n p : ℕ) (tree : List Keyed) → n ≤ p → leftmost height (p + 1) ≤ 2 * n → AreAbove bound n tree (leftmost height p) → (p < 2 * n) × AreAbove bound n tree p
ended zero bound n p tree leaf high before = (omega (arith, high), before)
ended (suc k) bound n p tree leaf high before = absurd (omega (arith, no_less k (2 * (p + 1)), high, leaf))

pub first_at_leaf : (bound n p : ℕ) (tree : List Keyed) → IsTree n tree → n ≤ p → IsAbove bound n tree p → IsFirstWithin bound (leaf_keys n tree) (keyed_at tree p).number
first_at_leaf bound n p tree h leaf at =
    let end = ended at.height bound n p tree leaf at.high at.before in
    let i = p - n in
    let there : n + i ≡ p = omega (arith, leaf) in
    let inside : i < n = omega (arith, leaf, end.0) in
    let own : (keyed_at tree p).number ≡ i = ap (λ (q : ℕ). (keyed_at tree q).number) (sym there) ∙ h.numbered i inside in
    subst (IsFirstWithin bound (leaf_keys n tree)) (sym own) (record {
      inside = omega (arith, length-leaf_keys n tree h.len, inside);
      within = omega (arith, leaf_key_at n i tree h.len inside, ap (λ (q : ℕ). (keyed_at tree q).key) there, at.within);
      first = λ j earlier.
          let within : j < n = omega (arith, earlier, inside) in
          omega (arith, leaf_key_at n j tree h.len within, end.1 (n + j) (omega arith) (omega (arith, earlier, there)));
    })

-- where the root is above the bound, each leaf is
pub all_above : (bound n : ℕ) (tree : List Keyed) → IsTree n tree → bound < (keyed_at tree 1).key → All (λ key. bound < key) (leaf_keys n tree)
all_above bound n tree h above =
    let len = length-leaf_keys n tree h.len in
    All-from_get_or (λ key. bound < key) (leaf_keys n tree) 0 (λ j within.
    let inside : j < n = omega (arith, len, within) in
    let root = root_first (n + j) n (n + j) tree h.lesser (omega (arith, h.some)) (omega (arith, inside)) (omega arith) in
    omega (arith, leaf_key_at n j tree h.len inside, root.key, above))
