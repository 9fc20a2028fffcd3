-- A tree is made: the leaves are numbered, and then the inner places get the lesser of their children.
use Rattle.std.proofs.Common.{◌≡◌, ℕ, ◌+◌, ◌*◌, ◌<◌, ◌≤◌, ◌++◌, ◌/◌, ◌^◌, List, length, length-drop, map, max, sym, ap, ◌∙◌, arith, set, suc, zero, drop, replicate, ◌∷◌, [], refl, inl, inr}
use Rattle.std.proofs.lemmas.Bool.{cases_eq, cases_lt}
use Rattle.std.proofs.lemmas.List.{get_or-set_other, get_or-set_same, length-map, map-set}
use Rattle.std.proofs.Math.Pow.{pow_mono}
use Rattle.std.specs.Int.{IsPowerOfTwo}
use Rattle.q_least.specs.Trees.{IsLesser, keyed_at, leaf_keys, lesser, nothing}
use Rattle.q_least.specs.declared.tree.Keyed.{Keyed}
use Rattle.q_least.proofs.Mended.{drop-set_behind}

-- a leaf is written: its key is written
pub leaf_keys-set : (n i : ℕ) (tree : List Keyed) (k : Keyed) → leaf_keys n (set tree (n + i) k) ≡ set (leaf_keys n tree) i k.key
leaf_keys-set n i tree k = ap (map (λ (x : Keyed). x.key)) (drop-set_behind n i tree k) ∙ map-set (λ (x : Keyed). x.key) (drop n tree) i k

write_next : (i x : ℕ) (ys : List ℕ) → i < length ys → set (replicate i x ++ drop i ys) i x ≡ replicate (suc i) x ++ drop (suc i) ys
write_next i x [] h = absurd (omega (arith, h))
write_next zero x (y ∷ ys) h = refl
write_next (suc i) x (y ∷ ys) h = ap (λ (xs : List ℕ). x ∷ xs) (write_next i x ys (omega (arith, h)))

-- one more has this key
pub set_more : (i x : ℕ) (ys : List ℕ) → i < length ys → set (replicate i x ++ drop i ys) i x ≡ replicate (i + 1) x ++ drop (i + 1) ys
set_more i x ys h = let next : suc i ≡ i + 1 = omega arith in write_next i x ys h ∙ ap (λ (j : ℕ). replicate j x ++ drop j ys) next

-- all have it
pub all_set : (n x : ℕ) (ys : List ℕ) → length ys ≡ n → replicate n x ++ drop n ys ≡ replicate n x
all_set zero x [] h = refl
all_set zero x (y ∷ ys) h = absurd (omega (arith, h))
all_set (suc n) x [] h = absurd (omega (arith, h))
all_set (suc n) x (y ∷ ys) h = ap (λ (xs : List ℕ). x ∷ xs) (all_set n x ys (omega (arith, h)))

pub length-leaf_keys : (n : ℕ) (tree : List Keyed) → length tree ≡ 2 * n → length (leaf_keys n tree) ≡ n
length-leaf_keys n tree h = length-map (drop n tree) (λ (k : Keyed). k.key) ∙ omega (arith, length-drop n tree, h)

-- the leaves below this number have theirs
abbrev pub AreNumberedBelow : ℕ → ℕ → List Keyed → Type 0
AreNumberedBelow below n tree = (i : ℕ) → i < below → (keyed_at tree (n + i)).number ≡ i

pub numbered_more : (n leaf : ℕ) (tree : List Keyed) (k : Keyed) → n + leaf < length tree → k.number ≡ leaf → AreNumberedBelow leaf n tree → AreNumberedBelow (leaf + 1) n (set tree (n + leaf) k)
numbered_more n leaf tree k inside own h = λ i within. elim (cases_eq i leaf) [
  | inl e ↦
      let there : n + leaf ≡ n + i = omega (arith, e) in
      ap (λ (j : ℕ). (keyed_at (set tree (n + leaf) k) j).number) (sym there) ∙ ap (λ (x : Keyed). x.number) (get_or-set_same tree (n + leaf) k nothing inside) ∙ own ∙ sym e
  | inr e ↦ ap (λ (x : Keyed). x.number) (get_or-set_other tree (n + leaf) (n + i) k nothing (λ f. e (omega (arith, f)))) ∙ h i (omega (arith, within, e))
]

-- the inner places from this one on have the lesser of their children
abbrev pub AreLesserFrom : ℕ → ℕ → List Keyed → Type 0
AreLesserFrom from n tree = (p : ℕ) → from ≤ p → p < n → IsLesser tree p

pub lesser_more : (n q : ℕ) (tree : List Keyed) → 1 ≤ q → q < length tree → AreLesserFrom (q + 1) n tree → AreLesserFrom q n (set tree q (lesser (keyed_at tree (2 * q)) (keyed_at tree (2 * q + 1))))
lesser_more n q tree some inside h = λ p from within.
    let key = lesser (keyed_at tree (2 * q)) (keyed_at tree (2 * q + 1)) in
    let left : keyed_at (set tree q key) (2 * p) ≡ keyed_at tree (2 * p) = get_or-set_other tree q (2 * p) key nothing (λ e. omega (arith, e, from, some)) in
    let right : keyed_at (set tree q key) (2 * p + 1) ≡ keyed_at tree (2 * p + 1) = get_or-set_other tree q (2 * p + 1) key nothing (λ e. omega (arith, e, from, some)) in
    let children = ap (λ a. lesser a (keyed_at (set tree q key) (2 * p + 1))) left ∙ ap (lesser (keyed_at tree (2 * p))) right in
    elim (cases_eq p q) [
      | inl e ↦ ap (keyed_at (set tree q key)) e ∙ get_or-set_same tree q key nothing inside ∙ ap (λ r. lesser (keyed_at tree (2 * r)) (keyed_at tree (2 * r + 1))) (sym e) ∙ sym children
      | inr e ↦ get_or-set_other tree q p key nothing e ∙ h p (omega (arith, from, e)) within ∙ sym children
    ]

-- the least power of two that is no less than a number below 2 ^ 32
pub few_leaves : (n r : ℕ) → IsPowerOfTwo r → r / 2 < max 1 n → n < 2 ^ 32 → r ≤ 2 ^ 32
few_leaves n r power half few = elim (cases_lt 32 power.0) [
  | inl e ↦ let more : 2 ^ 33 ≤ 2 ^ power.0 = pow_mono e in absurd (omega (arith, more, power.1, half, few))
  | inr e ↦ let less : 2 ^ power.0 ≤ 2 ^ 32 = pow_mono e in omega (arith, less, power.1)
]
