-- A tree of which one place is mended.
use Rattle.std.proofs.Common.{◌≡◌, ◌≢◌, ℕ, ◌+◌, ◌*◌, ◌/◌, ◌<◌, ◌≤◌, List, length, sym, ap, ◌∙◌, arith, set, suc, zero, drop}
use Rattle.std.proofs.lemmas.Bool.{cases_eq}
use Rattle.std.proofs.lemmas.List.{get_or-set_other, get_or-set_same}
use Rattle.std.proofs.Common.{get_or, get_or-drop, ◌∷◌, [], refl, inl, inr}
use Rattle.q_least.specs.Trees.{AreLesser, AreLesserBut, AreNumbered, keyed_at, lesser, nothing}
use Rattle.q_least.specs.declared.tree.Keyed.{Keyed}

above : (p q : ℕ) → p ≢ q / 2 → (2 * p ≢ q) × (2 * p + 1 ≢ q)
above p q h = (λ e. h (omega (arith, e)), λ e. h (omega (arith, e)))

pub mended : (n q : ℕ) (tree : List Keyed) → 1 ≤ q → q < n → length tree ≡ 2 * n → AreLesserBut q n tree → AreLesserBut (q / 2) n (set tree q (lesser (keyed_at tree (2 * q)) (keyed_at tree (2 * q + 1))))
mended n q tree some within len h = λ p low high other.
    let key = lesser (keyed_at tree (2 * q)) (keyed_at tree (2 * q + 1)) in
    let apart = above p q other in
    elim (cases_eq p q) [
      | inl e ↦
          let here : keyed_at (set tree q key) p ≡ key = ap (keyed_at (set tree q key)) e ∙ get_or-set_same tree q key nothing (omega (arith, within, len)) in
          let left : keyed_at (set tree q key) (2 * p) ≡ keyed_at tree (2 * q) = get_or-set_other tree q (2 * p) key nothing apart.0 ∙ ap (λ r. keyed_at tree (2 * r)) e in
          let right : keyed_at (set tree q key) (2 * p + 1) ≡ keyed_at tree (2 * q + 1) = get_or-set_other tree q (2 * p + 1) key nothing apart.1 ∙ ap (λ r. keyed_at tree (2 * r + 1)) e in
          here ∙ sym (ap (λ a. lesser a (keyed_at (set tree q key) (2 * p + 1))) left ∙ ap (lesser (keyed_at tree (2 * q))) right)
      | inr e ↦
          let here : keyed_at (set tree q key) p ≡ keyed_at tree p = get_or-set_other tree q p key nothing e in
          let left : keyed_at (set tree q key) (2 * p) ≡ keyed_at tree (2 * p) = get_or-set_other tree q (2 * p) key nothing apart.0 in
          let right : keyed_at (set tree q key) (2 * p + 1) ≡ keyed_at tree (2 * p + 1) = get_or-set_other tree q (2 * p + 1) key nothing apart.1 in
          here ∙ h p low high e ∙ sym (ap (λ a. lesser a (keyed_at (set tree q key) (2 * p + 1))) left ∙ ap (lesser (keyed_at tree (2 * p))) right)
    ]

pub drop-set_before : (n q : ℕ) (tree : List Keyed) (k : Keyed) → q < n → drop n (set tree q k) ≡ drop n tree
drop-set_before n q [] k h = refl
drop-set_before zero q (x ∷ xs) k h = absurd (omega (arith, h))
drop-set_before (suc n) zero (x ∷ xs) k h = refl
drop-set_before (suc n) (suc q) (x ∷ xs) k h = drop-set_before n q xs k (omega (arith, h))

pub drop-set_behind : (n i : ℕ) (tree : List Keyed) (k : Keyed) → drop n (set tree (n + i) k) ≡ set (drop n tree) i k
drop-set_behind zero i xs k = let e : 0 + i ≡ i = omega arith in ap (λ j. set xs j k) e
drop-set_behind (suc n) i [] k = refl
drop-set_behind (suc n) i (x ∷ xs) k = let e : suc n + i ≡ suc (n + i) = omega arith in ap (λ j. drop (suc n) (set (x ∷ xs) j k)) e ∙ drop-set_behind n i xs k

-- a leaf is written: only the place above may be wrong
pub written : (n at : ℕ) (k : Keyed) (tree : List Keyed) → n ≤ at → AreLesser n tree → AreLesserBut (at / 2) n (set tree at k)
written n at k tree leaf h = λ p low high other.
    let apart = above p at other in
    let here : keyed_at (set tree at k) p ≡ keyed_at tree p = get_or-set_other tree at p k nothing (λ e. omega (arith, e, high, leaf)) in
    let left : keyed_at (set tree at k) (2 * p) ≡ keyed_at tree (2 * p) = get_or-set_other tree at (2 * p) k nothing apart.0 in
    let right : keyed_at (set tree at k) (2 * p + 1) ≡ keyed_at tree (2 * p + 1) = get_or-set_other tree at (2 * p + 1) k nothing apart.1 in
    here ∙ h p low high ∙ sym (ap (λ a. lesser a (keyed_at (set tree at k) (2 * p + 1))) left ∙ ap (lesser (keyed_at tree (2 * p))) right)

-- numbers stay where no leaf is written
pub numbered_before : (n q : ℕ) (tree : List Keyed) (k : Keyed) → q < n → AreNumbered n tree → AreNumbered n (set tree q k)
numbered_before n q tree k inner h = λ i within.
    ap (λ (x : Keyed). x.number) (get_or-set_other tree q (n + i) k nothing (λ e. omega (arith, e, inner))) ∙ h i within

-- and where a leaf is written with its own
pub numbered_leaf : (n leaf : ℕ) (tree : List Keyed) (k : Keyed) → n + leaf < length tree → k.number ≡ leaf → AreNumbered n tree → AreNumbered n (set tree (n + leaf) k)
numbered_leaf n leaf tree k inside own h = λ i within. elim (cases_eq i leaf) [
  | inl e ↦
      let there : n + leaf ≡ n + i = omega (arith, e) in
      ap (λ (j : ℕ). (keyed_at (set tree (n + leaf) k) j).number) (sym there) ∙ ap (λ (x : Keyed). x.number) (get_or-set_same tree (n + leaf) k nothing inside) ∙ own ∙ sym e
  | inr e ↦ ap (λ (x : Keyed). x.number) (get_or-set_other tree (n + leaf) (n + i) k nothing (λ f. e (omega (arith, f)))) ∙ h i within
]

-- numbers are of the leaves alone
pub numbered_as_leaves : (n : ℕ) (old new : List Keyed) → drop n new ≡ drop n old → AreNumbered n old → AreNumbered n new
numbered_as_leaves n old new same h = λ i within.
    ap (λ (x : Keyed). x.number) (sym (get_or-drop n new i nothing) ∙ ap (λ (xs : List Keyed). get_or xs i nothing) same ∙ get_or-drop n old i nothing) ∙ h i within
