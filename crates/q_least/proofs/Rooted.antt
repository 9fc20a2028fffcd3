-- The root of a tree is the first of its leaves that has the least key.
use Rattle.std.proofs.Common.{◌≡◌, ℕ, ◌+◌, ◌*◌, ◌/◌, ◌<◌, ◌≤◌, ◌-◌, ◌||◌, ◌&&◌, ◌==◌, Bool, if◌then◌else◌, List, length, sym, ap, ◌∙◌, arith, suc, subst, zero, drop, length-drop, nat_lt, refl, inl, inr, true, false, ◌⊎◌}
use Rattle.std.proofs.lemmas.Bool.{cases_eq, cases_lt, eqb-false, eqb-true, ltb-false, ltb-true}
use Rattle.std.proofs.Common.{get_or-drop}
use Rattle.std.proofs.lemmas.List.{get_or-map, length-map}
use Rattle.q_least.specs.Keys.{IsLeastAt, key_at}
use Rattle.q_least.specs.Trees.{AreLesser, AreNumbered, IsTree, keyed_at, leaf_keys, lesser, nothing}
use Rattle.q_least.specs.declared.tree.Keyed.{Keyed}

-- it is not behind the other
pub record IsNotBehind (a b : Keyed) : Type 0 where
  pub key : a.key ≤ b.key
  pub number : a.key ≡ b.key → a.number ≤ b.number

same : (a : Keyed) → IsNotBehind a a
same a = record { key = omega arith; number = λ _. omega arith }

trans : (a b c : Keyed) → IsNotBehind a b → IsNotBehind b c → IsNotBehind a c
trans a b c h k = record {
  key = omega (arith, h.key, k.key);
  number = λ e.
      let left : a.key ≡ b.key = omega (arith, e, h.key, k.key) in
      let right : b.key ≡ c.key = omega (arith, e, h.key, k.key) in
      omega (arith, h.number left, k.number right);
}

-- one of the two, which is not behind the other
pub record IsLesserOf (a b x : Keyed) : Type 0 where
  pub one : (x ≡ a) ⊎ (x ≡ b)
  pub left : IsNotBehind x a
  pub right : IsNotBehind x b

chosen : (less even lower : Bool) (a b : Keyed) → nat_lt b.key a.key ≡ less → (b.key == a.key) ≡ even → nat_lt b.number a.number ≡ lower → IsLesserOf a b (if less || even && lower then b else a)
chosen true even lower a b h k l = let less = ltb-true b.key a.key h in record {
  one = inr refl;
  left = record { key = omega (arith, less); number = λ e. absurd (omega (arith, less, e)) };
  right = same b;
}
chosen false true true a b h k l = let even = eqb-true b.key a.key k in let lower = ltb-true b.number a.number l in record {
  one = inr refl;
  left = record { key = omega (arith, even); number = λ _. omega (arith, lower) };
  right = same b;
}
chosen false true false a b h k l = let even = eqb-true b.key a.key k in let higher = ltb-false b.number a.number l in record {
  one = inl refl;
  left = same a;
  right = record { key = omega (arith, even); number = λ _. omega (arith, higher) };
}
chosen false false lower a b h k l = let more = ltb-false b.key a.key h in let other = eqb-false b.key a.key k in record {
  one = inl refl;
  left = same a;
  right = record { key = omega (arith, more); number = λ e. absurd (other (sym e)) };
}

pub lesser_of : (a b : Keyed) → IsLesserOf a b (lesser a b)
lesser_of a b = chosen (nat_lt b.key a.key) (b.key == a.key) (nat_lt b.number a.number) a b refl refl refl

-- the root is behind no place
pub root_first : (fuel n q : ℕ) (tree : List Keyed) → AreLesser n tree → 1 ≤ q → q < 2 * n → q ≤ fuel → IsNotBehind (keyed_at tree 1) (keyed_at tree q)
root_first zero n q tree h low high enough = absurd (omega (arith, low, enough))
root_first (suc fuel) n q tree h low high enough =
    elim (cases_eq q 1) [
      | inl e ↦ subst (λ (p : ℕ). IsNotBehind (keyed_at tree 1) (keyed_at tree p)) (sym e) (same (keyed_at tree 1))
      | inr e ↦
          let up = q / 2 in
          let big : 2 ≤ q = omega (arith, low, e) in
          let rest = root_first fuel n up tree h (omega (arith, big)) (omega (arith, high, big)) (omega (arith, enough, big)) in
          let step = h up (omega (arith, big)) (omega (arith, high)) in
          let of = subst (IsLesserOf (keyed_at tree (2 * up)) (keyed_at tree (2 * up + 1))) (sym step) (lesser_of (keyed_at tree (2 * up)) (keyed_at tree (2 * up + 1))) in
          elim (cases_eq q (2 * up)) [
            | inl even ↦ subst (λ (p : ℕ). IsNotBehind (keyed_at tree 1) (keyed_at tree p)) (sym even) (trans (keyed_at tree 1) (keyed_at tree up) (keyed_at tree (2 * up)) rest of.left)
            | inr odd ↦
                let there : q ≡ 2 * up + 1 = omega (arith, odd) in
                subst (λ (p : ℕ). IsNotBehind (keyed_at tree 1) (keyed_at tree p)) (sym there) (trans (keyed_at tree 1) (keyed_at tree up) (keyed_at tree (2 * up + 1)) rest of.right)
          ]
    ]

-- it is the leaf of its number
record IsLeaf (n : ℕ) (tree : List Keyed) (x : Keyed) : Type 0 where
  pub within : x.number < n
  pub leaf : keyed_at tree (n + x.number) ≡ x

-- each place is one of the leaves
one_leaf : (fuel n q : ℕ) (tree : List Keyed) → AreLesser n tree → AreNumbered n tree → 1 ≤ q → q < 2 * n → 2 * n ≤ q + fuel → IsLeaf n tree (keyed_at tree q)
one_leaf zero n q tree h numbered low high enough = absurd (omega (arith, high, enough))
one_leaf (suc fuel) n q tree h numbered low high enough =
    elim (cases_lt q n) [
      | inr leaf ↦
          let i = q - n in
          let there : n + i ≡ q = omega (arith, leaf) in
          let own : (keyed_at tree q).number ≡ i = ap (λ (p : ℕ). (keyed_at tree p).number) (sym there) ∙ numbered i (omega (arith, leaf, high)) in
          record { within = omega (arith, own, leaf, high); leaf = ap (keyed_at tree) (omega (arith, own, leaf)) }
      | inl inner ↦
          let step = h q low inner in
          let of = subst (IsLesserOf (keyed_at tree (2 * q)) (keyed_at tree (2 * q + 1))) (sym step) (lesser_of (keyed_at tree (2 * q)) (keyed_at tree (2 * q + 1))) in
          elim of.one [
            | inl e ↦ subst (IsLeaf n tree) (sym e) (one_leaf fuel n (2 * q) tree h numbered (omega (arith, low)) (omega (arith, inner)) (omega (arith, enough, low)))
            | inr e ↦ subst (IsLeaf n tree) (sym e) (one_leaf fuel n (2 * q + 1) tree h numbered (omega arith) (omega (arith, inner)) (omega (arith, enough, low)))
          ]
    ]

-- the key of a number is that of its leaf
pub leaf_key_at : (n i : ℕ) (tree : List Keyed) → length tree ≡ 2 * n → i < n → key_at (leaf_keys n tree) i ≡ (keyed_at tree (n + i)).key
leaf_key_at n i tree len within =
    get_or-map (λ (k : Keyed). k.key) (drop n tree) i nothing 0 (omega (arith, length-drop n tree, len, within)) ∙ ap (λ (k : Keyed). k.key) (get_or-drop n tree i nothing)

pub least_at : (n : ℕ) (tree : List Keyed) → IsTree n tree → IsLeastAt (leaf_keys n tree) (keyed_at tree 1).number
least_at n tree h =
    let root = keyed_at tree 1 in
    let len : length (leaf_keys n tree) ≡ n = length-map (drop n tree) (λ (k : Keyed). k.key) ∙ omega (arith, length-drop n tree, h.len) in
    let leaf = one_leaf (2 * n) n 1 tree h.lesser h.numbered (omega arith) (omega (arith, h.some)) (omega arith) in
    let own : key_at (leaf_keys n tree) root.number ≡ root.key = leaf_key_at n root.number tree h.len leaf.within ∙ ap (λ (k : Keyed). k.key) leaf.leaf in
    let before = λ (j : ℕ) (within : j < n). root_first (n + j) n (n + j) tree h.lesser (omega (arith, h.some)) (omega (arith, within)) (omega arith) in
    record {
      within = omega (arith, len, leaf.within);
      least = λ j inside.
          let within : j < n = omega (arith, len, inside) in
          omega (arith, own, leaf_key_at n j tree h.len within, (before j within).key);
      first = λ j earlier.
          let within : j < n = omega (arith, earlier, leaf.within) in
          let there = leaf_key_at n j tree h.len within in
          let behind = before j within in
          elim (cases_eq root.key (keyed_at tree (n + j)).key) [
            | inl e ↦ absurd (omega (arith, behind.number e, h.numbered j within, earlier))
            | inr e ↦ omega (arith, own, there, behind.key, e)
          ];
    }
