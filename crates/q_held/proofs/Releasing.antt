-- Marks are taken away until none is left.
use Rattle.std.proofs.Common.{◌≡◌, ◌∙◌, ◌∷◌, ◌+◌, ◌<◌, ◌≤◌, [], ap, arith, Bool, cond, false, inl, inr, length, List, map, None, refl, set, Some, true, ℕ}
use Rattle.std.proofs.lemmas.Bool.{cases_eq}
use Rattle.std.proofs.lemmas.List.{get_or-set_other, get_or-set_same}
use Rattle.std.specs.Prelude.{find}
use Rattle.q_marked.specs.Marks.{is_marked}
use Rattle.q_peers.specs.Numbered.{Numbered}
use Rattle.q_held.specs.Held.{released}
use Rattle.q_held.specs.Sound.{numbers_of, with_marks}

abbrev weight : Bool → ℕ
weight t = cond t 1 0

-- how many of the numbers are marked
abbrev pub marked_count : List Bool → List ℕ → ℕ
marked_count marks [] = 0
marked_count marks (n ∷ ns) = weight (is_marked n marks) + marked_count marks ns

module _ (marks : List Bool) (n : ℕ) (below : n < length marks) where
  gone : is_marked n (set marks n false) ≡ false
  gone = get_or-set_same marks n false false below

  no_more : (x : ℕ) → weight (is_marked x (set marks n false)) ≤ weight (is_marked x marks)
  no_more x = elim (cases_eq x n) [
    | inl same ↦
        let none : weight (is_marked x (set marks n false)) ≡ 0 = ap (λ k. weight (is_marked k (set marks n false))) same ∙ ap weight gone in
        omega (arith, none)
    | inr other ↦
        let kept : weight (is_marked x (set marks n false)) ≡ weight (is_marked x marks) = ap weight (get_or-set_other marks n x false false other) in
        omega (arith, kept)
  ]

  as_many : (xs : List ℕ) → marked_count (set marks n false) xs ≤ marked_count marks xs
  as_many [] = omega arith
  as_many (x ∷ xs) = let here = no_more x in let more = as_many xs in omega (arith, here, more)

  fewer_step : (x : ℕ) (xs : List ℕ) (t : Bool) → is_marked x marks ≡ t → cond t (Some x) (find (λ k. is_marked k marks) xs) ≡ Some n →
      (find (λ k. is_marked k marks) xs ≡ Some n → marked_count (set marks n false) xs < marked_count marks xs) → marked_count (set marks n false) (x ∷ xs) < marked_count marks (x ∷ xs)
  fewer_step x xs true e is rest =
      let same : x ≡ n = cc in
      let none : weight (is_marked x (set marks n false)) ≡ 0 = ap (λ k. weight (is_marked k (set marks n false))) same ∙ ap weight gone in
      let was : weight (is_marked x marks) ≡ 1 = ap weight e in
      let more = as_many xs in
      omega (arith, none, was, more)
  fewer_step x xs false e is rest = let here = no_more x in let more = rest is in omega (arith, here, more)

  -- the first that is marked loses its mark
  pub fewer : (xs : List ℕ) → find (λ k. is_marked k marks) xs ≡ Some n → marked_count (set marks n false) xs < marked_count marks xs
  fewer [] is = cc
  fewer (x ∷ xs) is = fewer_step x xs (is_marked x marks) refl is (fewer xs)

freed_step : (marks old : List Bool) (k : Numbered) (ks : List Numbered) (t : Bool) → is_marked k.number marks ≡ t → cond t (Some k.number) (find (λ n. is_marked n marks) (numbers_of ks)) ≡ None →
    (find (λ n. is_marked n marks) (numbers_of ks) ≡ None → with_marks marks ks ≡ map released (with_marks old ks)) → with_marks marks (k ∷ ks) ≡ map released (with_marks old (k ∷ ks))
freed_step marks old k ks true e none rest = cc
freed_step marks old k ks false e none rest =
    ap (λ c. record { number = k.number; row = k.row; held = c } ∷ with_marks marks ks) e
    ∙ ap (λ l. record { number = k.number; row = k.row; held = false } ∷ l) (rest none)

-- no number is marked, and no row held back
pub all_freed : (marks old : List Bool) (ks : List Numbered) → find (λ n. is_marked n marks) (numbers_of ks) ≡ None → with_marks marks ks ≡ map released (with_marks old ks)
all_freed marks old [] none = refl
all_freed marks old (k ∷ ks) none = freed_step marks old k ks (is_marked k.number marks) refl none (all_freed marks old ks)
