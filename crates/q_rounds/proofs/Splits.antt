-- The items before and behind the one of a number.
use Rattle.std.proofs.Common.{◌≡◌, ◌∙◌, ◌∷◌, ◌++◌, [], ap, Bool, cond, false, List, map, None, not, option_map, refl, Some, sym, true, ℕ}
use Rattle.std.proofs.lemmas.Bool.{eqb-true}
use Rattle.std.specs.Prelude.{◌==◌, find}
use Rattle.q_keyed.specs.Numbered.{AreApart, first_such, has_number, item_at, Numbered, put_at, without_number}
use Rattle.q_rounds.proofs.Lookups.{keep_lacking}

module _ {T : Type 0} where
  abbrev pub one : ℕ → T → Numbered T
  one n x = record { number = n; item = x }

  pub record IsSplit (n : ℕ) (p : T) (ks : List (Numbered T)) : Type 0 where
    pub front : List (Numbered T)
    pub back : List (Numbered T)
    pub whole : ks ≡ front ++ one n p ∷ back
    pub put : (x : T) → map (put_at n x) ks ≡ front ++ one n x ∷ back
    pub left : without_number n ks ≡ front ++ back

  lacking_step : (n : ℕ) (x : T) (k : Numbered T) (ks ls : List (Numbered T)) (t : Bool) → cond t (Some k) (find (has_number n) ks) ≡ None → (find (has_number n) ks ≡ None → ls ≡ ks) → cond t (one n x) k ∷ ls ≡ k ∷ ks
  lacking_step n x k ks ls true none rest = cc
  lacking_step n x k ks ls false none rest = ap (λ ms. k ∷ ms) (rest none)

  pub put_lacking : (n : ℕ) (x : T) (ks : List (Numbered T)) → find (has_number n) ks ≡ None → map (put_at n x) ks ≡ ks
  put_lacking n x [] none = refl
  put_lacking n x (k ∷ ks) none = lacking_step n x k ks (map (put_at n x) ks) (k.number == n) none (put_lacking n x ks)

  split_step : (n : ℕ) (p : T) (k : Numbered T) (ks : List (Numbered T)) (t : Bool) → (k.number == n) ≡ t → option_map (λ (k : Numbered T). k.item) (cond t (Some k) (find (has_number n) ks)) ≡ Some p → find (has_number k.number) ks ≡ None →
      (item_at n ks ≡ Some p → IsSplit n p ks) → IsSplit n p (k ∷ ks)
  split_step n p k ks true e there apart rest =
      let number : k.number ≡ n = eqb-true k.number n e in
      let item : k.item ≡ p = cc in
      let same : k ≡ one n p = ap (λ m. one m k.item) number ∙ ap (one n) item in
      let lacks : find (has_number n) ks ≡ None = ap (λ m. find (has_number m) ks) (sym number) ∙ apart in
      record {
        front = [];
        back = ks;
        whole = ap (λ (y : Numbered T). y ∷ ks) same;
        put = λ x. ap (λ t. cond t (one n x) k ∷ map (put_at n x) ks) e ∙ ap (λ ls. one n x ∷ ls) (put_lacking n x ks lacks);
        left = ap (λ t. cond (not t) (k ∷ without_number n ks) (without_number n ks)) e ∙ keep_lacking n ks lacks;
      }
  split_step n p k ks false e there apart rest =
      let s = rest there in
      record {
        front = k ∷ s.front;
        back = s.back;
        whole = ap (λ ms. k ∷ ms) s.whole;
        put = λ x. ap (λ t. cond t (one n x) k ∷ map (put_at n x) ks) e ∙ ap (λ ms. k ∷ ms) (s.put x);
        left = ap (λ t. cond (not t) (k ∷ without_number n ks) (without_number n ks)) e ∙ ap (λ ms. k ∷ ms) s.left;
      }

  pub split : (n : ℕ) (p : T) (ks : List (Numbered T)) → AreApart ks → item_at n ks ≡ Some p → IsSplit n p ks
  split n p [] apart there = absurd cc
  split n p (k ∷ ks) apart there = split_step n p k ks (k.number == n) refl there apart.0 (λ h. split n p ks apart.1 h)

  -- another item that the test doesn't tell from the one
  same_step : (q : T → Bool) (k : Numbered T) (ks ls : List (Numbered T)) (t : Bool) → first_such q ls ≡ first_such q ks → option_map (λ (k : Numbered T). k.number) (cond t (Some k) (find (λ k. q k.item) ls)) ≡ option_map (λ (k : Numbered T). k.number) (cond t (Some k) (find (λ k. q k.item) ks))
  same_step q k ks ls true rest = refl
  same_step q k ks ls false rest = rest

  alike_step : (n : ℕ) (p x : T) (ks : List (Numbered T)) (q : T → Bool) (t : Bool) → option_map (λ (k : Numbered T). k.number) (cond t (Some (one n x)) (find (λ k. q k.item) ks)) ≡ option_map (λ (k : Numbered T). k.number) (cond t (Some (one n p)) (find (λ k. q k.item) ks))
  alike_step n p x ks q true = refl
  alike_step n p x ks q false = refl

  alike_at : (q : T → Bool) (n : ℕ) (p x : T) (front back : List (Numbered T)) → q x ≡ q p → first_such q (front ++ one n x ∷ back) ≡ first_such q (front ++ one n p ∷ back)
  alike_at q n p x [] back same =
      ap (λ t. option_map (λ (k : Numbered T). k.number) (cond t (Some (one n x)) (find (λ k. q k.item) back))) same ∙ alike_step n p x back q (q p)
  alike_at q n p x (k ∷ ks) back same = same_step q k (ks ++ one n p ∷ back) (ks ++ one n x ∷ back) (q k.item) (alike_at q n p x ks back same)

  pub such_put : (q : T → Bool) (n : ℕ) (p x : T) (ks : List (Numbered T)) → AreApart ks → item_at n ks ≡ Some p → q x ≡ q p → first_such q (map (put_at n x) ks) ≡ first_such q ks
  such_put q n p x ks apart there same =
      let s = split n p ks apart there in
      ap (first_such q) (s.put x) ∙ alike_at q n p x s.front s.back same ∙ sym (ap (first_such q) s.whole)
