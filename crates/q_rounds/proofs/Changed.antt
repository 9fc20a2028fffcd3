-- An item that is put in the place of one is a change of it.
use Rattle.std.proofs.Common.{◌≡◌, ◌∙◌, ◌∷◌, [], ap, Bool, cond, false, List, map, None, Option, option_map, refl, Some, subst, sym, true, ℕ}
use Rattle.std.proofs.lemmas.Bool.{eqb-true}
use Rattle.std.specs.Prelude.{◌==◌, find, IfSome}
use Rattle.q_keyed.specs.Numbered.{AreApart, has_number, item_at, Numbered, put_at, without_number}
use Rattle.q_rounds.specs.declared.peer.Peer.{Peer}
use Rattle.q_rounds.specs.Rounds.{changed_number, key_of}
use Rattle.q_rounds.proofs.Lookups.{keep_lacking}
use Rattle.q_rounds.proofs.Splits.{one, put_lacking}

no_item : (o : Option (Numbered Peer)) → option_map (λ (k : Numbered Peer). k.item) o ≡ None → o ≡ None
no_item None h = refl
no_item (Some k) h = let none : ◌≡◌ {A = Option Peer} (Some k.item) None = h in absurd cc

-- a peer of the same key may be put in the place of one
pub put_same : (n : ℕ) (p x : Peer) (ks : List (Numbered Peer)) → item_at n ks ≡ Some p → x.id ≡ p.id → x.site ≡ p.site → IfSome (item_at n ks) (λ t. key_of t ≡ key_of x)
put_same n p x ks there id site =
    let key : key_of p ≡ key_of x = ap (λ i. key_of (record p { id = i })) (sym id) ∙ ap (λ s. key_of (record x { site = s })) (sym site) in
    subst (λ (o : Option Peer). IfSome o (λ t. key_of t ≡ key_of x)) (sym there) key

-- a number that no item has
pub left_none : (n : ℕ) (ks : List (Numbered Peer)) → item_at n ks ≡ None → without_number n ks ≡ ks
left_none n ks none = keep_lacking n ks (no_item (find (has_number n) ks) none)

module _ (n : ℕ) (f : Peer → Peer) where
  lacking_step : (k : Numbered Peer) (ks ls : List (Numbered Peer)) (t : Bool) → cond t (Some k) (find (has_number n) ks) ≡ None → (find (has_number n) ks ≡ None → ls ≡ ks) → cond t (one k.number (f k.item)) k ∷ ls ≡ k ∷ ks
  lacking_step k ks ls true none rest = absurd cc
  lacking_step k ks ls false none rest = ap (λ ms. k ∷ ms) (rest none)

  changed_lacking : (ks : List (Numbered Peer)) → find (has_number n) ks ≡ None → map (changed_number n f) ks ≡ ks
  changed_lacking [] none = refl
  changed_lacking (k ∷ ks) none = lacking_step k ks (map (changed_number n f) ks) (k.number == n) none (changed_lacking ks)

  pub changed_none : (ks : List (Numbered Peer)) → item_at n ks ≡ None → map (changed_number n f) ks ≡ ks
  changed_none ks none = changed_lacking ks (no_item (find (has_number n) ks) none)

  changed_step : (p : Peer) (k : Numbered Peer) (ks : List (Numbered Peer)) (t : Bool) → (k.number == n) ≡ t → option_map (λ (k : Numbered Peer). k.item) (cond t (Some k) (find (has_number n) ks)) ≡ Some p → find (has_number k.number) ks ≡ None →
      (item_at n ks ≡ Some p → map (put_at n (f p)) ks ≡ map (changed_number n f) ks) → map (put_at n (f p)) (k ∷ ks) ≡ map (changed_number n f) (k ∷ ks)
  changed_step p k ks true e there apart rest =
      let number : k.number ≡ n = eqb-true k.number n e in
      let item : k.item ≡ p = cc in
      let lacks : find (has_number n) ks ≡ None = ap (λ m. find (has_number m) ks) (sym number) ∙ apart in
      ap (λ t. cond t (one n (f p)) k ∷ map (put_at n (f p)) ks) e
      ∙ ap (λ m. one m (f p) ∷ map (put_at n (f p)) ks) (sym number)
      ∙ ap (λ y. one k.number (f y) ∷ map (put_at n (f p)) ks) (sym item)
      ∙ ap (λ ls. one k.number (f k.item) ∷ ls) (put_lacking n (f p) ks lacks ∙ sym (changed_lacking ks lacks))
      ∙ sym (ap (λ t. cond t (one k.number (f k.item)) k ∷ map (changed_number n f) ks) e)
  changed_step p k ks false e there apart rest =
      ap (λ t. cond t (one n (f p)) k ∷ map (put_at n (f p)) ks) e ∙ ap (λ ls. k ∷ ls) (rest there)
      ∙ sym (ap (λ t. cond t (one k.number (f k.item)) k ∷ map (changed_number n f) ks) e)

  pub changed_put : (p : Peer) (ks : List (Numbered Peer)) → AreApart ks → item_at n ks ≡ Some p → map (put_at n (f p)) ks ≡ map (changed_number n f) ks
  changed_put p [] apart there = let none : ◌≡◌ {A = Option Peer} None (Some p) = there in absurd cc
  changed_put p (k ∷ ks) apart there = changed_step p k ks (k.number == n) refl there apart.0 (changed_put p ks apart.1)
