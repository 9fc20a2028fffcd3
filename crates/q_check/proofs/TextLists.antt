-- Texts of several things, one behind another.
use Rattle.std.proofs.Common.{◌≡◌, ◌<◌, ◌+◌, ◌++◌, ◌∷◌, ◌∙◌, [], ℕ, zero, suc, List, length, take, refl, arith, sym, ap, subst, append_assoc, append-nil}
use Rattle.std.specs.Prelude.{slice_index_or}
use Rattle.std.proofs.lemmas.List.{take_more}
use Rattle.q_check.specs.QueueTexts.{AreTexts}

module _ {A : Type 0} where
  -- the texts of these were added
  pub record AddsTexts (is : A → List ℕ → Type 0) (xs : List A) (old new : List ℕ) : Type 0 where
    pub texts : List ℕ
    pub are : AreTexts is xs texts
    pub added : new ≡ old ++ texts

  texts-push : (is : A → List ℕ → Type 0) (xs : List A) (x : A) (texts last : List ℕ) → is x last → AreTexts is xs texts → AreTexts is (xs ++ x ∷ []) (texts ++ last)
  texts-push is [] x texts last here are = (last, [], here, ap (λ (t : List ℕ). t ++ last) are ∙ sym (append-nil last), refl)
  texts-push is (y ∷ xs) x texts last here h =
      (h.0, h.1 ++ last, h.2, ap (λ (t : List ℕ). t ++ last) h.3 ∙ append_assoc h.0 h.1 last, texts-push is xs x h.1 last here h.4)

  pub texts-none : (is : A → List ℕ → Type 0) (old : List ℕ) → AddsTexts is [] old old
  texts-none is old = record { texts = []; are = refl; added = sym (append-nil old) }

  more : (xs : List A) (i : ℕ) (x : A) → i < length xs → x ≡ slice_index_or xs i x → take (i + 1) xs ≡ take i xs ++ x ∷ []
  more xs i x within at = take_more xs i x within ∙ ap (λ (y : A). take i xs ++ y ∷ []) (sym at)

  pub texts-more : (is : A → List ℕ → Type 0) (xs : List A) (i : ℕ) (x : A) (old mid new last : List ℕ) → i < length xs → x ≡ slice_index_or xs i x → is x last → new ≡ mid ++ last
      → AddsTexts is (take i xs) old mid → AddsTexts is (take (i + 1) xs) old new
  texts-more is xs i x old mid new last within at here pushed adds = record {
    texts = adds.texts ++ last;
    are = subst (λ (ys : List A). AreTexts is ys (adds.texts ++ last)) (sym (more xs i x within at)) (texts-push is (take i xs) x adds.texts last here adds.are);
    added = pushed ∙ ap (λ (t : List ℕ). t ++ last) adds.added ∙ append_assoc old adds.texts last;
  }

  at_default : (xs : List A) (i : ℕ) (d : A) → i < length xs → slice_index_or xs i d ≡ slice_index_or xs i (slice_index_or xs i d)
  at_default [] i d within = absurd (omega (arith, within))
  at_default (x ∷ xs) zero d within = refl
  at_default (x ∷ xs) (suc i) d within = at_default xs i d (omega (arith, within))

  pub texts-next : (is : A → List ℕ → Type 0) (xs : List A) (i : ℕ) (d : A) (old mid new last : List ℕ) → i < length xs → is (slice_index_or xs i d) last → new ≡ mid ++ last
      → AddsTexts is (take i xs) old mid → AddsTexts is (take (i + 1) xs) old new
  texts-next is xs i d old mid new last within here pushed adds = texts-more is xs i (slice_index_or xs i d) old mid new last within (at_default xs i d within) here pushed adds

  -- where each has one text, all have one
  pub texts-one : (is : A → List ℕ → Type 0) → ((x : A) (s t : List ℕ) → is x s → is x t → s ≡ t) → (xs : List A) (s t : List ℕ) → AreTexts is xs s → AreTexts is xs t → s ≡ t
  texts-one is one [] s t hs ht = hs ∙ sym ht
  texts-one is one (x ∷ xs) s t hs ht =
      hs.3 ∙ ap (λ (a : List ℕ). a ++ hs.1) (one x hs.0 ht.0 hs.2 ht.2) ∙ ap (λ (b : List ℕ). ht.0 ++ b) (texts-one is one xs hs.1 ht.1 hs.4 ht.4) ∙ sym ht.3
