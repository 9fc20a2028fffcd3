-- Places in lists that have each once, as one goes and as one comes.
use Rattle.std.proofs.Common.{◌≡◌, ◌∙◌, ◌||◌, ◌≢◌, ◌⊎◌, ◌∷◌, ◌++◌, [], ap, Bool, cond, false, inl, inr, List, refl, subst, sym, true, ℕ}
use Rattle.std.proofs.lemmas.Bool.{eq-eqb, eqb-false, eqb-true}
use Rattle.std.specs.Prelude.{◌==◌, nat_eq, not}
use Rattle.q_chains.specs.Laid.{AreApart, Lacks}
use Rattle.q_chains.specs.Lists.{inserted, is_in, without}
use Rattle.q_chains.proofs.Numbers.{other_test}

-- the place is one of these
abbrev pub IsAmong : ℕ → List ℕ → Type 0
IsAmong p [] = ⊥
IsAmong p (q ∷ qs) = (p ≡ q) ⊎ IsAmong p qs

-- it is, and another stands behind it
abbrev pub HasNext : ℕ → List ℕ → Type 0
HasNext p [] = ⊥
HasNext p (q ∷ []) = ⊥
HasNext p (q ∷ r ∷ qs) = (p ≡ q) ⊎ HasNext p (r ∷ qs)

pub other_way : (a b : ℕ) → a ≢ b → b ≢ a
other_way a b h e = h (sym e)

pub among_next : (p : ℕ) (qs : List ℕ) → HasNext p qs → IsAmong p qs
among_next p [] h = h
among_next p (q ∷ []) h = absurd h
among_next p (q ∷ r ∷ qs) (inl e) = inl e
among_next p (q ∷ r ∷ qs) (inr h) = inr (among_next p (r ∷ qs) h)

pub lacks_other : (p q : ℕ) (qs : List ℕ) → Lacks p qs → IsAmong q qs → p ≢ q
lacks_other p q [] l i = absurd i
lacks_other p q (r ∷ qs) l (inl e) = λ k. l.0 (k ∙ e)
lacks_other p q (r ∷ qs) l (inr i) = lacks_other p q qs l.1 i

-- Whether a place is among others, as a test tells it.
among_step : (n x : ℕ) (xs : List ℕ) (t : Bool) → nat_eq n x ≡ t → (t || is_in n xs) ≡ true → (is_in n xs ≡ true → IsAmong n xs) → IsAmong n (x ∷ xs)
among_step n x xs true e h rest = inl (eqb-true n x e)
among_step n x xs false e h rest = inr (rest h)

pub among_from : (n : ℕ) (xs : List ℕ) → is_in n xs ≡ true → IsAmong n xs
among_from n [] h = cc
among_from n (x ∷ xs) h = among_step n x xs (nat_eq n x) refl h (among_from n xs)

lacks_step : (n x : ℕ) (xs : List ℕ) (t : Bool) → nat_eq n x ≡ t → (t || is_in n xs) ≡ false → (is_in n xs ≡ false → Lacks n xs) → Lacks n (x ∷ xs)
lacks_step n x xs true e h rest = cc
lacks_step n x xs false e h rest = (λ k. eqb-false n x e k, rest h)

pub lacks_from : (n : ℕ) (xs : List ℕ) → is_in n xs ≡ false → Lacks n xs
lacks_from n [] h = tt
lacks_from n (x ∷ xs) h = lacks_step n x xs (nat_eq n x) refl h (lacks_from n xs)

-- One goes.
pub without_here : (n x : ℕ) (xs : List ℕ) → n ≡ x → without n (x ∷ xs) ≡ without n xs
without_here n x xs e = ap (λ t. cond (not t) (x ∷ without n xs) (without n xs)) (eq-eqb x n (sym e))

pub without_there : (n x : ℕ) (xs : List ℕ) → n ≢ x → without n (x ∷ xs) ≡ x ∷ without n xs
without_there n x xs h = ap (λ t. cond (not t) (x ∷ without n xs) (without n xs)) (other_test x n (other_way n x h))

pub without_lacking : (n : ℕ) (xs : List ℕ) → Lacks n xs → without n xs ≡ xs
without_lacking n [] l = refl
without_lacking n (x ∷ xs) l = without_there n x xs l.0 ∙ ap (λ ys. x ∷ ys) (without_lacking n xs l.1)

lacks_gone : (p x : ℕ) (ys : List ℕ) (t : Bool) → p ≢ x → Lacks p ys → Lacks p (cond (not t) (x ∷ ys) ys)
lacks_gone p x ys true h l = l
lacks_gone p x ys false h l = (h, l)

pub lacks_without : (p n : ℕ) (xs : List ℕ) → Lacks p xs → Lacks p (without n xs)
lacks_without p n [] l = tt
lacks_without p n (x ∷ xs) l = lacks_gone p x (without n xs) (x == n) l.0 (lacks_without p n xs l.1)

apart_gone : (x : ℕ) (ys : List ℕ) (t : Bool) → Lacks x ys → AreApart ys → AreApart (cond (not t) (x ∷ ys) ys)
apart_gone x ys true l h = h
apart_gone x ys false l h = (l, h)

pub apart_without : (n : ℕ) (xs : List ℕ) → AreApart xs → AreApart (without n xs)
apart_without n [] h = tt
apart_without n (x ∷ xs) h = apart_gone x (without n xs) (x == n) (lacks_without x n xs h.0) (apart_without n xs h.1)

lacks_before : (p n x : ℕ) (ys : List ℕ) (t : Bool) → (x == n) ≡ t → p ≢ n → Lacks p (cond (not t) (x ∷ ys) ys) → (p ≢ x) × Lacks p ys
lacks_before p n x ys true e h l = (λ k. h (k ∙ eqb-true x n e), l)
lacks_before p n x ys false e h l = l

-- what isn't there without another wasn't there with it
pub lacks_with : (p n : ℕ) (xs : List ℕ) → p ≢ n → Lacks p (without n xs) → Lacks p xs
lacks_with p n [] h l = tt
lacks_with p n (x ∷ xs) h l =
    let was = lacks_before p n x (without n xs) (x == n) refl h l in
    (was.0, lacks_with p n xs h was.1)

-- One comes before another.
pub inserted_here : (n at x : ℕ) (xs : List ℕ) → at ≡ x → inserted n at (x ∷ xs) ≡ n ∷ x ∷ inserted n at xs
inserted_here n at x xs e = ap (λ t. cond t (n ∷ x ∷ []) (x ∷ []) ++ inserted n at xs) (eq-eqb x at (sym e))

pub inserted_there : (n at x : ℕ) (xs : List ℕ) → at ≢ x → inserted n at (x ∷ xs) ≡ x ∷ inserted n at xs
inserted_there n at x xs h = ap (λ t. cond t (n ∷ x ∷ []) (x ∷ []) ++ inserted n at xs) (other_test x at (other_way at x h))

pub inserted_lacking : (n at : ℕ) (xs : List ℕ) → Lacks at xs → inserted n at xs ≡ xs
inserted_lacking n at [] l = refl
inserted_lacking n at (x ∷ xs) l = inserted_there n at x xs l.0 ∙ ap (λ ys. x ∷ ys) (inserted_lacking n at xs l.1)

lacks_come : (p n x : ℕ) (ys : List ℕ) (t : Bool) → p ≢ n → p ≢ x → Lacks p ys → Lacks p (cond t (n ∷ x ∷ []) (x ∷ []) ++ ys)
lacks_come p n x ys true h k l = (h, (k, l))
lacks_come p n x ys false h k l = (k, l)

pub lacks_inserted : (p n at : ℕ) (xs : List ℕ) → p ≢ n → Lacks p xs → Lacks p (inserted n at xs)
lacks_inserted p n at [] h l = tt
lacks_inserted p n at (x ∷ xs) h l = lacks_come p n x (inserted n at xs) (x == at) h l.0 (lacks_inserted p n at xs h l.1)

apart_come : (n at x : ℕ) (xs : List ℕ) (t : Bool) → (x == at) ≡ t → (n ≢ x) × Lacks n xs → Lacks x xs → AreApart xs → AreApart (inserted n at xs) → AreApart (cond t (n ∷ x ∷ []) (x ∷ []) ++ inserted n at xs)
apart_come n at x xs true e free l h rest =
    let same = inserted_lacking n at xs (subst (λ (p : ℕ). Lacks p xs) (eqb-true x at e) l) in
    subst (λ (ys : List ℕ). AreApart (n ∷ x ∷ ys)) (sym same) (free, (l, h))
apart_come n at x xs false e free l h rest = (lacks_inserted x n at xs (other_way n x free.0) l, rest)

pub apart_inserted : (n at : ℕ) (xs : List ℕ) → Lacks n xs → AreApart xs → AreApart (inserted n at xs)
apart_inserted n at [] free h = tt
apart_inserted n at (x ∷ xs) free h = apart_come n at x xs (x == at) refl free h.0 h.1 (apart_inserted n at xs free.1 h.1)

lacks_came : (p n x : ℕ) (ys : List ℕ) (t : Bool) → Lacks p (cond t (n ∷ x ∷ []) (x ∷ []) ++ ys) → (p ≢ x) × Lacks p ys
lacks_came p n x ys true l = l.1
lacks_came p n x ys false l = l

-- what isn't there with another wasn't there before it came
pub lacks_uninserted : (p n at : ℕ) (xs : List ℕ) → Lacks p (inserted n at xs) → Lacks p xs
lacks_uninserted p n at [] l = tt
lacks_uninserted p n at (x ∷ xs) l =
    let was = lacks_came p n x (inserted n at xs) (x == at) l in
    (was.0, lacks_uninserted p n at xs was.1)

-- it isn't the one that came
pub other_inserted : (p n at : ℕ) (xs : List ℕ) → IsAmong at xs → Lacks p (inserted n at xs) → p ≢ n
other_inserted p n at [] i l = absurd i
other_inserted p n at (x ∷ xs) (inl e) l =
    let here : Lacks p (n ∷ x ∷ inserted n at xs) = subst (Lacks p) (inserted_here n at x xs e) l in
    here.0
other_inserted p n at (x ∷ xs) (inr i) l = other_inserted p n at xs i (lacks_came p n x (inserted n at xs) (x == at) l).1
