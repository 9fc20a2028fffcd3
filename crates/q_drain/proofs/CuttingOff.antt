-- How many deliveries are cut off, while sessions come and go.
use native.Mathlib.Omega.{arith}
use Rattle.std.proofs.Common.{◌≡◌, ◌<◌, ◌+◌, ◌⊎◌, inl, inr, ℕ, Bool, true, false, if◌then◌else◌, List, [], ◌∷◌, ◌++◌, map, not, Option, Some, None, refl, sym, ap, ◌∙◌, subst, eq-eqb}
use Rattle.std.proofs.lemmas.Bool.{ne_eqb}
use Rattle.std.proofs.lemmas.List.Sums.{sum_by-append, sum_by-cons}
use Rattle.std.specs.List.{AllByRecursion, count_by}
use Rattle.std.specs.Option.{is_some}
use Rattle.std.specs.Prelude.{◌&&◌, ◌==◌}
use Rattle.q_agent.specs.Sessions.{OpenSession, Rises, replaced, without}
use Rattle.q_agent.specs.NextPoll.{GoesOn}
use Rattle.q_agent.specs.Sessions.{Work}
use Rattle.q_drain.proofs.Pairing.{HasNumber}
use Rattle.q_drain.proofs.Replying.{longer}
use Rattle.q_drain.specs.Cases.{Case}
use Rattle.q_drain.specs.Causes.{has_failed}
use Rattle.q_drain.specs.Driving.{cut_off, is_cut_off}
use Rattle.q_drain.specs.Flights.{without_flight}
use Rattle.q_drain.specs.Works.{Pairs}
use Rattle.q_host.specs.View.{View as HostView}
use Rattle.q_link.specs.Routes.{has_route}
use Rattle.q_model.specs.declared.entry.Entry.{Entry}
use Rattle.q_model.specs.declared.rows.Delivery.{Delivery}

-- ---- cases

-- 1 for a case that failed
abbrev failure : Case → ℕ
failure c = if has_failed c then 1 else 0

-- what is told later changes no count
pub failed_longer : (es : List Entry) (cs : List Case) → count_by has_failed (map (longer es) cs) ≡ count_by has_failed cs
failed_longer es [] = refl
failed_longer es (c ∷ cs) =
    let rest = failed_longer es cs in
    let one = sum_by-cons failure (longer es c) (map (longer es) cs) in
    let other = sum_by-cons failure c cs in
    omega (arith, rest, one, other)

pub failed_more : (cs : List Case) (c : Case) → count_by has_failed (cs ++ c ∷ []) ≡ count_by has_failed cs + (if has_failed c then 1 else 0)
failed_more cs c =
    let all = sum_by-append failure cs (c ∷ []) in
    let one = sum_by-cons failure c [] in
    omega (arith, all, one)

-- ---- sessions

-- one more pair
pub cut_more : (P : Delivery → OpenSession → Type 0) (fs : List Delivery) (os : List OpenSession) (f : Delivery) (o : OpenSession) → Pairs P fs os → cut_off (fs ++ f ∷ []) (os ++ o ∷ []) ≡ cut_off fs os + is_cut_off f o
cut_more P [] [] f o h = omega arith
cut_more P [] (x ∷ os) f o h = absurd h
cut_more P (g ∷ fs) [] f o h = absurd h
cut_more P (g ∷ fs) (x ∷ os) f o h = let rest = cut_more P fs os f o h.1 in omega (arith, rest)

-- the delivery has this session
abbrev pub IsPair : Delivery → OpenSession → List Delivery → List OpenSession → Type 0
IsPair f o (g ∷ fs) (p ∷ os) = ((g ≡ f) × (p ≡ o)) ⊎ IsPair f o fs os
IsPair f o _ _ = ⊥

-- those of greater numbers stay
pub none_taken : (P : Delivery → OpenSession → Type 0) → HasNumber P → (number : ℕ) (fs : List Delivery) (os : List OpenSession) → AllByRecursion (λ n. number < n) (map (λ (o : OpenSession). o.number) os) → Pairs P fs os
    → (without_flight number fs ≡ fs) × (without number os ≡ os)
none_taken P same number [] [] above h = (refl, refl)
none_taken P same number [] (o ∷ os) above h = absurd h
none_taken P same number (f ∷ fs) [] above h = absurd h
none_taken P same number (f ∷ fs) (o ∷ os) above h =
    let more = above.0 in
    let is : o.number ≡ f.number = same f o h.0 in
    let rest = none_taken P same number fs os above.1 h.1 in
    let flight : (f.number == number) ≡ false = ne_eqb f.number number (λ e. omega (arith, more, is, e)) in
    let session : (o.number == number) ≡ false = ne_eqb o.number number (λ e. omega (arith, more, e)) in (
      ap (λ (b : Bool). if not b then f ∷ without_flight number fs else without_flight number fs) flight ∙ ap (λ (xs : List Delivery). f ∷ xs) rest.0,
      ap (λ (b : Bool). if not b then o ∷ without number os else without number os) session ∙ ap (λ (xs : List OpenSession). o ∷ xs) rest.1,
    )

-- the same session in both, or in neither
cut_kept : (f : Delivery) (o : OpenSession) (fs : List Delivery) (os : List OpenSession) (b c : Bool) → b ≡ false → c ≡ false → cut_off (if not b then f ∷ fs else fs) (if not c then o ∷ os else os) ≡ is_cut_off f o + cut_off fs os
cut_kept f o fs os false false h k = refl
cut_kept f o fs os true c h k = cc
cut_kept f o fs os false true h k = cc

cut_taken : (f : Delivery) (o : OpenSession) (fs : List Delivery) (os : List OpenSession) (b c : Bool) → b ≡ true → c ≡ true → cut_off (if not b then f ∷ fs else fs) (if not c then o ∷ os else os) ≡ cut_off fs os
cut_taken f o fs os true true h k = refl
cut_taken f o fs os false c h k = cc
cut_taken f o fs os true false h k = cc

-- each number stands once: a session's own is above all before it
pair_above : (P : Delivery → OpenSession → Type 0) (n : ℕ) (f : Delivery) (o : OpenSession) (fs : List Delivery) (os : List OpenSession) → AllByRecursion (λ k. n < k) (map (λ (x : OpenSession). x.number) os) → Pairs P fs os → IsPair f o fs os → n < o.number
pair_above P n f o [] [] above h k = absurd k
pair_above P n f o [] (x ∷ os) above h k = absurd h
pair_above P n f o (g ∷ fs) [] above h k = absurd h
pair_above P n f o (g ∷ fs) (x ∷ os) above h (inl is) = subst (λ (y : OpenSession). n < y.number) is.1 above.0
pair_above P n f o (g ∷ fs) (x ∷ os) above h (inr k) = pair_above P n f o fs os above.1 h.1 k

-- one pair is taken out
pub cut_without : (P : Delivery → OpenSession → Type 0) → HasNumber P → (f : Delivery) (o : OpenSession) (fs : List Delivery) (os : List OpenSession) → Rises (map (λ (x : OpenSession). x.number) os) → Pairs P fs os → IsPair f o fs os
    → cut_off fs os ≡ cut_off (without_flight o.number fs) (without o.number os) + is_cut_off f o
cut_without P same f o [] [] rises h k = absurd k
cut_without P same f o [] (x ∷ os) rises h k = absurd h
cut_without P same f o (g ∷ fs) [] rises h k = absurd h
cut_without P same f o (g ∷ fs) (x ∷ os) rises h (inl is) =
    let number : x.number ≡ o.number = ap (λ (y : OpenSession). y.number) is.1 in
    let own : x.number ≡ g.number = same g x h.0 in
    let none = none_taken P same o.number fs os (subst (λ n. AllByRecursion (λ k. n < k) (map (λ (y : OpenSession). y.number) os)) number rises.0) h.1 in
    let taken = cut_taken g x (without_flight o.number fs) (without o.number os) (g.number == o.number) (x.number == o.number) (eq-eqb g.number o.number (sym own ∙ number)) (eq-eqb x.number o.number number) in
    let left : cut_off (without_flight o.number fs) (without o.number os) ≡ cut_off fs os = ap (λ (ys : List Delivery). cut_off ys (without o.number os)) none.0 ∙ ap (cut_off fs) none.1 in
    let one : is_cut_off g x ≡ is_cut_off f o = ap (λ (y : Delivery). is_cut_off y x) is.0 ∙ ap (is_cut_off f) is.1 in
    omega (arith, taken, left, one)
cut_without P same f o (g ∷ fs) (x ∷ os) rises h (inr k) =
    let late : x.number < o.number = pair_above P x.number f o fs os rises.0 h.1 k in
    let own : x.number ≡ g.number = same g x h.0 in
    let kept = cut_kept g x (without_flight o.number fs) (without o.number os) (g.number == o.number) (x.number == o.number) (ne_eqb g.number o.number (λ e. omega (arith, late, own, e))) (ne_eqb x.number o.number (λ e. omega (arith, late, e))) in
    let rest = cut_without P same f o fs os rises.1 h.1 k in
    omega (arith, kept, rest)

-- ---- polls

pub same_cut : (f : Delivery) (o p : OpenSession) → is_some p.work ≡ is_some o.work → is_cut_off f p ≡ is_cut_off f o
same_cut f o p h = ap (λ (b : Bool). if not b && has_route f.row.site.hop then 1 else 0) h

-- a session that goes on has a link still
pub still_linked : (host : HostView) (now : ℕ) (o p : Option Work) → GoesOn true host now o p → is_some p ≡ is_some o
still_linked host now (Some w) (Some v) h = refl
still_linked host now None p h = absurd h
still_linked host now (Some w) None h = absurd h

either_cut : (f : Delivery) (x p : OpenSession) (b : Bool) → (b ≡ true → is_some p.work ≡ is_some x.work) → is_cut_off f (if b then p else x) ≡ is_cut_off f x
either_cut f x p true h = same_cut f x p (h refl)
either_cut f x p false h = refl

-- where each session of this number has a link as that one has, none is cut off anew
pub cut_replaced : (p : OpenSession) (fs : List Delivery) (os : List OpenSession) → AllByRecursion (λ x. (x.number == p.number) ≡ true → is_some p.work ≡ is_some x.work) os → cut_off fs (replaced p os) ≡ cut_off fs os
cut_replaced p [] [] h = refl
cut_replaced p [] (x ∷ os) h = refl
cut_replaced p (f ∷ fs) [] h = refl
cut_replaced p (f ∷ fs) (x ∷ os) h =
    let one = either_cut f x p (x.number == p.number) h.0 in
    let rest = cut_replaced p fs os h.1 in
    omega (arith, one, rest)
