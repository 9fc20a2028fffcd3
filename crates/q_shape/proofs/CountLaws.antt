-- What one more count changes.
use Rattle.std.proofs.Common.{◌≡◌, ◌≤◌, ◌<◌, ◌+◌, ◌-◌, ◌^◌, ◌++◌, ◌==◌, arith, min, ℕ, List, [], ◌∷◌, Bool, true, false, cond, Some, ap, sym, subst, refl, ◌∙◌, slice_get, slice_set, slice_index_or, filter, length, append-nil, inl, inr, ◌⊎◌, ◌≢◌}
use Rattle.std.proofs.lemmas.List.Elements.{filter-append}
use Rattle.std.proofs.lemmas.List.Sums.{sum_by-append, sum_by-cons, sum_by_push}
use Rattle.std.proofs.lemmas.Option.{get_or_from_slice_get, slice_get-get_or, slice_get_within}
use Rattle.std.proofs.lemmas.List.{get_or-set_other, get_or-set_same, length-set}
use Rattle.std.proofs.lemmas.Bool.{cases_eq, eq-eqb, ne_eqb}
use Rattle.q_shape.specs.declared.numbers.Numbers.{Numbers}
use Rattle.q_shape.specs.declared.options.ShapeOptions.{ShapeOptions}
use Rattle.q_shape.specs.Buckets.{is_in}
use Rattle.q_shape.specs.Counted.{AreNumbers, CanBeCounted}
use Rattle.q_shape.specs.Counts.{Count, in_bucket, total}

-- those that pass, and one more
filter-push-yes : {X : Type 0} (p : X → Bool) (xs : List X) (x : X) → p x ≡ true → filter p (xs ++ x ∷ []) ≡ filter p xs ++ x ∷ []
filter-push-yes p xs x h = filter-append p xs (x ∷ []) ∙ ap (λ b. filter p xs ++ cond b (x ∷ []) []) h

filter-push-no : {X : Type 0} (p : X → Bool) (xs : List X) (x : X) → p x ≡ false → filter p (xs ++ x ∷ []) ≡ filter p xs
filter-push-no p xs x h = filter-append p xs (x ∷ []) ∙ ap (λ b. filter p xs ++ cond b (x ∷ []) []) h ∙ append-nil (filter p xs)

pub total-push : (cs : List Count) (c : Count) → total (cs ++ c ∷ []) ≡ total cs + c.2
total-push cs c = sum_by_push (λ (d : Count). d.2) cs c

-- a part has no more than all
pub part-of : (p : Count → Bool) (cs : List Count) → total (filter p cs) ≤ total cs
part-of p [] = omega arith
part-of p (c ∷ cs) = by (p c) (part-of p cs)
  where
    by : (b : Bool) → total (filter p cs) ≤ total cs → total (cond b (c ∷ filter p cs) (filter p cs)) ≤ total (c ∷ cs)
    by true h = let first = sum_by-cons (λ (d : Count). d.2) c (filter p cs) in
        let all = sum_by-cons (λ (d : Count). d.2) c cs in
        omega (arith, h, first, all)
    by false h = let all = sum_by-cons (λ (d : Count). d.2) c cs in omega (arith, h, all)

-- those before one more can be counted too
pub counted_before : (cs more : List Count) → CanBeCounted (cs ++ more) → CanBeCounted cs
counted_before cs more h = let both = sum_by-append (λ (d : Count). d.2) cs more in omega (arith, h, both)

-- so can a part, and one more
pub counted-one : (p : Count → Bool) (cs : List Count) (c : Count) → CanBeCounted (cs ++ c ∷ []) → CanBeCounted (filter p cs ++ c ∷ [])
counted-one p cs c h =
    let few = part-of p cs in
    let all = total-push cs c in
    let some = total-push (filter p cs) c in
    omega (arith, h, few, all, some)

module _ (o : ShapeOptions) (n : Numbers) (cs : List Count) (name : List ℕ) (age number b t x : ℕ) (h : AreNumbers o n cs) (there : b < o.buckets)
    (alone : (i : ℕ) → i < o.buckets → is_in o i age ≡ (i == b)) (fits : CanBeCounted (cs ++ (name, age, number) ∷ []))
    (summed : t ≡ min (n.total + number) (2 ^ 128 - 1)) (added : x ≡ min (slice_index_or n.buckets b 0 + number) (2 ^ 128 - 1)) where
  abbrev mine : Count
  mine = (name, age, number)

  abbrev now : Numbers
  now = record { total = t; buckets = slice_set n.buckets b x }

  all : t ≡ n.total + number
  all =
      let sum = total-push cs mine in
      let before = h.all in
      omega (arith, fits, summed, sum, before)

  one : x ≡ slice_index_or n.buckets b 0 + number
  one =
      let sum = total-push cs mine in
      let part = part-of (λ (c : Count). is_in o b c.1) cs in
      let before = get_or_from_slice_get n.buckets b _ 0 (h.each b there) in
      omega (arith, fits, added, sum, part, before)

  within : b < length n.buckets
  within = slice_get_within n.buckets b _ (h.each b there)

  in_own : (i : ℕ) → i ≡ b → slice_get now.buckets i ≡ Some (total (in_bucket o i (cs ++ mine ∷ [])))
  in_own i is = subst (λ (j : ℕ). slice_get now.buckets j ≡ Some (total (in_bucket o j (cs ++ mine ∷ [])))) (sym is)
      (slice_get-get_or now.buckets b 0 (rw (length-set n.buckets b x) within)
      ∙ ap Some (get_or-set_same n.buckets b x 0 within ∙ one ∙ ap (λ (v : ℕ). v + number) (get_or_from_slice_get n.buckets b _ 0 (h.each b there))
      ∙ sym (total-push (in_bucket o b cs) mine) ∙ ap total (sym (filter-push-yes (λ (c : Count). is_in o b c.1) cs mine (alone b there ∙ eq-eqb b b refl)))))

  in_other : (i : ℕ) → i < o.buckets → i ≢ b → slice_get now.buckets i ≡ Some (total (in_bucket o i (cs ++ mine ∷ [])))
  in_other i low apart = let there_i = slice_get_within n.buckets i _ (h.each i low) in
      slice_get-get_or now.buckets i 0 (rw (length-set n.buckets b x) there_i)
      ∙ ap Some (get_or-set_other n.buckets b i x 0 apart ∙ get_or_from_slice_get n.buckets i _ 0 (h.each i low)
      ∙ ap total (sym (filter-push-no (λ (c : Count). is_in o i c.1) cs mine (alone i low ∙ ne_eqb i b apart))))

  pub numbers-more : AreNumbers o now (cs ++ mine ∷ [])
  numbers-more = record {
    all = all ∙ ap (λ (v : ℕ). v + number) h.all ∙ sym (total-push cs mine);
    each = λ i low. by i low (cases_eq i b);
  }
    where
      by : (i : ℕ) → i < o.buckets → (i ≡ b) ⊎ (i ≢ b) → slice_get now.buckets i ≡ Some (total (in_bucket o i (cs ++ mine ∷ [])))
      by i low (inl is) = in_own i is
      by i low (inr apart) = in_other i low apart
