-- Recipients are grouped in rows.
use Rattle.std.proofs.Common.{◌≡◌, ℕ, ◌+◌, Bool, true, false, cond, List, [], ◌∷◌, ◌++◌, set, refl, sym, ap, ◌∙◌, subst, Some, None, inl, inr, position, arith, suc, if◌then◌else◌}
use Rattle.std.proofs.lemmas.Grind.{common_steps}
use Rattle.std.specs.List.{position_or_len}
use Rattle.std.specs.Prelude.{find, not, slice_get}
use Rattle.q_ledger.proofs.ListLaws.{position-find}
use Rattle.q_ledger.specs.Grouping.{has_space}
use Rattle.q_model.specs.Batches.{join_rows}
use Rattle.q_model.specs.Values.{Site}
use Rattle.q_model.specs.declared.id.Id.{Id}
use Rattle.q_model.specs.declared.rows.Row.{Row}

-- ---- a position joins a row

-- the row with the position
abbrev more : ℕ → Row → Row
more position r = record r { positions = r.positions ++ position ∷ [] }

same_Some : {A : Type 0} (x y : A) → Some x ≡ Some y → x ≡ y
same_Some x y h = cc

join_step : (limit : ℕ) (id : Id) (site : Site) (p : ℕ) (r x : Row) (xs : List Row) (n : ℕ) → (slice_get xs n ≡ Some r → set xs n (more p r) ≡ join_rows limit id site p xs) → (b : Bool) →
    slice_get (x ∷ xs) (cond (not b) (1 + n) 0) ≡ Some r → set (x ∷ xs) (cond (not b) (1 + n) 0) (more p r) ≡ (if b then more p x ∷ xs else x ∷ join_rows limit id site p xs)
join_step limit id site p r x xs n rest true h = ap (λ y. more p y ∷ xs) (sym (same_Some x r h))
join_step limit id site p r x xs n rest false h =
    let e : 1 + n ≡ suc n = omega arith in
    ap (λ k. set (x ∷ xs) k (more p r)) e ∙ ap (λ ys. x ∷ ys) (rest (ap (slice_get (x ∷ xs)) (sym e) ∙ h))

join_at_first : (limit : ℕ) (id : Id) (site : Site) (p : ℕ) (r : Row) (xs : List Row) → slice_get xs (position_or_len (has_space limit site) xs) ≡ Some r → set xs (position_or_len (has_space limit site) xs) (more p r) ≡ join_rows limit id site p xs
join_at_first limit id site p r [] h = cc
join_at_first limit id site p r (x ∷ xs) h = join_step limit id site p r x xs (position_or_len (has_space limit site) xs) (join_at_first limit id site p r xs) (has_space limit site x) h

pub join_Some : (limit : ℕ) (id : Id) (site : Site) (p : ℕ) (xs ys : List Row) (place : ℕ) → position (has_space limit site) xs ≡ Some place → ((r : Row) → slice_get xs place ≡ Some r → ys ≡ set xs place (record r { positions = r.positions ++ p ∷ [] })) → ys ≡ join_rows limit id site p xs
join_Some limit id site p xs ys place h k = elim (position-find (has_space limit site) xs) [
  | inl n ↦ let bad : None ≡ Some place = sym n.0 ∙ h in cc
  | inr f ↦ let same : Some f.0 ≡ Some place = sym f.2.place ∙ h in
      let at : f.0 ≡ place = cc in
      let e : place ≡ position_or_len (has_space limit site) xs = grind (arith, common_steps, h) in
      let there : slice_get xs place ≡ Some f.1 = subst (λ n. slice_get xs n ≡ Some f.1) at f.2.there in
      k f.1 there ∙ ap (λ n. set xs n (more p f.1)) e ∙ join_at_first limit id site p f.1 xs (ap (slice_get xs) (sym e) ∙ there)
]

new_step : (limit : ℕ) (id : Id) (site : Site) (p : ℕ) (x new : Row) (xs : List Row) → (find (has_space limit site) xs ≡ None → (xs ++ new ∷ []) ≡ join_rows limit id site p xs) → (b : Bool) → cond b (Some x) (find (has_space limit site) xs) ≡ None →
    (x ∷ xs ++ new ∷ []) ≡ (if b then more p x ∷ xs else x ∷ join_rows limit id site p xs)
new_step limit id site p x new xs rest true h = cc
new_step limit id site p x new xs rest false h = ap (λ ys. x ∷ ys) (rest h)

join_new : (limit : ℕ) (id : Id) (site : Site) (p : ℕ) (xs : List Row) → find (has_space limit site) xs ≡ None → (xs ++ record { id = id; site = site; positions = p ∷ [] } ∷ []) ≡ join_rows limit id site p xs
join_new limit id site p [] h = refl
join_new limit id site p (x ∷ xs) h = new_step limit id site p x (record { id = id; site = site; positions = p ∷ [] }) xs (join_new limit id site p xs) (has_space limit site x) h

pub join_None : (limit : ℕ) (id : Id) (site : Site) (p : ℕ) (xs : List Row) → position (has_space limit site) xs ≡ None → (xs ++ record { id = id; site = site; positions = p ∷ [] } ∷ []) ≡ join_rows limit id site p xs
join_None limit id site p xs h = elim (position-find (has_space limit site) xs) [
  | inl n ↦ join_new limit id site p xs n.1
  | inr f ↦ let bad : None ≡ Some f.0 = sym h ∙ f.2.place in cc
]
