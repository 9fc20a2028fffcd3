-- Of the rows of a site only the one that was begun last may have space, so it needs no search.
use Rattle.std.proofs.Common.{◌≡◌, ◌∙◌, ◌+◌, ◌++◌, ◌∷◌, ◌<◌, ◌≤◌, ◌⊎◌, [], ap, arith, Bool, cond, false, inl, inr, length, List, None, position, refl, set, Some, subst, suc, sym, true, zero, ℕ}
use Rattle.std.proofs.lemmas.Bool.{and_parts, ltb-true}
use Rattle.std.proofs.lemmas.List.{length-append}
use Rattle.std.proofs.lemmas.Map.Keys.{any_passes_from_place}
use Rattle.std.specs.Cmp.Derive.{both_true}
use Rattle.std.specs.Prelude.{IfSome, nat_lt, slice_get}
use Rattle.q_core.proofs.ListLaws.{find-passes, position-find}
use Rattle.q_core.proofs.RowWalkLaws.{any_place}
use Rattle.q_core.specs.Grouping.{AreOpen}
use Rattle.q_core.specs.Loading.{has_space, HasJoined, row_of_one, with_position}
use Rattle.q_model.proofs.IdLaws.{site_eq-true}
use Rattle.q_model.specs.Sites.{site_eq}
use Rattle.q_model.specs.declared.id.Id.{Id}
use Rattle.q_model.specs.declared.rows.Row.{Row}
use Rattle.q_model.specs.Values.{Site}
use Rattle.q_open_rows.proofs.Places.{place_other, place_own}
use Rattle.q_open_rows.specs.declared.open_row.OpenRow.{OpenRow}
use Rattle.q_open_rows.specs.Opened.{is_at, place_of, with_place}

none_passes : (p : Row → Bool) (rows : List Row) → ((i : ℕ) (r : Row) → slice_get rows i ≡ Some r → p r ≡ true → ⊥) → None ≡ position p rows
none_passes p rows h = elim (position-find p rows) [
  | inl n ↦ sym n.0
  | inr f ↦ absurd (h f.0 f.1 f.2.there (find-passes p rows f.1 f.2.found))
]

-- ---- the first row that has space for a site

module _ (limit : ℕ) (site : Site) (rows : List Row) (os : List OpenRow) (kept : AreOpen limit os rows) where
  -- no place is kept
  pub nowhere : place_of site os ≡ None → None ≡ position (has_space limit site) rows
  nowhere none = none_passes (has_space limit site) rows (λ i r there space. let bad : None ≡ Some i = sym none ∙ kept site i r there space in cc)

  -- no row is there
  pub past : (k : ℕ) → place_of site os ≡ Some k → None ≡ slice_get rows k → None ≡ position (has_space limit site) rows
  past k at none = none_passes (has_space limit site) rows (λ i r there space.
      let same : Some k ≡ Some i = sym at ∙ kept site i r there space in
      let is : k ≡ i = cc in
      let bad : None ≡ Some r = none ∙ ap (slice_get rows) is ∙ there in
      cc)

  -- the row there has none
  pub full : (k : ℕ) (row : Row) → place_of site os ≡ Some k → Some row ≡ slice_get rows k → has_space limit site row ≡ false → None ≡ position (has_space limit site) rows
  full k row at is none = none_passes (has_space limit site) rows (λ i r there space.
      let same : Some k ≡ Some i = sym at ∙ kept site i r there space in
      let place : k ≡ i = cc in
      let both : Some row ≡ Some r = is ∙ ap (slice_get rows) place ∙ there in
      let one : row ≡ r = cc in
      let bad : false ≡ true = sym none ∙ ap (has_space limit site) one ∙ space in
      cc)

  -- the row there has some
  pub there : (k : ℕ) (row : Row) → place_of site os ≡ Some k → Some row ≡ slice_get rows k → has_space limit site row ≡ true → Some k ≡ position (has_space limit site) rows
  there k row at is space =
      let f = any_place (has_space limit site) rows (any_passes_from_place (has_space limit site) rows k row (sym is) space) in
      sym at ∙ kept site f.0 f.1 f.2.there (find-passes (has_space limit site) rows f.1 f.2.found) ∙ sym f.2.place

got_within : {X : Type 0} (xs : List X) (i : ℕ) (x : X) → slice_get xs i ≡ Some x → i < length xs
got_within [] i x h = cc
got_within (y ∷ ys) zero x h = omega arith
got_within (y ∷ ys) (suc i) x h = let rest = got_within ys i x h in omega (arith, rest)

-- ---- a position joins a row

got_set : {X : Type 0} (xs : List X) (k j : ℕ) (y x : X) → slice_get (set xs k y) j ≡ Some x → ((j ≡ k) × (x ≡ y)) ⊎ (slice_get xs j ≡ Some x)
got_set [] k j y x h = inr h
got_set (z ∷ zs) zero zero y x h = inl (refl, cc)
got_set (z ∷ zs) zero (suc j) y x h = inr h
got_set (z ∷ zs) (suc k) zero y x h = inr h
got_set (z ∷ zs) (suc k) (suc j) y x h = elim (got_set zs k j y x h) [
  | inl s ↦ inl (ap suc s.0, s.1)
  | inr there ↦ inr there
]

-- a row that has space with one more position had it before
had_space : (limit : ℕ) (site : Site) (p : ℕ) (r : Row) → has_space limit site (with_position p r) ≡ true → has_space limit site r ≡ true
had_space limit site p r h =
    let parts = and_parts (site_eq r.site site) (nat_lt (length (r.positions ++ p ∷ [])) limit) h in
    let more = length-append r.positions (p ∷ []) in
    both_true parts.0 (grind (arith, more, parts.1))

pub open_joined : (limit : ℕ) (p k : ℕ) (test : Row → Bool) (rows new : List Row) (os : List OpenRow) → position test rows ≡ Some k → HasJoined k p rows new → AreOpen limit os rows → AreOpen limit os new
open_joined limit p k test rows new os at joined kept = λ site j r there space. elim (position-find test rows) [
  | inl n ↦ let bad : None ≡ Some k = sym n.0 ∙ at in cc
  | inr f ↦ let same : Some f.0 ≡ Some k = sym f.2.place ∙ at in
      let is : f.0 ≡ k = cc in
      let old : slice_get rows k ≡ Some f.1 = subst (λ n. slice_get rows n ≡ Some f.1) is f.2.there in
      elim (got_set rows k j (with_position p f.1) r (subst (λ rs. slice_get rs j ≡ Some r) (joined f.1 old) there)) [
        | inl s ↦ kept site k f.1 old (had_space limit site p f.1 (subst (λ x. has_space limit site x ≡ true) s.1 space)) ∙ ap (λ n. Some n) (sym s.0)
        | inr t ↦ kept site j r t space
      ]
]

-- ---- a row begins

got_more : {X : Type 0} (xs : List X) (j : ℕ) (y x : X) → slice_get (xs ++ y ∷ []) j ≡ Some x → ((j ≡ length xs) × (x ≡ y)) ⊎ (slice_get xs j ≡ Some x)
got_more [] zero y x h = inl (refl, cc)
got_more [] (suc j) y x h = cc
got_more (z ∷ zs) zero y x h = inr h
got_more (z ∷ zs) (suc j) y x h = elim (got_more zs j y x h) [
  | inl s ↦ inl (ap suc s.0, s.1)
  | inr there ↦ inr there
]

other_row : (limit : ℕ) (site other : Site) (rows : List Row) (os : List OpenRow) (j : ℕ) (r : Row) (t : Bool) → site_eq site other ≡ t → None ≡ position (has_space limit site) rows → AreOpen limit os rows → slice_get rows j ≡ Some r → has_space limit other r ≡ true →
    place_of other (with_place site (length rows) os) ≡ Some j
other_row limit site other rows os j r true e none kept there space =
    let own : has_space limit site r ≡ true = ap (λ s. has_space limit s r) (site_eq-true site other e) ∙ space in
    let f = any_place (has_space limit site) rows (any_passes_from_place (has_space limit site) rows j r there own) in
    let bad : None ≡ Some f.0 = none ∙ f.2.place in
    cc
other_row limit site other rows os j r false e none kept there space = place_other site other (length rows) os e ∙ kept other j r there space

pub open_begun : (limit : ℕ) (id : Id) (site : Site) (p : ℕ) (rows : List Row) (os : List OpenRow) → None ≡ position (has_space limit site) rows → AreOpen limit os rows → AreOpen limit (with_place site (length rows) os) (rows ++ row_of_one id site p ∷ [])
open_begun limit id site p rows os none kept = λ other j r there space. elim (got_more rows j (row_of_one id site p) r there) [
  | inl s ↦ let at : has_space limit other (row_of_one id site p) ≡ true = subst (λ x. has_space limit other x ≡ true) s.1 space in
      let same = site_eq-true site other (and_parts (site_eq site other) (nat_lt 1 limit) at).0 in
      ap (λ x. place_of x (with_place site (length rows) os)) (sym same) ∙ place_own site (length rows) os ∙ ap (λ n. Some n) (sym s.0)
  | inr t ↦ other_row limit site other rows os j r (site_eq site other) refl none kept t space
]

pub placed_few : (site : Site) (k : ℕ) (os : List OpenRow) → length (with_place site k os) ≤ length os + 1
placed_few site k [] = omega arith
placed_few site k (o ∷ os) = step (placed_few site k os) (is_at site o)
  where
    step : length (with_place site k os) ≤ length os + 1 → (b : Bool) → length (cond b (record { site = site; place = k } ∷ os) (o ∷ with_place site k os)) ≤ length (o ∷ os) + 1
    step rest true = omega arith
    step rest false = omega (arith, rest)

-- ---- the row at the place that is found

pub found_within : (p : Row → Bool) (rows : List Row) (k : ℕ) → position p rows ≡ Some k → k < length rows
found_within p [] k h = cc
found_within p (r ∷ rs) k h = elim (position-find p (r ∷ rs)) [
  | inl n ↦ let bad : None ≡ Some k = sym n.0 ∙ h in cc
  | inr f ↦ let same : Some f.0 ≡ Some k = sym f.2.place ∙ h in
      let is : f.0 ≡ k = cc in
      subst (λ n. n < length (r ∷ rs)) is (got_within (r ∷ rs) f.0 f.1 f.2.there)
]

pub found_space : (limit : ℕ) (site : Site) (rows : List Row) (k : ℕ) → position (has_space limit site) rows ≡ Some k → IfSome (slice_get rows k) (λ r. length r.positions < limit)
found_space limit site rows k h = elim (position-find (has_space limit site) rows) [
  | inl n ↦ let bad : None ≡ Some k = sym n.0 ∙ h in cc
  | inr f ↦ let same : Some f.0 ≡ Some k = sym f.2.place ∙ h in
      let is : f.0 ≡ k = cc in
      let there : slice_get rows k ≡ Some f.1 = ap (slice_get rows) (sym is) ∙ f.2.there in
      let less = ltb-true (length f.1.positions) limit (and_parts (site_eq f.1.site site) (nat_lt (length f.1.positions) limit) (find-passes (has_space limit site) rows f.1 f.2.found)).1 in
      subst (λ o. IfSome o (λ (r : Row). length r.positions < limit)) (sym there) less
]
