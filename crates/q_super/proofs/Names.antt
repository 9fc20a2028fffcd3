-- A walk over the names of an area comes to all files of messages there.
use Rattle.std.proofs.Common.{◌≡◌, ◌⊎◌, ◌∙◌, ◌∷◌, ◌++◌, [], ℕ, true, List, Some, None, Option, ⊎_elim, inl, inr, refl, sym, ap, subst, arith}
use Rattle.std.specs.Cmp.Lexicographic.{nat_list_cmp_total, slice_cmp}
use Rattle.std.specs.List.{AllByRecursion, Contains}
use Rattle.std.specs.List.Sorted.{IsStrictlySortedBy}
use Rattle.std.specs.Ordering.{nat_cmp, ordering_then}
use Rattle.std.specs.Prelude.{IsSome}
use Rattle.std.specs.declared.cmp.Ordering.{Ordering}
use Rattle.std.specs.declared.cmp.Ordering.TheVariants.{Equal, Less}
use Rattle.std.proofs.lemmas.List.Elements.{Contains-append_cases, Contains-append_left, Contains-append_right}
use Rattle.q_host.specs.Files.{area_number}
use Rattle.q_host.specs.Reads.{IsAfter}
use Rattle.q_host.proofs.NamesInOrder.{either_order}
use Rattle.q_model.specs.declared.id.Id.{Id}
use Rattle.q_model.specs.declared.rows.Place.{Place}
use Rattle.q_model.specs.declared.rows.Place.TheVariants as places
use Rattle.q_model.specs.declared.spot.Area.{Area}
use Rattle.q_model.specs.declared.spot.Area.TheVariants as areas
use Rattle.q_model.specs.SpoolFiles.{area_of, Files, IsPlace, name_at}
use Rattle.q_model.proofs.EachLaws.{each-append}
use Rattle.q_model.proofs.SpotLaws.{same_spot}
use Rattle.q_restart.proofs.Lists.{has_cases, has_head, has_none, sorted_append}
use Rattle.q_scan.specs.Walks.{IsDueAhead, IsFirstDue, IsNextOf, IsWithin, Walk}
use Rattle.q_super.specs.declared.standing.Standing.{Standing}
use Rattle.q_super.specs.Moves.{is_file}
use Rattle.q_super.specs.Names.{AddsNamed, AreAllOf, IsNameOf, IsNoName, IsOfArea}
use Rattle.q_super.specs.Standings.{file_name, standing_cmp}
use Rattle.q_super.proofs.Ordering.{standings_total}

-- the name of a file of the area is one that a walk gives
pub of_area_within : (area : Area) (s : Standing) → IsOfArea area s → IsWithin area 999999999999 (file_name s)
of_area_within area s h = subst (λ (a : Area). IsWithin a 999999999999 (file_name s)) h.inside (by s.place h.place)
  where
    by : (place : Place) → IsPlace place → IsWithin (area_of place) 999999999999 (name_at place s.id)
    by places.Incoming fits = tt
    by places.Active fits = tt
    by (places.Deferred due) fits = (due, s.id, record { form = h.form; digits = fits; says = refl }, omega (arith, fits))
    by places.Hold fits = tt
    by places.Corrupt fits = tt

some_file : (f : Files) (area : Area) (s : Standing) → area_of s.place ≡ area → is_file f s ≡ true → IsSome (f area (file_name s))
some_file f area s inside there = subst (λ (a : Area). IsSome (f a (file_name s))) inside there

-- a file of the area that is ahead
pub ahead_due : (f : Files) (w : Walk) (area : Area) (s : Standing) → w.area ≡ area → IsOfArea area s → is_file f s ≡ true → IsAfter w.place (file_name s) → IsDueAhead f w 999999999999 (file_name s)
ahead_due f w area s same is there after = record {
  there = subst (λ (a : Area). IsSome (f a (file_name s))) (sym same) (some_file f area s is.inside there);
  behind = after;
  within = subst (λ (a : Area). IsWithin a 999999999999 (file_name s)) (sym same) (of_area_within area s is);
}

-- ---- what was found so far

pub record IsFront (f : Files) (area : Area) (place : Option (List ℕ)) (found : List Standing) : Type 0 where
  pub sorted : IsStrictlySortedBy standing_cmp found
  pub there : (s : Standing) → Contains found s → IsOfArea area s × (is_file f s ≡ true)
  pub behind : (s : Standing) (n : List ℕ) → Contains found s → IsAfter place n → slice_cmp nat_cmp (file_name s) n ≡ Less
  pub rest : (s : Standing) → IsOfArea area s → is_file f s ≡ true → Contains found s ⊎ IsAfter place (file_name s)

sorted_none : IsStrictlySortedBy standing_cmp []
unfolding IsStrictlySortedBy
sorted_none = tt

sorted_one : (s : Standing) → IsStrictlySortedBy standing_cmp (s ∷ [])
unfolding IsStrictlySortedBy
sorted_one s = (tt, tt)

pub front_none : (f : Files) (area : Area) (place : Option (List ℕ)) (found : List Standing) → place ≡ None → found ≡ [] → IsFront f area place found
front_none f area place found start none = subst (λ (xs : List Standing). IsFront f area place xs) (sym none) (record {
  sorted = sorted_none;
  there = λ s k. absurd (has_none s k);
  behind = λ s n k h. absurd (has_none s k);
  rest = λ s is there. inr (subst (λ (p : Option (List ℕ)). IsAfter p (file_name s)) (sym start) tt);
})

-- in one area the order is that of names
same_area_less : (area : Area) (s t : Standing) → IsOfArea area s → IsOfArea area t → slice_cmp nat_cmp (file_name s) (file_name t) ≡ Less → standing_cmp s t ≡ Less
same_area_less area s t hs ht less =
    ap (λ (o : Ordering). ordering_then o (slice_cmp nat_cmp (file_name s) (file_name t)))
    (ap (λ (a : Area). nat_cmp (area_number a) (area_number (area_of t.place))) hs.inside ∙ ap (λ (a : Area). nat_cmp (area_number area) (area_number a)) ht.inside ∙ tied area) ∙ less
  where
    tied : (a : Area) → nat_cmp (area_number a) (area_number a) ≡ Equal
    tied areas.Boot = refl
    tied areas.Conf = refl
    tied areas.Tmp = refl
    tied areas.Incoming = refl
    tied areas.Active = refl
    tied areas.Deferred = refl
    tied areas.Hold = refl
    tied areas.Corrupt = refl
    tied areas.Bounce = refl
    tied areas.Defer = refl

module _ (f : Files) (area : Area) (w : Walk) (x : List ℕ) (found : List Standing) (same : w.area ≡ area) (front : IsFront f area w.place found) (next : IsFirstDue f w 999999999999 x) where
  -- what is ahead and isn't this name stands behind it
  past : (s : Standing) → IsOfArea area s → is_file f s ≡ true → IsAfter w.place (file_name s) → (file_name s ≡ x → ⊥) → slice_cmp nat_cmp x (file_name s) ≡ Less
  past s is there after other = by (either_order x (file_name s))
    where
      by : (slice_cmp nat_cmp x (file_name s) ≡ Less) ⊎ ((x ≡ file_name s) ⊎ (slice_cmp nat_cmp (file_name s) x ≡ Less)) → slice_cmp nat_cmp x (file_name s) ≡ Less
      by (inl less) = less
      by (inr (inl here)) = absurd (other (sym here))
      by (inr (inr more)) = absurd (next.first (file_name s) (ahead_due f w area s same is there after) more)

  -- no file of a message has the name
  pub front_skip : IsNoName area x → IsFront f area (Some x) found
  front_skip none = record {
    sorted = front.sorted;
    there = front.there;
    behind = λ s n k h. nat_list_cmp_total.trans (file_name s) x n (front.behind s x k next.due.behind) h;
    rest = λ s is there. ⊎_elim (λ k. inl k) (λ after. inr (past s is there after (λ e. none s (record { form = is.form; place = is.place; inside = is.inside; says = e })))) (front.rest s is there);
  }

  -- this file has it
  pub front_push : (t : Standing) → IsNameOf area x t → IsFront f area (Some x) (found ++ t ∷ [])
  front_push t named = record {
    sorted = sorted_append standing_cmp standings_total found (t ∷ []) front.sorted (sorted_one t) (λ s y hs hy. one y hy (λ e. subst (λ (z : Standing). standing_cmp s z ≡ Less) e
        (same_area_less area s t (front.there s hs).0 is (subst (λ (n : List ℕ). slice_cmp nat_cmp (file_name s) n ≡ Less) (sym named.says) (front.behind s x hs next.due.behind)))));
    there = λ s k. ⊎_elim (λ h. front.there s h) (λ h. one s h (λ e. subst (λ (z : Standing). IsOfArea area z × (is_file f z ≡ true)) e (is, file))) (Contains-append_cases found (t ∷ []) s k);
    behind = λ s n k h. ⊎_elim (λ c. nat_list_cmp_total.trans (file_name s) x n (front.behind s x c next.due.behind) h)
        (λ c. one s c (λ e. subst (λ (z : Standing). slice_cmp nat_cmp (file_name z) n ≡ Less) e (subst (λ (m : List ℕ). slice_cmp nat_cmp m n ≡ Less) (sym named.says) h))) (Contains-append_cases found (t ∷ []) s k);
    rest = λ s sis there. ⊎_elim (λ k. inl (Contains-append_left found (t ∷ []) s k)) (λ after. either s sis there after (either_order x (file_name s))) (front.rest s sis there);
  }
    where
      is : IsOfArea area t
      is = record { form = named.form; place = named.place; inside = named.inside }

      file : is_file f t ≡ true
      file = subst (λ (a : Area). IsSome (f a (file_name t))) (sym named.inside) (subst (λ (n : List ℕ). IsSome (f area n)) (sym named.says) (subst (λ (a : Area). IsSome (f a x)) same next.due.there))

      one : {P : Type 0} (s : Standing) → Contains (t ∷ []) s → (t ≡ s → P) → P
      one s k then = ⊎_elim (λ e. then e) (λ h. absurd (has_none s h)) (has_cases t [] s k)

      remake : (s : Standing) → IsOfArea area s → file_name s ≡ x → t ≡ s
      remake s sis e =
          let both = same_spot t.place s.place t.id s.id named.place sis.place named.form sis.form (named.inside ∙ sym sis.inside) (named.says ∙ sym e) in
          ap (λ (i : Id). made i t.place) both.1 ∙ ap (made s.id) both.0
        where
          made : Id → Place → Standing
          made id place = record { id = id; place = place }

      either : (s : Standing) → IsOfArea area s → is_file f s ≡ true → IsAfter w.place (file_name s) → (slice_cmp nat_cmp x (file_name s) ≡ Less) ⊎ ((x ≡ file_name s) ⊎ (slice_cmp nat_cmp (file_name s) x ≡ Less)) → Contains (found ++ t ∷ []) s ⊎ (slice_cmp nat_cmp x (file_name s) ≡ Less)
      either s sis there after (inl less) = inr less
      either s sis there after (inr (inl here)) = inl (Contains-append_right found (t ∷ []) s (subst (λ (z : Standing). Contains (t ∷ []) z) (remake s sis (sym here)) (has_head t [])))
      either s sis there after (inr (inr more)) = absurd (next.first (file_name s) (ahead_due f w area s same sis there after) more)

  pub front_next : (new : List Standing) → AddsNamed area x found new → IsFront f area (Some x) new
  front_next new (inl (t, named, added)) = subst (IsFront f area (Some x)) (sym added) (front_push t named)
  front_next new (inr (none, same_found)) = subst (IsFront f area (Some x)) (sym same_found) (front_skip none)

-- no name is ahead: all were found
pub front_all : (f : Files) (area : Area) (w : Walk) (found : List Standing) → w.area ≡ area → IsFront f area w.place found → IsNextOf f w 999999999999 None → AreAllOf f area found
front_all f area w found same front none = record {
  sorted = front.sorted;
  there = front.there;
  all = λ s is there. ⊎_elim (λ k. k) (λ after. absurd (none (file_name s) (ahead_due f w area s same is there after))) (front.rest s is there);
}

-- a name more is of a file in the area
each_push : (area : Area) (found : List Standing) (name : List ℕ) (t : Standing) → IsNameOf area name t → AllByRecursion (IsOfArea area) found → AllByRecursion (IsOfArea area) (found ++ t ∷ [])
each_push area found name t named each = each-append (IsOfArea area) found (t ∷ []) each (record { form = named.form; place = named.place; inside = named.inside }, tt)

pub each_next : (area : Area) (found new : List Standing) (name : List ℕ) → AddsNamed area name found new → AllByRecursion (IsOfArea area) found → AllByRecursion (IsOfArea area) new
each_next area found new name (inl (t, named, added)) each = subst (AllByRecursion (IsOfArea area)) (sym added) (each_push area found name t named each)
each_next area found new name (inr (none, same)) each = subst (AllByRecursion (IsOfArea area)) (sym same) each

pub each_none : (area : Area) (found : List Standing) → found ≡ [] → AllByRecursion (IsOfArea area) found
each_none area found none = subst (AllByRecursion (IsOfArea area)) (sym none) tt
