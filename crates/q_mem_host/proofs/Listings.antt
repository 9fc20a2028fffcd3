-- The names of an area behind a cut, one after another.
use Rattle.std.proofs.Common.{◌≡◌, ◌≢◌, ◌⊎◌, inl, inr, ⊎_elim, ℕ, ◌≤◌, ◌<◌, ◌+◌, ◌-◌, min, true, false, if◌then◌else◌, nat_le, List, [], ◌∷◌, ◌++◌, length, take, drop, get_or, Option, Some, None, IsSome, refl, sym, ◌∙◌, ap, subst, arith, true≢false, take_all, take-append-drop}
use Rattle.std.proofs.lemmas.Bool.{cases_lt}
use Rattle.std.proofs.lemmas.Bool.Decides.{nat_tests}
use Rattle.std.proofs.lemmas.List.{drop_more, take_more}
use Rattle.std.specs.List.{AllByRecursion}
use Rattle.std.specs.Ordering.{is_gt, MatchOrdering, nat_cmp, ordering_reverse, ordering_then}
use Rattle.std.specs.Cmp.{ranks, tied_itself}
use Rattle.std.specs.Cmp.Lexicographic.{nat_list_cmp_total, slice_cmp}
use Rattle.std.specs.declared.cmp.Ordering.{Ordering}
use Rattle.std.specs.declared.cmp.Ordering.TheVariants.{Equal, Greater, Less}
use Rattle.q_model.specs.declared.spot.Area.{Area}
use Rattle.q_model.proofs.EachLaws.{each-append, each-same}
use Rattle.q_host.specs.Files.{area_number, same_place}
use Rattle.q_host.specs.Reads.{IsAfter, IsListing}
use Rattle.q_host.proofs.Puts.{same_area, same_place-refl, same_place-true}
use Rattle.q_mem_host.specs.Kept.{Kept}
use Rattle.q_mem_host.specs.Data.{kept, table}
use Rattle.q_mem_host.specs.Order.{InOrder, is_past, IsCut, place_cmp, placed_cmp}
use Rattle.q_mem_host.specs.declared.placed_files.PlacedFile.{PlacedFile}
use Rattle.q_mem_host.proofs.Edits.{order_around}
use Rattle.q_mem_host.proofs.Leasts.{all_listed, IsLeastAfter, last_name, last-push, many_listed, one_more, SoFar, turned}
use Rattle.q_mem_host.proofs.Order.{before_it, before_turned, behind_it, GoesBefore, in_area, places_total}
use Rattle.q_mem_host.proofs.Searches.{areas_rise, greater}
use Rattle.q_mem_host.proofs.Tables.{among, or_else, table-append}

-- ---- what stands behind the last name

le_same : (x y : ℕ) → y ≡ x → nat_le x y ≡ true
le_same x y h = grind (arith, nat_tests)

-- a file of a later name is past
late_is_past : (a : Area) (last : Option (List ℕ)) (x : PlacedFile) (m : List ℕ) → same_place x.area x.name a m ≡ true → IsAfter last m → is_past a last x ≡ true
late_is_past a None x m here late = le_same (area_number a) (area_number x.area) (ap area_number (same_place-true x.area x.name a m here).0)
late_is_past a (Some n) x m here late =
    let both = same_place-true x.area x.name a m here in
    let moved : place_cmp x.area x.name a n ≡ place_cmp a m a n = ap (λ b. place_cmp b x.name a n) both.0 ∙ ap (λ l. place_cmp a l a n) both.1 in
    ap is_gt (moved ∙ in_area a m n ∙ nat_list_cmp_total.antisymm m n ∙ ap ordering_reverse late)

none_in_front : (a : Area) (last : Option (List ℕ)) (xs : List PlacedFile) → AllByRecursion (λ x. is_past a last x ≡ false) xs → (m : List ℕ) → IsSome (table xs a m) → IsAfter last m → ⊥
none_in_front a last xs front m some late =
    let x = among (λ x. is_past a last x ≡ false) xs a m front some in
    true≢false (sym (late_is_past a last x.0 m x.2 late) ∙ x.1)

either_some : (o p : Option Kept) → IsSome (or_else o p) → IsSome o ⊎ IsSome p
either_some None p h = inr h
either_some (Some k) p h = inl refl

some_behind : (o p : Option Kept) → IsSome p → IsSome (or_else o p)
some_behind None p h = h
some_behind (Some k) p h = refl

module _ (es : List PlacedFile) (i : ℕ) (a : Area) (last : Option (List ℕ)) (cut : IsCut es i a last) where
  in_parts : (m : List ℕ) → table es a m ≡ or_else (table (take i es) a m) (table (drop i es) a m)
  in_parts m = ap (λ (l : List PlacedFile). table l a m) (sym (take-append-drop i es)) ∙ table-append (take i es) (drop i es) a m

  behind : (m : List ℕ) → IsSome (table es a m) → IsAfter last m → IsSome (table (drop i es) a m)
  behind m some late =
      ⊎_elim (λ front. absurd (none_in_front a last (take i es) cut.front m front late)) (λ rest. rest) (either_some (table (take i es) a m) (table (drop i es) a m) (subst (λ (o : Option Kept). IsSome o) (in_parts m) some))

  -- at the end
  none_at_end : length es ≤ i → IsLeastAfter (table es a) last None
  none_at_end end = λ m some late. none_in_front a last es (subst (λ (l : List PlacedFile). AllByRecursion (λ x. is_past a last x ≡ false) l) (take_all i es end) cut.front) m some late

above_step : (x y : ℕ) (o p : Ordering) → MatchOrdering o (x < y) (x ≡ y) (y < x) → x ≢ y → ordering_then o p ≡ Greater → y < x
above_step x y Less p h differ k = absurd cc
above_step x y Equal p h differ k = absurd (differ h)
above_step x y Greater p h differ k = h

le_above : (x y : ℕ) → y ≢ x → nat_le x y ≡ true → x < y
le_above x y differ h = grind (arith, nat_tests)

-- what is past and of another area is of one behind
past_area : (a : Area) (last : Option (List ℕ)) (e : PlacedFile) → area_number e.area ≢ area_number a → is_past a last e ≡ true → area_number a < area_number e.area
past_area a None e differ past = le_above (area_number a) (area_number e.area) differ past
past_area a (Some n) e differ past =
    above_step (area_number e.area) (area_number a) (nat_cmp (area_number e.area) (area_number a)) (slice_cmp nat_cmp e.name n) (ranks (area_number e.area) (area_number a)) differ (greater (placed_cmp a n e) past)

past_name : (a : Area) (last : Option (List ℕ)) (e : PlacedFile) → e.area ≡ a → is_past a last e ≡ true → IsAfter last e.name
past_name a None e of past = tt
past_name a (Some n) e of past =
    turned e.name n (sym (in_area a e.name n) ∙ ap (λ b. place_cmp b e.name a n) (sym of) ∙ greater (placed_cmp a n e) past)

not_before_itself : (e : PlacedFile) → placed_cmp e.area e.name e ≡ Equal
not_before_itself e = tied_itself places_total (e.area, e.name)

module _ (es : List PlacedFile) (i : ℕ) (a : Area) (last : Option (List ℕ)) (cut : IsCut es i a last) (order : InOrder es) (e : PlacedFile) (lt : i < length es) (is : e ≡ get_or es i e) where
  next : drop i es ≡ e ∷ drop (i + 1) es
  next = drop_more es i e lt ∙ ap (λ (x : PlacedFile). x ∷ drop (i + 1) es) (sym is)

  past : is_past a last e ≡ true
  past = (subst (λ (l : List PlacedFile). AllByRecursion (λ x. is_past a last x ≡ true) l) next cut.rest).0

  behind_next : (m : List ℕ) → IsSome (table es a m) → IsAfter last m → IsSome (table (e ∷ drop (i + 1) es) a m)
  behind_next m some late = subst (λ (l : List PlacedFile). IsSome (table l a m)) next (behind es i a last cut m some late)

  ordered : InOrder (take i es ++ e ∷ drop (i + 1) es)
  ordered = order_around es i e order lt is

  above : AllByRecursion (λ y. GoesBefore e y) (drop (i + 1) es)
  above = behind_it (take i es) e (drop (i + 1) es) ordered

  -- the next file is of another area
  none_in_area : area_number e.area ≢ area_number a → IsLeastAfter (table es a) last None
  none_in_area differ = λ m some late.
      let first = past_area a last e differ past in
      let all = each-same (λ y. GoesBefore e y) (λ y. area_number a < area_number y.area) (drop (i + 1) es) (λ y h. let up = areas_rise e y h in omega (arith, first, up)) above in
      let y = among (λ y. area_number a < area_number y.area) (e ∷ drop (i + 1) es) a m (first, all) (behind_next m some late) in
      let same : area_number y.0.area ≡ area_number a = ap area_number (same_place-true y.0.area y.0.name a m y.2).0 in
      omega (arith, y.1, same)

  module _ (of : e.area ≡ a) where
    here : same_place e.area e.name a e.name ≡ true
    here = ap (λ b. same_place b e.name a e.name) of ∙ same_place-refl a e.name

    there : IsSome (table es a e.name)
    there =
        let front : IsSome (table (e ∷ drop (i + 1) es) a e.name) = subst (λ t. IsSome (if t then Some (kept e.file) else table (drop (i + 1) es) a e.name)) (sym here) refl in
        subst (λ (o : Option Kept). IsSome o) (sym (in_parts es i a last cut e.name)) (some_behind (table (take i es) a e.name) (table (drop i es) a e.name) (subst (λ (l : List PlacedFile). IsSome (table l a e.name)) (sym next) front))

    none_between : (m : List ℕ) → IsSome (table es a m) → IsAfter last m → slice_cmp nat_cmp m e.name ≢ Less
    none_between m some late before =
        let first : placed_cmp e.area e.name e ≢ Less = λ h. (let same = not_before_itself e in cc) in
        let all = each-same (λ y. GoesBefore e y) (λ y. placed_cmp e.area e.name y ≢ Less) (drop (i + 1) es) (λ y h less. (let back = before_turned e.area e.name y.area y.name h in cc)) above in
        let y = among (λ y. placed_cmp e.area e.name y ≢ Less) (e ∷ drop (i + 1) es) a m (first, all) (behind_next m some late) in
        let both = same_place-true y.0.area y.0.name a m y.2 in
        y.1 (ap (λ b. place_cmp b y.0.name e.area e.name) both.0 ∙ ap (λ l. place_cmp a l e.area e.name) both.1 ∙ ap (λ b. place_cmp a m b e.name) of ∙ in_area a m e.name ∙ before)

    next_least : IsLeastAfter (table es a) last (Some e.name)
    next_least = (there, past_name a last e of past, none_between)

    next_cut : IsCut es (i + 1) a (Some e.name)
    next_cut = record {
      within = omega (arith, lt);
      front = subst (λ (l : List PlacedFile). AllByRecursion (λ x. is_gt (placed_cmp a e.name x) ≡ false) l) (sym longer)
          (each-append (λ x. is_gt (placed_cmp a e.name x) ≡ false) (take i es) (e ∷ []) (each-same (λ x. GoesBefore x e) (λ x. is_gt (placed_cmp a e.name x) ≡ false) (take i es) (λ x h. by_area x ∙ ap is_gt h) (before_it (take i es) e (drop (i + 1) es) ordered)) (by_area e ∙ ap is_gt (not_before_itself e), tt));
      rest = each-same (λ y. GoesBefore e y) (λ y. is_gt (placed_cmp a e.name y) ≡ true) (drop (i + 1) es) (λ y h. by_area y ∙ ap is_gt (before_turned e.area e.name y.area y.name h)) above;
    }
      where
        by_area : (x : PlacedFile) → is_gt (placed_cmp a e.name x) ≡ is_gt (placed_cmp e.area e.name x)
        by_area x = ap (λ b. is_gt (placed_cmp b e.name x)) (sym of)

        longer : take (i + 1) es ≡ take i es ++ e ∷ []
        longer = take_more es i e lt ∙ ap (λ (x : PlacedFile). take i es ++ x ∷ []) (sym is)

-- ---- the names so far

-- they are those up to an index
pub record AreListed (es : List PlacedFile) (i : ℕ) (a : Area) (after : Option (List ℕ)) (names : List (List ℕ)) : Type 0 where
  pub so_far : SoFar (table es a) after (last_name after names) names
  pub cut : IsCut es i a (last_name after names)

module _ (es : List PlacedFile) (i : ℕ) (a : Area) (after : Option (List ℕ)) (names : List (List ℕ)) (listed : AreListed es i a after names) where
  pub ends_listed : length es ≤ i → IsListing (table es a) after names
  ends_listed end = all_listed (table es a) after (last_name after names) names listed.so_far (none_at_end es i a (last_name after names) listed.cut end)

  pub enough_listed : 64 ≤ length names → IsListing (table es a) after names
  enough_listed long = many_listed (table es a) after (last_name after names) names listed.so_far long

  -- all up to 64
  pub all_listed_there : (start count : ℕ) → start ≤ length es → count ≡ min 64 (length es - start) → start + count ≤ i → start + length names ≡ i → IsListing (table es a) after names
  all_listed_there start count within is reached so_many = elim (cases_lt i (length es)) [
    | inl less ↦ enough_listed (omega (arith, within, is, reached, so_many, less))
    | inr end ↦ ends_listed end
  ]

  module _ (order : InOrder es) (e : PlacedFile) (lt : i < length es) (is : e ≡ get_or es i e) where
    pub area_listed : area_number e.area ≢ area_number a → IsListing (table es a) after names
    area_listed differ = all_listed (table es a) after (last_name after names) names listed.so_far (none_in_area es i a (last_name after names) listed.cut order e lt is differ)

    pub more_listed : area_number e.area ≡ area_number a → AreListed es (i + 1) a after (names ++ e.name ∷ [])
    more_listed number =
        let of = same_area e.area a number in
        let last = last-push after names e.name in
        record {
          so_far = subst (λ (o : Option (List ℕ)). SoFar (table es a) after o (names ++ e.name ∷ [])) (sym last) (one_more (table es a) after (last_name after names) names e.name listed.so_far (next_least es i a (last_name after names) listed.cut order e lt is of));
          cut = subst (λ (o : Option (List ℕ)). IsCut es (i + 1) a o) (sym last) (next_cut es i a (last_name after names) listed.cut order e lt is of);
        }
