-- The files of messages among the names of areas, gone through one area behind another.
use Rattle.std.proofs.Common.{◌≡◌, ◌⊎◌, ◌<◌, ◌≤◌, ◌+◌, ℕ, zero, suc, List, [], ◌∷◌, ◌++◌, length, take, inl, inr, ⊎_elim, refl, sym, ap, subst, ◌∙◌, arith, append_assoc, append-nil}
use Rattle.std.specs.Cmp.{IsTotalOrder}
use Rattle.std.specs.Cmp.Lexicographic.{nat_list_cmp_total, slice_cmp}
use Rattle.std.specs.List.{Contains}
use Rattle.std.specs.List.Sorted.{IsStrictlySortedBy}
use Rattle.std.specs.Option.{IsSome}
use Rattle.std.specs.Ordering.{nat_cmp, ordering_then}
use Rattle.std.specs.Prelude.{slice_index_or}
use Rattle.std.specs.declared.cmp.Ordering.{Ordering}
use Rattle.std.specs.declared.cmp.Ordering.TheVariants.{Equal, Less}
use Rattle.std.specs.Cmp.{nat_cmp_is}
use Rattle.std.proofs.lemmas.Bool.{cases_lt}
use Rattle.std.proofs.lemmas.Cmp.{nat_cmp_total, on_total, then_total}
use Rattle.std.proofs.lemmas.List.{take_more}
use Rattle.std.proofs.lemmas.List.Elements.{Contains-append_cases, Contains-append_left, Contains-append_right}
use Rattle.q_model.specs.declared.id.Id.{Id}
use Rattle.q_model.specs.declared.rows.Place.{Place}
use Rattle.q_model.specs.declared.rows.Place.TheVariants as places
use Rattle.q_model.specs.declared.spot.Area.{Area}
use Rattle.q_model.specs.declared.spot.Area.TheVariants as areas
use Rattle.q_model.specs.SpoolFiles.{area_of, Files, name_at}
use Rattle.q_model.proofs.SpotLaws.{same_spot}
use Rattle.q_host.specs.Files.{area_number}
use Rattle.q_host.proofs.Puts.{same_area}
use Rattle.q_restart.specs.declared.standing.Standing.{Standing}
use Rattle.q_restart.specs.Walks.{AddsStandings, ArePlaces, AreStandings, AddsArea, HasStanding, IsNoStanding, IsStandingAt, IsWalk, standing_cmp}
use Rattle.q_restart.proofs.Lists.{each_has, has_cases, has_head, has_none, has_tail, sorted_append, sorted_first, sorted_rest}

pub standing_cmp_total : IsTotalOrder standing_cmp
standing_cmp_total = then_total (on_total (λ (s : Standing). area_number (area_of s.place)) nat_cmp_total) (on_total (λ (s : Standing). name_at s.place s.id) nat_list_cmp_total)

abbrev standing : Id → Place → Standing
standing id place = record { id = id; place = place }

-- a name is of one file
pub one_standing : (area : Area) (n : List ℕ) (s t : Standing) → IsStandingAt area n s → IsStandingAt area n t → s ≡ t
one_standing area n s t hs ht =
    let same = same_spot s.place t.place s.id t.id hs.place ht.place hs.id ht.id (hs.area_is ∙ sym ht.area_is) (hs.name_is ∙ sym ht.name_is) in
    ap (λ (p : Place). standing s.id p) same.0 ∙ ap (λ (i : Id). standing i t.place) same.1

-- ---- one name more

found-push : (area : Area) (names : List (List ℕ)) (n : List ℕ) (s : Standing) (found : List Standing) → IsStandingAt area n s → AreStandings area names found → AreStandings area (names ++ n ∷ []) (found ++ s ∷ [])
found-push area [] n s found here are = inl (s, [], here, ap (λ (xs : List Standing). xs ++ s ∷ []) are, refl)
found-push area (m ∷ names) n s found here (inl k) = inl (k.0, k.1 ++ s ∷ [], k.2, ap (λ (xs : List Standing). xs ++ s ∷ []) k.3, found-push area names n s k.1 here k.4)
found-push area (m ∷ names) n s found here (inr k) = inr (k.0, found-push area names n s found here k.1)

found-skip : (area : Area) (names : List (List ℕ)) (n : List ℕ) (found : List Standing) → IsNoStanding area n → AreStandings area names found → AreStandings area (names ++ n ∷ []) found
found-skip area [] n found none are = inr (none, are)
found-skip area (m ∷ names) n found none (inl k) = inl (k.0, k.1, k.2, k.3, found-skip area names n k.1 none k.4)
found-skip area (m ∷ names) n found none (inr k) = inr (k.0, found-skip area names n found none k.1)

pub adds-none : (area : Area) (old : List Standing) → AddsStandings area [] old old
adds-none area old = record { found = []; are = refl; added = sym (append-nil old) }

more : (names : List (List ℕ)) (i : ℕ) (n : List ℕ) → i < length names → n ≡ slice_index_or names i n → take (i + 1) names ≡ take i names ++ n ∷ []
more names i n within is = take_more names i n within ∙ ap (λ (m : List ℕ). take i names ++ m ∷ []) (sym is)

pub adds-push : (area : Area) (names : List (List ℕ)) (i : ℕ) (n : List ℕ) (s : Standing) (old mid new : List Standing) → i < length names → n ≡ slice_index_or names i n → IsStandingAt area n s → new ≡ mid ++ s ∷ []
    → AddsStandings area (take i names) old mid → AddsStandings area (take (i + 1) names) old new
adds-push area names i n s old mid new within is here pushed adds = record {
  found = adds.found ++ s ∷ [];
  are = subst (λ (ns : List (List ℕ)). AreStandings area ns (adds.found ++ s ∷ [])) (sym (more names i n within is)) (found-push area (take i names) n s adds.found here adds.are);
  added = pushed ∙ ap (λ (xs : List Standing). xs ++ s ∷ []) adds.added ∙ append_assoc old adds.found (s ∷ []);
}

pub adds-skip : (area : Area) (names : List (List ℕ)) (i : ℕ) (n : List ℕ) (old mid new : List Standing) → i < length names → n ≡ slice_index_or names i n → IsNoStanding area n → new ≡ mid
    → AddsStandings area (take i names) old mid → AddsStandings area (take (i + 1) names) old new
adds-skip area names i n old mid new within is none same adds = record {
  found = adds.found;
  are = subst (λ (ns : List (List ℕ)). AreStandings area ns adds.found) (sym (more names i n within is)) (found-skip area (take i names) n adds.found none adds.are);
  added = same ∙ adds.added;
}

-- ---- all files of an area

-- a file that was found has one of the names
pub record IsNamed (area : Area) (names : List (List ℕ)) (s : Standing) : Type 0 where
  pub name : List ℕ
  pub listed : Contains names name
  pub is : IsStandingAt area name s

behind_name : (area : Area) (m : List ℕ) (names : List (List ℕ)) (s : Standing) → IsNamed area names s → IsNamed area (m ∷ names) s
behind_name area m names s h = record { name = h.name; listed = has_tail m names h.name h.listed; is = h.is }

found-named : (area : Area) (names : List (List ℕ)) (found : List Standing) (s : Standing) → AreStandings area names found → Contains found s → IsNamed area names s
found-named area [] found s are k = absurd (has_none s (subst (λ (xs : List Standing). Contains xs s) are k))
found-named area (m ∷ names) found s (inl h) k = ⊎_elim
    (λ (e : h.0 ≡ s). record { name = m; listed = has_head m names; is = subst (IsStandingAt area m) e h.2 })
    (λ behind. behind_name area m names s (found-named area names h.1 s h.4 behind))
    (has_cases h.0 h.1 s (subst (λ (xs : List Standing). Contains xs s) h.3 k))
found-named area (m ∷ names) found s (inr h) k = behind_name area m names s (found-named area names found s h.1 k)

found-all : (area : Area) (names : List (List ℕ)) (found : List Standing) (n : List ℕ) (s : Standing) → AreStandings area names found → Contains names n → IsStandingAt area n s → Contains found s
found-all area [] found n s are k is = absurd (has_none n k)
found-all area (m ∷ names) found n s (inl h) k is = subst (λ (xs : List Standing). Contains xs s) (sym h.3) (⊎_elim
    (λ (e : m ≡ n). subst (λ (t : Standing). Contains (h.0 ∷ h.1) t) (one_standing area n h.0 s (subst (λ (x : List ℕ). IsStandingAt area x h.0) e h.2) is) (has_head h.0 h.1))
    (λ behind. has_tail h.0 h.1 s (found-all area names h.1 n s h.4 behind is))
    (has_cases m names n k))
found-all area (m ∷ names) found n s (inr h) k is = ⊎_elim
    (λ (e : m ≡ n). absurd (h.0 s (subst (λ (x : List ℕ). IsStandingAt area x s) (sym e) is)))
    (λ behind. found-all area names found n s h.1 behind is)
    (has_cases m names n k)

-- a walk's places have the form of places
pub places-none : (walk : List Standing) → walk ≡ [] → ArePlaces walk
places-none walk none s k = absurd (has_none s (subst (λ (xs : List Standing). Contains xs s) none k))

pub places-added : (area : Area) (names : List (List ℕ)) (old new : List Standing) → AddsStandings area names old new → ArePlaces old → ArePlaces new
places-added area names old new adds places s k = ⊎_elim (λ before. places s before) (λ here. (found-named area names adds.found s adds.are here).is.place)
    (Contains-append_cases old adds.found s (subst (λ (xs : List Standing). Contains xs s) adds.added k))

cmp-same : (x : ℕ) → nat_cmp x x ≡ Equal
cmp-same x = sym (nat_cmp_is x x Equal refl)

-- in one area the order is that of names
ahead : (area : Area) (m n : List ℕ) (s t : Standing) → IsStandingAt area m s → IsStandingAt area n t → slice_cmp nat_cmp m n ≡ Less → standing_cmp s t ≡ Less
ahead area m n s t hs ht less =
    ap (λ (o : Ordering). ordering_then o (slice_cmp nat_cmp (name_at s.place s.id) (name_at t.place t.id)))
    (ap (λ (a : Area). nat_cmp (area_number a) (area_number (area_of t.place))) hs.area_is ∙ ap (λ (a : Area). nat_cmp (area_number area) (area_number a)) ht.area_is ∙ cmp-same (area_number area))
    ∙ ap (λ (x : List ℕ). slice_cmp nat_cmp x (name_at t.place t.id)) hs.name_is ∙ ap (slice_cmp nat_cmp m) ht.name_is ∙ less

one-sorted : (s : Standing) (rest : List Standing) → ((t : Standing) → Contains rest t → standing_cmp s t ≡ Less) → IsStrictlySortedBy standing_cmp rest → IsStrictlySortedBy standing_cmp (s ∷ rest)
unfolding IsStrictlySortedBy
one-sorted s rest first h = (each_has (λ t. standing_cmp s t ≡ Less) rest first, h)

none-sorted : IsStrictlySortedBy standing_cmp []
unfolding IsStrictlySortedBy
none-sorted = tt

found-sorted : (area : Area) (names : List (List ℕ)) (found : List Standing) → IsStrictlySortedBy (slice_cmp nat_cmp) names → AreStandings area names found → IsStrictlySortedBy standing_cmp found
found-sorted area [] found sorted are = subst (IsStrictlySortedBy standing_cmp) (sym are) none-sorted
found-sorted area (m ∷ names) found sorted (inl h) = subst (IsStrictlySortedBy standing_cmp) (sym h.3)
    (one-sorted h.0 h.1 (λ t k. let named = found-named area names h.1 t h.4 k in ahead area m named.name h.0 t h.2 named.is (sorted_first (slice_cmp nat_cmp) nat_list_cmp_total m names named.name sorted named.listed))
    (found-sorted area names h.1 (sorted_rest (slice_cmp nat_cmp) nat_list_cmp_total m names sorted) h.4))
found-sorted area (m ∷ names) found sorted (inr h) = found-sorted area names found (sorted_rest (slice_cmp nat_cmp) nat_list_cmp_total m names sorted) h.1

-- ---- one area behind another

-- all files of ids in the areas up to one
pub record IsWalkTo (f : Files) (limit : ℕ) (walk : List Standing) : Type 0 where
  pub sorted : IsStrictlySortedBy standing_cmp walk
  pub there : (s : Standing) → Contains walk s → HasStanding f s
  pub below : (s : Standing) → Contains walk s → area_number (area_of s.place) < limit
  pub all : (s : Standing) → HasStanding f s → area_number (area_of s.place) < limit → Contains walk s

at_least : (p : Place) → 3 ≤ area_number (area_of p)
at_least places.Incoming = omega arith
at_least places.Active = omega arith
at_least (places.Deferred due) = omega arith
at_least places.Hold = omega arith
at_least places.Corrupt = omega arith

at_most : (p : Place) → area_number (area_of p) < 8
at_most places.Incoming = omega arith
at_most places.Active = omega arith
at_most (places.Deferred due) = omega arith
at_most places.Hold = omega arith
at_most places.Corrupt = omega arith

pub walk-none : (f : Files) (walk : List Standing) → walk ≡ [] → IsWalkTo f 3 walk
walk-none f walk none = subst (IsWalkTo f 3) (sym none) (record {
  sorted = none-sorted;
  there = λ s k. absurd (has_none s k);
  below = λ s k. absurd (has_none s k);
  all = λ s h less. absurd (omega (arith, less, at_least s.place));
})

pub walk-whole : (f : Files) (walk : List Standing) → IsWalkTo f 8 walk → IsWalk f walk
walk-whole f walk h = record { sorted = h.sorted; there = h.there; all = λ s k. h.all s k (at_most s.place) }

module _ (f : Files) (area : Area) (old new : List Standing) (so_far : IsWalkTo f (area_number area) old) (through : AddsArea f area old new) where
  abbrev found : List Standing
  found = through.adds.found

  named : (s : Standing) → Contains found s → IsNamed area through.names s
  named s k = found-named area through.names found s through.adds.are k

  number : (s : Standing) → Contains found s → area_number (area_of s.place) ≡ area_number area
  number s k = ap area_number (named s k).is.area_is

  less-cmp : (s t : Standing) → area_number (area_of s.place) < area_number (area_of t.place) → standing_cmp s t ≡ Less
  less-cmp s t less = ap (λ (o : Ordering). ordering_then o (slice_cmp nat_cmp (name_at s.place s.id) (name_at t.place t.id))) (sym (nat_cmp_is (area_number (area_of s.place)) (area_number (area_of t.place)) Less less))

  here : (s : Standing) → Contains found s → HasStanding f s
  here s k =
      let n = named s k in
      record {
        id = n.is.id;
        place = n.is.place;
        there = subst (λ (a : Area). IsSome (f a (name_at s.place s.id))) (sym n.is.area_is) (subst (λ (x : List ℕ). IsSome (f area x)) (sym n.is.name_is) (through.listed.there n.name n.listed));
      }

  -- who stands in this area was found
  at : (s : Standing) → HasStanding f s → area_number (area_of s.place) ≡ area_number area → Contains found s
  at s h same =
      let is : area_of s.place ≡ area = same_area (area_of s.place) area same in
      found-all area through.names found (name_at s.place s.id) s through.adds.are
      (through.listed.all (name_at s.place s.id) (subst (λ (a : Area). IsSome (f a (name_at s.place s.id))) is h.there))
      (record { id = h.id; place = h.place; area_is = is; name_is = refl })

  split : (x y : ℕ) → x < y + 1 → (x < y) ⊎ (x ≡ y)
  split x y h = ⊎_elim (λ less. inl less) (λ ge. inr (omega (arith, h, ge))) (cases_lt x y)

  pub walk-more : IsWalkTo f (area_number area + 1) new
  walk-more = subst (IsWalkTo f (area_number area + 1)) (sym through.adds.added) (record {
    sorted = sorted_append standing_cmp standing_cmp_total old found so_far.sorted (found-sorted area through.names found through.listed.sorted through.adds.are)
        (λ s t hs ht. less-cmp s t (omega (arith, so_far.below s hs, number t ht)));
    there = λ s k. ⊎_elim (λ h. so_far.there s h) (λ h. here s h) (Contains-append_cases old found s k);
    below = λ s k. ⊎_elim (λ h. omega (arith, so_far.below s h)) (λ h. omega (arith, number s h)) (Contains-append_cases old found s k);
    all = λ s h less. ⊎_elim (λ below. Contains-append_left old found s (so_far.all s h below)) (λ same. Contains-append_right old found s (at s h same)) (split (area_number (area_of s.place)) (area_number area) less);
  })

-- ---- the queues, one behind another

abbrev queues : List Area
queues = areas.Incoming ∷ areas.Active ∷ areas.Deferred ∷ areas.Hold ∷ areas.Corrupt ∷ []

queue-number : (i : ℕ) (d : Area) → i < 5 → area_number (slice_index_or queues i d) ≡ 3 + i
queue-number zero d h = refl
queue-number (suc zero) d h = refl
queue-number (suc (suc zero)) d h = refl
queue-number (suc (suc (suc zero))) d h = refl
queue-number (suc (suc (suc (suc zero)))) d h = refl
queue-number (suc (suc (suc (suc (suc i))))) d h = absurd (omega (arith, h))

pub walk-next : (f g : Files) (i : ℕ) (d : Area) (old new : List Standing) → i < 5 → g ≡ f → IsWalkTo f (3 + i) old → AddsArea g (slice_index_or queues i d) old new → IsWalkTo f (3 + (i + 1)) new
walk-next f g i d old new within same so_far through =
    let is = queue-number i d within in
    let done = walk-more f (slice_index_or queues i d) old new (subst (λ (n : ℕ). IsWalkTo f n old) (sym is) so_far) (subst (λ (h : Files). AddsArea h (slice_index_or queues i d) old new) same through) in
    let count : area_number (slice_index_or queues i d) + 1 ≡ 3 + (i + 1) = omega (arith, is) in
    subst (λ (n : ℕ). IsWalkTo f n new) count done

pub walk-end : (f : Files) (i : ℕ) (walk : List Standing) → i ≤ 5 → 5 ≤ i → IsWalkTo f (3 + i) walk → IsWalk f walk
walk-end f i walk most least h =
    let is : 3 + i ≡ 8 = omega (arith, most, least) in
    walk-whole f walk (subst (λ (n : ℕ). IsWalkTo f n walk) is h)
