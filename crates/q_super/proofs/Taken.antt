-- The files that an act takes: those of the book, and those that were found.
use Rattle.std.proofs.Common.{◌≡◌, ◌<◌, ◌⊎◌, ◌∙◌, ◌&&◌, ◌||◌, ◌∷◌, ◌++◌, [], ℕ, Bool, true, false, filter, List, map, is_some, Some, None, Option, ⊎_elim, inl, inr, refl, sym, ap, append-nil, append_assoc, subst, true≢false}
use Rattle.std.specs.Cmp.Lexicographic.{nat_list_cmp_total, slice_cmp}
use Rattle.std.specs.List.{AllByRecursion, Contains, list_any}
use Rattle.std.specs.List.Sorted.{IsStrictlySortedBy}
use Rattle.std.specs.Cmp.{ranks}
use Rattle.std.specs.Ordering.{MatchOrdering, nat_cmp, ordering_reverse, ordering_then}
use Rattle.std.specs.declared.cmp.Ordering.{Ordering}
use Rattle.std.specs.declared.cmp.Ordering.TheVariants.{Equal, Greater, Less}
use Rattle.std.proofs.lemmas.Bool.{and_from, and_parts, or_cases}
use Rattle.std.proofs.lemmas.List.Elements.{Contains-append_cases, Contains-append_left, Contains-append_right}
use Rattle.q_model.specs.declared.id.Id.{Id}
use Rattle.q_model.specs.declared.rows.Place.{Place}
use Rattle.q_model.specs.declared.spot.Area.{Area}
use Rattle.q_model.specs.declared.spot.Area.TheVariants as areas
use Rattle.q_model.specs.Book.{Book, Damaged}
use Rattle.q_model.specs.FilesStand.{DamagedStands, MessageStands, Stands}
use Rattle.q_model.specs.Ids.{are_distinct, id_eq}
use Rattle.q_model.specs.IdTexts.{IsId}
use Rattle.q_model.specs.Message.{Message}
use Rattle.q_model.specs.Places.{place_eq}
use Rattle.q_model.specs.SpoolFiles.{area_of, file_at, Files, IsPlace}
use Rattle.q_model.proofs.EachLaws.{each-append, each-map, each-same}
use Rattle.q_model.proofs.IdLaws.{id_eq-refl, id_eq-true}
use Rattle.q_model.proofs.SpotLaws.{place_eq-refl, place_eq-true, same_spot}
use Rattle.q_laws.proofs.Distinct.{distinct_named, distinct_tail}
use Rattle.q_laws.proofs.Members.{any_from, any_in, in_either, in_filter, in_filtered, in_left, in_map, in_right, in_unmap, IsIn}
use Rattle.q_host.specs.Files.{area_number}
use Rattle.q_host.proofs.NamesInOrder.{either_order}
use Rattle.q_host.proofs.Puts.{same_area}
use Rattle.q_restart.proofs.Lists.{has_none, sorted_append, sorted_same}
use Rattle.q_super.specs.declared.acts.Act.{Act}
use Rattle.q_super.specs.declared.acts.Act.TheVariants as acts
use Rattle.q_super.specs.declared.standing.Standing.{Standing}
use Rattle.q_super.specs.Acts.{takes, takes_from}
use Rattle.q_super.specs.Moves.{AreThere, is_file, stands_there}
use Rattle.q_super.specs.Finding.{IsSource}
use Rattle.q_super.specs.Names.{AddsTaken, AreAllOf, AreSources, AreTakenIf, IsOfArea}
use Rattle.q_super.specs.Standings.{file_name, of_damaged, of_message, standing_cmp, standings, taken}
use Rattle.q_super.proofs.ToldMoves.{file_there}
use Rattle.q_super.proofs.Ordering.{all_in_order, AreApart, distinct_in_order, has_in, in_has, IsApart, one_in_order, order_in_order, standings_total}

-- ---- the files of a book

-- a file that stands is one of the book's
pub is_of_book : (b : Book) (s : Standing) → stands_there b s ≡ true → IsIn s (standings b)
is_of_book b s there = ⊎_elim
    (λ whole. let one = any_in (λ (m : Message). id_eq m.id s.id && place_eq s.place m.place) b.messages whole in
    let two = and_parts (id_eq one.0.id s.id) (place_eq s.place one.0.place) one.2 in
    in_left s (map of_message b.messages) (map of_damaged b.damaged)
    (subst (λ (x : Standing). IsIn x (map of_message b.messages)) (made (of_message one.0) (id_eq-true one.0.id s.id two.0) (place_eq-true s.place one.0.place two.1)) (in_map of_message one.0 b.messages one.1)))
    (λ broken. let one = any_in (λ (d : Damaged). id_eq d.id s.id && place_eq s.place d.place) b.damaged broken in
    let two = and_parts (id_eq one.0.id s.id) (place_eq s.place one.0.place) one.2 in
    in_right s (map of_message b.messages) (map of_damaged b.damaged)
    (subst (λ (x : Standing). IsIn x (map of_damaged b.damaged)) (made (of_damaged one.0) (id_eq-true one.0.id s.id two.0) (place_eq-true s.place one.0.place two.1)) (in_map of_damaged one.0 b.damaged one.1)))
    (or_cases (list_any (λ (m : Message). id_eq m.id s.id && place_eq s.place m.place) b.messages) (list_any (λ (d : Damaged). id_eq d.id s.id && place_eq s.place d.place) b.damaged) there)
  where
    made : (x : Standing) → x.id ≡ s.id → s.place ≡ x.place → x ≡ s
    made x i p = ap (λ (j : Id). standing j x.place) i ∙ ap (standing s.id) (sym p)
      where
        standing : Id → Place → Standing
        standing id place = record { id = id; place = place }

-- and each of the book's stands
pub of_book_there : (b : Book) (s : Standing) → IsIn s (standings b) → stands_there b s ≡ true
of_book_there b s h = ⊎_elim
    (λ whole. let one = in_unmap of_message s b.messages whole in
    subst (λ (x : Standing). stands_there b x ≡ true) one.2
    (left _ _ (any_from (λ (m : Message). id_eq m.id one.0.id && place_eq one.0.place m.place) one.0 b.messages one.1 (and_from (id_eq one.0.id one.0.id) (place_eq one.0.place one.0.place) (id_eq-refl one.0.id) (place_eq-refl one.0.place)))))
    (λ broken. let one = in_unmap of_damaged s b.damaged broken in
    subst (λ (x : Standing). stands_there b x ≡ true) one.2
    (right _ _ (any_from (λ (d : Damaged). id_eq d.id one.0.id && place_eq one.0.place d.place) one.0 b.damaged one.1 (and_from (id_eq one.0.id one.0.id) (place_eq one.0.place one.0.place) (id_eq-refl one.0.id) (place_eq-refl one.0.place)))))
    (in_either s (map of_message b.messages) (map of_damaged b.damaged) h)
  where
    left : (x y : Bool) → x ≡ true → (x || y) ≡ true
    left x y e = ap (λ t. t || y) e

    right : (x y : Bool) → y ≡ true → (x || y) ≡ true
    right true y e = refl
    right false y e = e

module _ (f : Files) (b : Book) (h : Stands f b) where
  -- it has the form of a file
  abbrev InForm : Standing → Type 0
  InForm s = IsId s.id × IsPlace s.place

  pub in_form : AllByRecursion InForm (standings b)
  in_form = each-append InForm (map of_message b.messages) (map of_damaged b.damaged)
      (each-map (MessageStands f) InForm of_message b.messages (λ m k. (k.id, k.place)) h.messages)
      (each-map (DamagedStands f) InForm of_damaged b.damaged (λ d k. (k.id, k.place)) h.damaged)

  -- where files stand for the book, a file of the right form is the book's
  pub file_of_book : (s : Standing) → IsId s.id → IsPlace s.place → is_file f s ≡ true → stands_there b s ≡ true
  file_of_book s form place there = by (file_at f s.place s.id) refl there
    where
      by : (o : Option (List ℕ)) → file_at f s.place s.id ≡ o → is_some o ≡ true → stands_there b s ≡ true
      by None e k = absurd cc
      by (Some bytes) e k = h.nothing_else s.place s.id bytes form place e

-- ---- no two of them tie

then_equal : (o p : Ordering) → ordering_then o p ≡ Equal → (o ≡ Equal) × (p ≡ Equal)
then_equal Less p e = absurd cc
then_equal Equal p e = (refl, e)
then_equal Greater p e = absurd cc

nat_tie : (x y : ℕ) → nat_cmp x y ≡ Equal → x ≡ y
nat_tie x y tie = subst (λ r. MatchOrdering r (x < y) (x ≡ y) (y < x)) tie (ranks x y)

name_tie : (n m : List ℕ) → slice_cmp nat_cmp n m ≡ Equal → n ≡ m
name_tie n m tie = by (either_order n m)
  where
    differ : (o p : Ordering) → o ≡ ordering_reverse p → o ≡ Equal → p ≡ Less → ⊥
    differ o p e here there = less_greater (sym here ∙ e ∙ ap ordering_reverse there)
      where
        less_greater : Equal ≡ Greater → ⊥
        less_greater k = cc

    by : (slice_cmp nat_cmp n m ≡ Less) ⊎ ((n ≡ m) ⊎ (slice_cmp nat_cmp m n ≡ Less)) → n ≡ m
    by (inl less) = absurd (equal_less (sym tie ∙ less))
      where
        equal_less : Equal ≡ Less → ⊥
        equal_less k = cc
    by (inr (inl same)) = same
    by (inr (inr more)) = absurd (differ (slice_cmp nat_cmp n m) (slice_cmp nat_cmp m n) (nat_list_cmp_total.antisymm n m) tie more)

tie_same : (s t : Standing) → IsId s.id → IsId t.id → IsPlace s.place → IsPlace t.place → standing_cmp s t ≡ Equal → s.id ≡ t.id
tie_same s t hs ht ps pt tie =
    let two = then_equal (nat_cmp (area_number (area_of s.place)) (area_number (area_of t.place))) (slice_cmp nat_cmp (file_name s) (file_name t)) tie in
    (same_spot s.place t.place s.id t.id ps pt hs ht (same_area (area_of s.place) (area_of t.place) (nat_tie (area_number (area_of s.place)) (area_number (area_of t.place)) two.0)) (name_tie (file_name s) (file_name t) two.1)).1

apart_from : (x : Standing) (ys : List Standing) → IsId x.id → IsPlace x.place → AllByRecursion (λ s. IsId s.id × IsPlace s.place) ys → (IsIn x.id (map (λ (s : Standing). s.id) ys) → ⊥) → IsApart x ys
apart_from x [] i p each none = tt
apart_from x (y ∷ ys) i p each none = (
  λ tie. none (inl (tie_same y x each.0.0 i each.0.1 p tie)),
  apart_from x ys i p each.1 (λ inside. none (inr inside)),
)

apart_all : (xs : List Standing) → AllByRecursion (λ s. IsId s.id × IsPlace s.place) xs → are_distinct (map (λ (s : Standing). s.id) xs) ≡ true → AreApart xs
apart_all [] each h = tt
apart_all (x ∷ xs) each h =
    let tail = distinct_tail x.id (map (λ (s : Standing). s.id) xs) h in
    (apart_from x xs each.0.0 each.0.1 each.1 tail.0, apart_all xs each.1 tail.1)

-- ---- each of a list

pub in_each : {A : Type 0} (P : A → Type 0) (xs : List A) (x : A) → AllByRecursion P xs → IsIn x xs → P x
in_each P [] x h k = absurd k
in_each P (y ∷ ys) x h (inl e) = subst P e h.0
in_each P (y ∷ ys) x h (inr k) = in_each P ys x h.1 k

pub each_in : {A : Type 0} (P : A → Type 0) (xs : List A) → ((x : A) → IsIn x xs → P x) → AllByRecursion P xs
each_in P [] h = tt
each_in P (x ∷ xs) h = (h x (inl refl), each_in P xs (λ y k. h y (inr k)))

-- ---- those that an act takes

damaged_ids : (ds : List Damaged) → map (λ (s : Standing). s.id) (map of_damaged ds) ≡ map (λ (d : Damaged). d.id) ds
damaged_ids [] = refl
damaged_ids (d ∷ ds) = ap (λ (is : List Id). d.id ∷ is) (damaged_ids ds)

standing_ids : (ms : List Message) (ds : List Damaged) → map (λ (s : Standing). s.id) (map of_message ms ++ map of_damaged ds) ≡ map (λ (m : Message). m.id) ms ++ map (λ (d : Damaged). d.id) ds
standing_ids [] ds = damaged_ids ds
standing_ids (m ∷ ms) ds = ap (λ (is : List Id). m.id ∷ is) (standing_ids ms ds)

module _ (f : Files) (b : Book) (h : Stands f b) (act : Act) where
  abbrev some : List Standing
  some = filter (λ s. takes act s.place) (standings b)

  some_distinct : are_distinct (map (λ (s : Standing). s.id) some) ≡ true
  some_distinct = distinct_named (λ (s : Standing). s.id) (λ s. takes act s.place) (standings b) (ap are_distinct (standing_ids b.messages b.damaged) ∙ h.distinct)

  taken_sorted : IsStrictlySortedBy standing_cmp (taken act b)
  taken_sorted = order_in_order some (apart_all some (each_in (λ s. IsId s.id × IsPlace s.place) some (λ s k. in_each (λ x. IsId x.id × IsPlace x.place) (standings b) s (in_form f b h) (in_filtered (λ x. takes act x.place) s (standings b) k).0)) some_distinct)

  abbrev IsTaken : Standing → Type 0
  IsTaken s = IsIn s (standings b) × (takes act s.place ≡ true)

  all_taken : AllByRecursion IsTaken (taken act b)
  all_taken = all_in_order IsTaken some (each_in IsTaken some (λ s k. in_filtered (λ x. takes act x.place) s (standings b) k))

  -- the book has them
  pub taken_there : AreThere b (taken act b)
  taken_there = record {
    there = each-same IsTaken (λ s. stands_there b s ≡ true) (taken act b) (λ s k. of_book_there b s k.0) all_taken;
    apart = distinct_in_order some some_distinct;
  }

  pub taken_from : AllByRecursion (λ s. takes act s.place ≡ true) (taken act b)
  taken_from = each-same IsTaken (λ s. takes act s.place ≡ true) (taken act b) (λ s k. k.1) all_taken

  -- a file that may be taken
  pub record IsTakenFile (s : Standing) : Type 0 where
    pub form : IsId s.id
    pub place : IsPlace s.place
    pub from : takes act s.place ≡ true
    pub there : is_file f s ≡ true

  taken_file : (s : Standing) → Contains (taken act b) s → IsTakenFile s
  taken_file s k =
      let two = in_each IsTaken (taken act b) s all_taken (in_has s (taken act b) k) in
      let form = in_each (λ x. IsId x.id × IsPlace x.place) (standings b) s (in_form f b h) two.0 in
      record { form = form.0; place = form.1; from = two.1; there = file_there f b s h (of_book_there b s two.0) }

  -- found in this order, without one left out
  pub taken_found : (xs : List Standing) → IsStrictlySortedBy standing_cmp xs → ((s : Standing) → Contains xs s → IsTakenFile s) → ((s : Standing) → IsTakenFile s → Contains xs s) → xs ≡ taken act b
  taken_found xs sorted there all = sorted_same standing_cmp standings_total xs (taken act b) sorted taken_sorted
      (λ s k. let one = there s k in
      has_in s (taken act b) (one_in_order s some (in_filter (λ x. takes act x.place) s (standings b) (is_of_book b s (file_of_book f b h s one.form one.place one.there)) one.from)))
      (λ s k. all s (taken_file s k))

-- ---- area by area

which_area : (act : Act) (area : Area) → takes_from act area ≡ true → (area ≡ areas.Incoming) ⊎ ((area ≡ areas.Deferred) ⊎ (area ≡ areas.Hold))
which_area acts.Hold areas.Incoming h = inl refl
which_area acts.Hold areas.Deferred h = inr (inl refl)
which_area acts.Release areas.Hold h = inr (inr refl)
which_area acts.Requeue areas.Deferred h = inr (inl refl)
which_area acts.Expire areas.Incoming h = inl refl
which_area acts.Expire areas.Deferred h = inr (inl refl)
which_area acts.Expire areas.Hold h = inr (inr refl)
which_area act area h = absurd cc

area_less : (s t : Standing) (a c : Area) → area_of s.place ≡ a → area_of t.place ≡ c → nat_cmp (area_number a) (area_number c) ≡ Less → standing_cmp s t ≡ Less
area_less s t a c hs ht less =
    ap (λ (o : Ordering). ordering_then o (slice_cmp nat_cmp (file_name s) (file_name t))) (ap (λ (x : Area). nat_cmp (area_number x) (area_number (area_of t.place))) hs ∙ ap (λ (x : Area). nat_cmp (area_number a) (area_number x)) ht ∙ less)

-- what was found in an area for an act
pub record IsPart (f : Files) (act : Act) (area : Area) (part : List Standing) : Type 0 where
  pub sorted : IsStrictlySortedBy standing_cmp part
  pub there : (s : Standing) → Contains part s → IsOfArea area s × (is_file f s ≡ true) × (takes_from act area ≡ true)
  pub all : (s : Standing) → takes_from act area ≡ true → IsOfArea area s → is_file f s ≡ true → Contains part s

sorted_none : IsStrictlySortedBy standing_cmp []
unfolding IsStrictlySortedBy
sorted_none = tt

pub part_of : (f : Files) (act : Act) (area : Area) (part : List Standing) → AreTakenIf (takes_from act area) f area part → IsPart f act area part
part_of f act area part are = by (takes_from act area) refl are
  where
    by : (t : Bool) → takes_from act area ≡ t → AreTakenIf t f area part → IsPart f act area part
    by true e k = record { sorted = k.sorted; there = λ s c. let two = k.there s c in (two.0, two.1, e); all = λ s takes is there. k.all s is there }
    by false e k = subst (IsPart f act area) (sym k) (record { sorted = sorted_none; there = λ s c. absurd (has_none s c); all = λ s takes is there. absurd (true≢false (sym takes ∙ e)) })

module _ (f : Files) (act : Act) (p q r : List Standing) (hp : IsPart f act areas.Incoming p) (hq : IsPart f act areas.Deferred q) (hr : IsPart f act areas.Hold r) where
  behind_sorted : IsStrictlySortedBy standing_cmp (q ++ r)
  behind_sorted = sorted_append standing_cmp standings_total q r hq.sorted hr.sorted (λ x y hx hy. area_less x y areas.Deferred areas.Hold (hq.there x hx).0.inside (hr.there y hy).0.inside refl)

  parts_sorted : IsStrictlySortedBy standing_cmp (p ++ (q ++ r))
  parts_sorted = sorted_append standing_cmp standings_total p (q ++ r) hp.sorted behind_sorted (λ x y hx hy. ⊎_elim
      (λ k. area_less x y areas.Incoming areas.Deferred (hp.there x hx).0.inside (hq.there y k).0.inside refl)
      (λ k. area_less x y areas.Incoming areas.Hold (hp.there x hx).0.inside (hr.there y k).0.inside refl)
      (Contains-append_cases q r y hy))

  -- the files that were found in the three areas are those that the act takes
  pub parts_taken : (b : Book) → Stands f b → p ++ (q ++ r) ≡ taken act b
  parts_taken b h = taken_found f b h act (p ++ (q ++ r)) parts_sorted
      (λ s k. ⊎_elim (λ c. file areas.Incoming s (hp.there s c)) (λ later. ⊎_elim (λ c. file areas.Deferred s (hq.there s c)) (λ c. file areas.Hold s (hr.there s c)) (Contains-append_cases q r s later)) (Contains-append_cases p (q ++ r) s k))
      (λ s is. ⊎_elim
      (λ e. Contains-append_left p (q ++ r) s (hp.all s (subst (λ (a : Area). takes_from act a ≡ true) e is.from) (record { form = is.form; place = is.place; inside = e }) is.there))
      (λ later. Contains-append_right p (q ++ r) s (⊎_elim
      (λ e. Contains-append_left q r s (hq.all s (subst (λ (a : Area). takes_from act a ≡ true) e is.from) (record { form = is.form; place = is.place; inside = e }) is.there))
      (λ e. Contains-append_right q r s (hr.all s (subst (λ (a : Area). takes_from act a ≡ true) e is.from) (record { form = is.form; place = is.place; inside = e }) is.there))
      later))
      (which_area act (area_of s.place) is.from))
    where
      file : (area : Area) (s : Standing) → IsOfArea area s × (is_file f s ≡ true) × (takes_from act area ≡ true) → IsTakenFile f b h act s
      file area s k = record { form = k.0.form; place = k.0.place; from = ap (takes_from act) k.0.inside ∙ k.2; there = k.1 }

-- ---- in turn

pub adds_none : (f : Files) (act : Act) (area : Area) (old : List Standing) → takes_from act area ≡ false → AddsTaken f act area old old
adds_none f act area old e = record { found = []; are = subst (λ (t : Bool). AreTakenIf t f area []) (sym e) refl; added = sym (append-nil old) }

pub adds_all : (f : Files) (act : Act) (area : Area) (found old new : List Standing) → takes_from act area ≡ true → AreAllOf f area found → new ≡ old ++ found → AddsTaken f act area old new
adds_all f act area found old new e are added = record { found = found; are = subst (λ (t : Bool). AreTakenIf t f area found) (sym e) are; added = added }

pub sources_added : (act : Act) (area : Area) (found old new : List Standing) → takes_from act area ≡ true → AllByRecursion (IsOfArea area) found → new ≡ old ++ found → AreSources act old → AreSources act new
sources_added act area found old new e each added before = subst (AreSources act) (sym added)
    (each-append (λ (s : Standing). IsSource act s.id s.place) old found before
    (each-same (IsOfArea area) (λ (s : Standing). IsSource act s.id s.place) found (λ s k. record { form = k.form; fits = k.place; from = ap (takes_from act) k.inside ∙ e }) each))

pub taken_in_turn : (f : Files) (act : Act) (b : Book) (old first second third : List Standing) → Stands f b → old ≡ [] → AddsTaken f act areas.Incoming old first → AddsTaken f act areas.Deferred first second → AddsTaken f act areas.Hold second third → third ≡ taken act b
taken_in_turn f act b old first second third h none p q r =
    let front : first ≡ p.found = p.added ∙ ap (λ (xs : List Standing). xs ++ p.found) none in
    let middle : second ≡ p.found ++ q.found = q.added ∙ ap (λ (xs : List Standing). xs ++ q.found) front in
    r.added ∙ ap (λ (xs : List Standing). xs ++ r.found) middle ∙ append_assoc p.found q.found r.found
    ∙ parts_taken f act p.found q.found r.found (part_of f act areas.Incoming p.found p.are) (part_of f act areas.Deferred q.found q.are) (part_of f act areas.Hold r.found r.are) b h
