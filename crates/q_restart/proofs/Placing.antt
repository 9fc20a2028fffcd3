-- The places of ids that are gone through one behind another.
use Rattle.std.proofs.Common.{append_assoc, take-append-drop, ◌≡◌, ◌<◌, ◌≤◌, ◌+◌, ℕ, Bool, true, false, List, [], ◌∷◌, ◌++◌, length, take, drop, Option, Some, None, if◌then◌else◌, cond, refl, sym, ap, subst, ◌∙◌, arith}
use Rattle.std.specs.BTreeMap.{Updates}
use Rattle.std.specs.Option.{option_map, option_map_or, option_or}
use Rattle.std.specs.Ordering.{bool_cmp, is_eq, nat_cmp, ordering_then}
use Rattle.std.specs.Prelude.{◌==◌, find, is_some, not, slice_index_or, ◌&&◌}
use Rattle.std.specs.declared.cmp.Ordering.{Ordering}
use Rattle.std.specs.declared.cmp.Ordering.TheVariants.{Equal, Greater, Less}
use Rattle.std.proofs.lemmas.Bool.Decides.{nat_tests}
use Rattle.std.proofs.lemmas.List.{drop_more, take_more, take_all}
use Rattle.std.specs.List.{Contains}
use Rattle.std.proofs.lemmas.List.Elements.{Contains-append_right}
use Rattle.q_restart.proofs.Lists.{has_head, has_tail}
use Rattle.std.proofs.lemmas.List.Folds.{find-append}
use Rattle.std.proofs.Math.ListN.{drop_of_length-le}
use Rattle.q_model.specs.declared.id.Id.{Id}
use Rattle.q_model.specs.declared.rows.Place.{Place}
use Rattle.q_model.specs.Ids.{bool_eq, cause_of, id_eq}
use Rattle.q_model.specs.Places.{is_active, is_incoming}
use Rattle.q_model.proofs.IdLaws.{id_eq-true}
use Rattle.q_restart.specs.declared.standing.Standing.{Standing}
use Rattle.q_restart.specs.Damages.{is_mispaired, repeated_behind}
use Rattle.q_restart.specs.Judgements.{mispaired_at}
use Rattle.q_restart.specs.Places.{ArePlacesOf, id_cmp, IdMap, place_at}
use Rattle.q_restart.specs.Walks.{standing_place}

-- ---- one more in front

module _ (walk : List Standing) (i : ℕ) (d : Standing) (within : i < length walk) where
  abbrev here : Standing
  here = slice_index_or walk i d

  more : take (i + 1) walk ≡ take i walk ++ here ∷ []
  more = take_more walk i d within

  next : drop i walk ≡ here ∷ drop (i + 1) walk
  next = drop_more walk i d within

  -- an id that stands in front
  pub repeated-here : is_some (standing_place (take i walk) here.id) ≡ true → repeated_behind (take i walk) (drop i walk) ≡ Some here
  repeated-here some = ap (repeated_behind (take i walk)) next ∙ ap (λ (t : Bool). if t then Some here else repeated_behind (take i walk ++ here ∷ []) (drop (i + 1) walk)) some

  pub repeated-more : is_some (standing_place (take i walk) here.id) ≡ false → repeated_behind (take (i + 1) walk) (drop (i + 1) walk) ≡ repeated_behind (take i walk) (drop i walk)
  repeated-more none = ap (λ (front : List Standing). repeated_behind front (drop (i + 1) walk)) more
      ∙ sym (ap (repeated_behind (take i walk)) next ∙ ap (λ (t : Bool). if t then Some here else repeated_behind (take i walk ++ here ∷ []) (drop (i + 1) walk)) none)

  pub find-none : (p : Standing → Bool) → p here ≡ false → find p (take i walk) ≡ None → find p (take (i + 1) walk) ≡ None
  find-none p fails none = ap (find p) more ∙ find-append p (take i walk) (here ∷ []) ∙ ap (λ (o : Option Standing). option_or o (find p (here ∷ []))) none ∙ ap (λ (t : Bool). if t then Some here else None) fails

  pub find-here : (p : Standing → Bool) → p here ≡ true → find p (take i walk) ≡ None → find p walk ≡ Some here
  find-here p holds none =
      ap (find p) (sym (take-append-drop i walk)) ∙ find-append p (take i walk) (drop i walk) ∙ ap (λ (o : Option Standing). option_or o (find p (drop i walk))) none
      ∙ ap (find p) next ∙ ap (λ (t : Bool). if t then Some here else find p (drop (i + 1) walk)) holds

pub repeated-end : (walk : List Standing) (i : ℕ) → length walk ≤ i → repeated_behind (take i walk) (drop i walk) ≡ None
repeated-end walk i whole = ap (repeated_behind (take i walk)) (drop_of_length-le walk whole)

pub find-end : (p : Standing → Bool) (walk : List Standing) (i : ℕ) → length walk ≤ i → find p (take i walk) ≡ None → find p walk ≡ None
find-end p walk i whole none = sym (ap (find p) (take_all i walk whole)) ∙ none

-- ---- the map

eq-then : (o p : Ordering) → is_eq (ordering_then o p) ≡ (is_eq o && is_eq p)
eq-then Less p = refl
eq-then Equal p = refl
eq-then Greater p = refl

eq-nat : (x y : ℕ) → is_eq (nat_cmp x y) ≡ (x == y)
eq-nat x y = grind (arith, nat_tests)

eq-bool : (x y : Bool) → is_eq (bool_cmp x y) ≡ bool_eq x y
eq-bool true true = refl
eq-bool true false = refl
eq-bool false true = refl
eq-bool false false = refl

and_three : (p q r : Bool) → (p && (q && r)) ≡ ((p && q) && r)
and_three true q r = refl
and_three false q r = refl

pub eq-id : (a b : Id) → is_eq (id_cmp a b) ≡ id_eq a b
eq-id a b =
    eq-then (nat_cmp a.generation b.generation) (ordering_then (nat_cmp a.serial b.serial) (bool_cmp a.bounce b.bounce))
    ∙ ap (λ (t : Bool). is_eq (nat_cmp a.generation b.generation) && t) (eq-then (nat_cmp a.serial b.serial) (bool_cmp a.bounce b.bounce))
    ∙ ap (λ (t : Bool). t && (is_eq (nat_cmp a.serial b.serial) && is_eq (bool_cmp a.bounce b.bounce))) (eq-nat a.generation b.generation)
    ∙ ap (λ (t : Bool). (a.generation == b.generation) && (t && is_eq (bool_cmp a.bounce b.bounce))) (eq-nat a.serial b.serial)
    ∙ ap (λ (t : Bool). (a.generation == b.generation) && ((a.serial == b.serial) && t)) (eq-bool a.bounce b.bounce)
    ∙ and_three (a.generation == b.generation) (a.serial == b.serial) (bool_eq a.bounce b.bounce)

placed-by : (o : Option Place) (s : Standing) (id : Id) (t : Bool) → id_eq s.id id ≡ t → (id_eq s.id id ≡ true → o ≡ None) → (if t then Some s.place else o) ≡ option_or o (option_map (λ (x : Standing). x.place) (if t then Some s else None))
placed-by None s id true e none = refl
placed-by (Some p) s id true e none = absurd (no (none e))
  where
    no : Some p ≡ None → ⊥
    no k = cc
placed-by None s id false e none = refl
placed-by (Some p) s id false e none = refl

map-or : (o p : Option Standing) → option_map (λ (x : Standing). x.place) (option_or o p) ≡ option_or (option_map (λ (x : Standing). x.place) o) (option_map (λ (x : Standing). x.place) p)
map-or None p = refl
map-or (Some s) p = refl

pub place-push : (front : List Standing) (s : Standing) (id : Id) → (id_eq s.id id ≡ true → standing_place front id ≡ None) → standing_place (front ++ s ∷ []) id ≡ (if id_eq s.id id then Some s.place else standing_place front id)
place-push front s id none =
    ap (option_map (λ (x : Standing). x.place)) (find-append (λ (x : Standing). id_eq x.id id) front (s ∷ []))
    ∙ map-or (find (λ (x : Standing). id_eq x.id id) front) (if id_eq s.id id then Some s else None)
    ∙ sym (placed-by (standing_place front id) s id (id_eq s.id id) refl none)

none_of : {A : Type 0} (o : Option A) → is_some o ≡ false → o ≡ None
none_of None e = refl
none_of (Some x) e = cc

-- a place more
pub places-push : (walk : List Standing) (i : ℕ) (d : Standing) → i < length walk → (old new : IdMap) → ArePlacesOf (take i walk) old → is_some (place_at old (slice_index_or walk i d).id) ≡ false
    → Updates id_cmp old new (slice_index_or walk i d).id (Some (slice_index_or walk i d).place) → ArePlacesOf (take (i + 1) walk) new
places-push walk i d within old new are absent updates id =
    let s : Standing = slice_index_or walk i d in
    updates.0 id
    ∙ ap (λ (t : Bool). cond t (Some s.place) (place_at old id)) (eq-id s.id id)
    ∙ ap (λ (o : Option Place). cond (id_eq s.id id) (Some s.place) o) (are id)
    ∙ sym (place-push (take i walk) s id (λ same. ap (standing_place (take i walk)) (sym (id_eq-true s.id id same)) ∙ sym (are s.id) ∙ none_of (place_at old s.id) absent))
    ∙ ap (λ (front : List Standing). standing_place front id) (sym (take_more walk i d within))

-- ---- a bounce beside its cause

pub mispaired-is : (walk : List Standing) (places : IdMap) (s : Standing) → ArePlacesOf walk places → mispaired_at places s ≡ is_mispaired walk s
mispaired-is walk places s are = ap (λ (o : Option Place). s.id.bounce && option_map_or (λ cause. not (is_incoming s.place && is_active cause)) o false) (are (cause_of s.id))

-- ---- what is found stands in the walk

contains-by : {A : Type 0} (p : A → Bool) (x : A) (walk : List A) (s : A) (t : Bool) → p x ≡ t → (if t then Some x else find p walk) ≡ Some s → (find p walk ≡ Some s → Contains walk s × (p s ≡ true)) → Contains (x ∷ walk) s × (p s ≡ true)
contains-by p x walk s true e k rest =
    let same : x ≡ s = cc in
    (subst (Contains (x ∷ walk)) same (has_head x walk), ap p (sym same) ∙ e)
contains-by p x walk s false e k rest = let found = rest k in (has_tail x walk s found.0, found.1)

pub find-contains : {A : Type 0} (p : A → Bool) (walk : List A) (s : A) → find p walk ≡ Some s → Contains walk s × (p s ≡ true)
find-contains p [] s h = absurd cc
find-contains p (x ∷ walk) s h = contains-by p x walk s (p x) refl h (find-contains p walk s)

-- a file that repeats an id stands behind one of that id
pub record Repeats (front rest : List Standing) (s : Standing) : Type 0 where
  pub before : List Standing
  pub after : List Standing
  pub first : Standing
  pub split : front ++ rest ≡ before ++ s ∷ after
  pub there : Contains before first
  pub same : first.id ≡ s.id

pub place-contains : (front : List Standing) (id : Id) → is_some (standing_place front id) ≡ true → (t : Standing) × Contains front t × (t.id ≡ id)
place-contains front id some = by (find (λ (x : Standing). id_eq x.id id) front) refl
  where
    no : is_some (option_map (λ (x : Standing). x.place) None) ≡ true → ⊥
    no e = cc

    by : (o : Option Standing) → find (λ (x : Standing). id_eq x.id id) front ≡ o → (t : Standing) × Contains front t × (t.id ≡ id)
    by None e = absurd (no (ap (λ (o : Option Standing). is_some (option_map (λ (x : Standing). x.place) o)) (sym e) ∙ some))
    by (Some t) e = let found = find-contains (λ (x : Standing). id_eq x.id id) front t e in (t, found.0, id_eq-true t.id id found.1)

repeated-by : (front : List Standing) (x : Standing) (rest : List Standing) (s : Standing) (t : Bool) → is_some (standing_place front x.id) ≡ t → (if t then Some x else repeated_behind (front ++ x ∷ []) rest) ≡ Some s
    → (repeated_behind (front ++ x ∷ []) rest ≡ Some s → Repeats (front ++ x ∷ []) rest s) → Repeats front (x ∷ rest) s
repeated-by front x rest s true e k step =
    let same : x ≡ s = cc in
    let found = place-contains front x.id e in
    record { before = front; after = rest; first = found.0; split = ap (λ (y : Standing). front ++ y ∷ rest) same; there = found.1; same = found.2 ∙ ap (λ (y : Standing). y.id) same }
repeated-by front x rest s false e k step =
    let more = step k in
    record { before = more.before; after = more.after; first = more.first; split = sym (append_assoc front (x ∷ []) rest) ∙ more.split; there = more.there; same = more.same }

pub repeated-is : (front rest : List Standing) (s : Standing) → repeated_behind front rest ≡ Some s → Repeats front rest s
repeated-is front [] s h = absurd cc
repeated-is front (x ∷ rest) s h = repeated-by front x rest s (is_some (standing_place front x.id)) refl h (repeated-is (front ++ x ∷ []) rest s)

pub repeated-contains : (walk : List Standing) (s : Standing) → repeated_behind [] walk ≡ Some s → Contains walk s
repeated-contains walk s h =
    let r = repeated-is [] walk s h in
    subst (λ (xs : List Standing). Contains xs s) (sym r.split) (Contains-append_right r.before (s ∷ r.after) s (has_head s r.after))
