-- A map of the places of ids, and what an act finds by it.
use Rattle.std.proofs.Common.{◌≡◌, ◌∙◌, ◌<◌, ◌+◌, ◌&&◌, ◌∷◌, ◌++◌, [], ℕ, Bool, true, false, List, length, take, map, None, Option, Some, cond, ⊎_elim, inl, inr, sym, ap, subst, true≢false}
use Rattle.std.specs.BTreeMap.{is_at, IsEmpty, Updates}
use Rattle.std.specs.List.{Contains, list_any}
use Rattle.std.specs.Map.{lookup}
use Rattle.std.specs.Prelude.{filter, slice_index_or}
use Rattle.std.proofs.lemmas.Bool.{and_parts, false_from_ne_true, or_cases}
use Rattle.std.proofs.lemmas.List.{take_more}
use Rattle.q_model.specs.declared.id.Id.{Id}
use Rattle.q_model.specs.declared.rows.Place.{Place}
use Rattle.q_model.specs.Book.{Book, Damaged, stands_in}
use Rattle.q_model.specs.FilesStand.{Stands}
use Rattle.q_model.specs.Ids.{id_eq}
use Rattle.q_model.specs.Message.{Message}
use Rattle.q_model.specs.Places.{place_eq}
use Rattle.q_model.specs.SpoolFiles.{Files}
use Rattle.q_model.proofs.IdLaws.{id_eq-refl, id_eq-true}
use Rattle.q_laws.proofs.Distinct.{id_cases, id_eq-sym}
use Rattle.q_laws.proofs.Members.{any_in, in_either, in_filter, in_left, in_map, in_right, IsIn}
use Rattle.q_restart.specs.Places.{id_cmp, IdMap, place_at}
use Rattle.q_restart.proofs.Lists.{has_each, has_none}
use Rattle.q_restart.proofs.Placing.{eq-id}
use Rattle.q_super.specs.declared.acts.Act.{Act}
use Rattle.q_super.specs.declared.standing.Standing.{Standing}
use Rattle.q_super.specs.Acts.{takes}
use Rattle.q_super.specs.Deeds.{deeds_of}
use Rattle.q_super.specs.Finding.{IsSource, standing}
use Rattle.q_super.specs.FoundPlaces.{ArePlacesOf, AreSourcePlaces, Finds, IsIdle, IsPlaceAmong}
use Rattle.q_super.specs.Moves.{stands_there}
use Rattle.q_super.specs.Names.{AreSources}
use Rattle.q_super.specs.Plays.{after_deeds}
use Rattle.q_super.specs.Standings.{of_damaged, of_message, standings, taken}
use Rattle.q_super.proofs.EachFound.{idle_behind, idle_still, still_stands}
use Rattle.q_super.proofs.Ordering.{has_in, in_has, one_in_order}
use Rattle.q_super.proofs.Taken.{taken_there}

none_some : {A : Type 0} (x : A) → ◌≡◌ {A = Option A} None (Some x) → ⊥
none_some x e = cc

-- ---- the map is made

-- of no file
pub placed_none : (places : IdMap) → IsEmpty places → ArePlacesOf [] places
placed_none places empty id = subst (IsPlaceAmong [] id) (sym (ap (λ (es : List (Id × Place)). lookup (is_at (id_cmp id)) es) empty)) (λ place k. absurd (has_none (standing id place) k))

-- of a file more
among_more : (front : List Standing) (s : Standing) (o : Option Place) (id : Id) → IsPlaceAmong front id o → IsPlaceAmong (front ++ s ∷ []) id (cond (id_eq s.id id) (Some s.place) o)
among_more front s o id h = elim (id_cases s.id id) [
  | inl same ↦ subst (λ (t : Bool). IsPlaceAmong (front ++ s ∷ []) id (cond t (Some s.place) o)) (sym same.1)
      (has_in (standing id s.place) (front ++ s ∷ []) (in_right (standing id s.place) front (s ∷ []) (inl (ap (λ (i : Id). standing i s.place) same.0))))
  | inr apart ↦ subst (λ (t : Bool). IsPlaceAmong (front ++ s ∷ []) id (cond t (Some s.place) o)) (sym apart) (by o h apart)
]
  where
    by : (o : Option Place) → IsPlaceAmong front id o → id_eq s.id id ≡ false → IsPlaceAmong (front ++ s ∷ []) id o
    by (Some place) h apart = has_in (standing id place) (front ++ s ∷ []) (in_left (standing id place) front (s ∷ []) (in_has (standing id place) front h))
    by None h apart = λ place k. ⊎_elim (λ before. h place (has_in (standing id place) front before))
        (λ last. ⊎_elim (λ (e : s ≡ standing id place). true≢false (sym (ap (λ (i : Id). id_eq i id) (ap (λ (x : Standing). x.id) e) ∙ id_eq-refl id) ∙ apart)) (λ none. none) last)
        (in_either (standing id place) front (s ∷ []) (in_has (standing id place) (front ++ s ∷ []) k))

pub placed_more : (files : List Standing) (i : ℕ) (s : Standing) → i < length files → s ≡ slice_index_or files i s → (old new : IdMap) → Updates id_cmp old new s.id (Some s.place) → ArePlacesOf (take i files) old → ArePlacesOf (take (i + 1) files) new
placed_more files i s within is old new updates are id =
    subst (λ (o : Option Place). IsPlaceAmong (take (i + 1) files) id o) (sym (updates.0 id ∙ ap (λ (t : Bool). cond t (Some s.place) (place_at old id)) (eq-id s.id id)))
    (subst (λ (front : List Standing). IsPlaceAmong front id (cond (id_eq s.id id) (Some s.place) (place_at old id)))
    (sym (take_more files i s within ∙ ap (λ (x : Standing). take i files ++ x ∷ []) (sym is)))
    (among_more (take i files) s (place_at old id) id (are id)))

-- ---- of all files that the act takes

pub placed_sources : (act : Act) (files : List Standing) (places : IdMap) → AreSources act files → ArePlacesOf files places → AreSourcePlaces act places
placed_sources act files places sources are id place found =
    has_each (λ (s : Standing). IsSource act s.id s.place) files (standing id place) sources (subst (IsPlaceAmong files id) found (are id))

module _ (f : Files) (b : Book) (h : Stands f b) (act : Act) where
  taken_one : (s : Standing) → IsIn s (standings b) → takes act s.place ≡ true → Contains (taken act b) s
  taken_one s inside from = has_in s (taken act b) (one_in_order s (filter (λ (x : Standing). takes act x.place) (standings b)) (in_filter (λ (x : Standing). takes act x.place) s (standings b) inside from))

  not_taken : (id : Id) → ((place : Place) → Contains (taken act b) (standing id place) → ⊥) → stands_in (takes act) b id ≡ false
  not_taken id none = false_from_ne_true (stands_in (takes act) b id) (λ there. ⊎_elim
      (λ whole. let one = any_in (λ (m : Message). id_eq m.id id && takes act m.place) b.messages whole in
      let two = and_parts (id_eq one.0.id id) (takes act one.0.place) one.2 in
      let here = taken_one (of_message one.0) (in_left (of_message one.0) (map of_message b.messages) (map of_damaged b.damaged) (in_map of_message one.0 b.messages one.1)) two.1 in
      none one.0.place (subst (λ (i : Id). Contains (taken act b) (standing i one.0.place)) (id_eq-true one.0.id id two.0) here))
      (λ broken. let one = any_in (λ (d : Damaged). id_eq d.id id && takes act d.place) b.damaged broken in
      let two = and_parts (id_eq one.0.id id) (takes act one.0.place) one.2 in
      let here = taken_one (of_damaged one.0) (in_right (of_damaged one.0) (map of_message b.messages) (map of_damaged b.damaged) (in_map of_damaged one.0 b.damaged one.1)) two.1 in
      none one.0.place (subst (λ (i : Id). Contains (taken act b) (standing i one.0.place)) (id_eq-true one.0.id id two.0) here))
      (or_cases (list_any (λ (m : Message). id_eq m.id id && takes act m.place) b.messages) (list_any (λ (d : Damaged). id_eq d.id id && takes act d.place) b.damaged) there))

  pub placed_finds : (files : List Standing) (places : IdMap) → files ≡ taken act b → ArePlacesOf files places → Finds act b places
  placed_finds files places all are =
      let among : (id : Id) → IsPlaceAmong (taken act b) id (place_at places id) = λ id. subst (λ (ss : List Standing). IsPlaceAmong ss id (place_at places id)) all (are id) in
      record {
        there = λ id place found. has_each (λ (s : Standing). stands_there b s ≡ true) (taken act b) (standing id place) (taken_there f b h act).there (subst (IsPlaceAmong (taken act b) id) found (among id));
        idle = λ id none. inl (not_taken id (subst (IsPlaceAmong (taken act b) id) none (among id)));
      }

-- ---- an id had its turn

module _ (act : Act) (id : Id) (old new : IdMap) (updates : Updates id_cmp old new id None) where
  left : (x : Id) → place_at new x ≡ cond (id_eq id x) None (place_at old x)
  left x = updates.0 x ∙ ap (λ (t : Bool). cond t None (place_at old x)) (eq-id id x)

  left_none : (x : Id) → id_eq id x ≡ true → place_at new x ≡ None
  left_none x e = left x ∙ ap (λ (t : Bool). cond t None (place_at old x)) e

  left_other : (x : Id) → id_eq id x ≡ false → place_at new x ≡ place_at old x
  left_other x e = left x ∙ ap (λ (t : Bool). cond t None (place_at old x)) e

  pub sources_left : AreSourcePlaces act old → AreSourcePlaces act new
  sources_left sources x place found = elim (id_cases id x) [
    | inl same ↦ absurd (none_some place (sym (left_none x same.1) ∙ found))
    | inr apart ↦ sources x place (sym (left_other x apart) ∙ found)
  ]

  pub finds_next : (b : Book) → Finds act b old → Finds act (after_deeds b (deeds_of act id b)) new
  finds_next b finds = record {
    there = λ x place found. elim (id_cases id x) [
      | inl same ↦ absurd (none_some place (sym (left_none x same.1) ∙ found))
      | inr apart ↦ still_stands (place_eq place) act b id x (id_eq-sym id x apart) (finds.there x place (sym (left_other x apart) ∙ found))
    ];
    idle = λ x none. elim (id_cases id x) [
      | inl same ↦ subst (IsIdle act (after_deeds b (deeds_of act id b))) same.0 (idle_behind act b id)
      | inr apart ↦ idle_still act b id x (finds.idle x (sym (left_other x apart) ∙ none))
    ];
  }
