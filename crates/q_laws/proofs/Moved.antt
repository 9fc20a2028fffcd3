-- Books in which a message moves, is removed or is added, or a damaged file moves.
use Rattle.std.proofs.Common.{◌≡◌, Bool, true, false, not, List, map, filter, find, is_some, Option, Some, None, option_map, ◌⊎◌, inl, inr, refl, sym, ap, ◌∙◌, subst}
use Rattle.std.proofs.lemmas.Bool.{and_from, and_parts, not-true, not_from_false, or_cases, or_left, or_right}
use Rattle.std.specs.List.{list_all, list_any}
use Rattle.std.specs.Option.{option_map_or}
use Rattle.std.specs.Prelude.{◌&&◌, ◌||◌, nat_le}
use Rattle.q_laws.proofs.Books.{at_place, damaged_at, damaged_names, in_ids_at, message_in, message_names, not_damaged, only_message, placed_listed}
use Rattle.q_laws.proofs.Distinct.{distinct_join, distinct_named, distinct_parts, id_cases, id_other, id_same, names_filtered}
use Rattle.q_laws.proofs.InPlace.{changed, changed_name, changed_other, changed_same, keeps_one}
use Rattle.q_laws.proofs.Mapped.{KeepsOrder, find_mapped, paired_from}
use Rattle.q_laws.proofs.Members.{IsIn, all_at, all_filtered, all_from, any_from, any_in, find_none, find_none_from, find_one, in_either, in_filter, in_filtered, in_left, in_right, in_unmap}
use Rattle.q_model.proofs.IdLaws.{id_eq-true}
use Rattle.q_model.specs.Book.{Book, Damaged, all_ids, damaged_of, ids_at, message_of, stands, stands_in}
use Rattle.q_model.specs.BookChanges.{change_message, move_message, remove_message}
use Rattle.q_model.specs.Ids.{are_distinct, cause_of, id_eq}
use Rattle.q_model.specs.Message.{Message}
use Rattle.q_model.specs.Orderly.{is_orderly, is_paired, is_sealed, is_sound}
use Rattle.q_model.specs.Places.{is_active, is_incoming}
use Rattle.q_model.specs.declared.id.Id.{Id}
use Rattle.q_model.specs.declared.rows.Place.{Place}

-- ---- a message moves

abbrev pub move_to : Place → Message → Message
move_to place m = record m { place = place }

-- the move keeps the order of the book
pub keeps_move : (b : Book) (id : Id) (place : Place) (m : Message) → are_distinct (all_ids b) ≡ true → message_of b id ≡ Some m →
    ((is_active m.place && is_sealed m) ≡ true → (is_active place && is_sealed m) ≡ true) →
    (is_incoming m.place ≡ true → id.bounce ≡ true → stands b (cause_of id) ≡ true → is_incoming place ≡ true) →
    (is_active place || is_sound m) ≡ true → KeepsOrder b (changed id (move_to place))
keeps_move b id place m distinct there cause incoming sound =
    let name = (message_in b id m there).1 in
    record {
      name = changed_name id (move_to place) (λ x. refl);
      cause = keeps_one b id (move_to place) (λ x y. (is_active x.place && is_sealed x) ≡ true → (is_active y.place && is_sealed y) ≡ true) m distinct there cause (λ x h. h);
      incoming = keeps_one b id (move_to place) (λ x y. is_incoming x.place ≡ true → x.id.bounce ≡ true → stands b (cause_of x.id) ≡ true → is_incoming y.place ≡ true) m distinct there
          (λ h bounce standing. incoming h (ap (λ (i : Id). i.bounce) (sym name) ∙ bounce) (ap (λ (i : Id). stands b (cause_of i)) (sym name) ∙ standing)) (λ x h bounce standing. h);
      sound = keeps_one b id (move_to place) (λ x y. (is_active x.place || is_sound x) ≡ true → (is_active y.place || is_sound y) ≡ true) m distinct there (λ h. sound) (λ x h. h);
    }

-- another message stays as it is
pub other_moved : (b : Book) (id i : Id) (f : Message → Message) → ((m : Message) → (f m).id ≡ m.id) → id_eq i id ≡ false → message_of (change_message b id f) i ≡ message_of b i
other_moved b id i f h other = find_mapped (changed id f) (changed_name id f h) i b.messages ∙ same (message_of b i) refl
  where
    same : (o : Option Message) → message_of b i ≡ o → option_map (changed id f) o ≡ o
    same None e = refl
    same (Some m) e = ap Some (changed_other id f m (ap (λ (j : Id). id_eq j id) (message_in b i m e).1 ∙ other))

-- who stands at a place after the move stood there before and is another, or is the one that moved
pub moved_at : (test : Place → Bool) (b : Book) (id i : Id) (place : Place) (m : Message) → are_distinct (all_ids b) ≡ true → message_of b id ≡ Some m → IsIn i (ids_at test (move_message b id place)) →
    (IsIn i (ids_at test b) × (id_eq i id ≡ false)) ⊎ ((i ≡ id) × (test place ≡ true))
moved_at test b id i place m distinct there h = elim (in_ids_at test (move_message b id place) i h) [
  | inl whole ↦ let one = in_unmap (changed id (move_to place)) whole.0 b.messages whole.1 in which one.0 one.1 whole.0 one.2 whole.2 whole.3
  | inr broken ↦
      let mine = message_in b id m there in
      elim (id_cases i id) [
        | inl same ↦ absurd (not_damaged b distinct m broken.0 mine.0 broken.1 (mine.1 ∙ sym same.0 ∙ sym broken.2))
        | inr other ↦ inl (subst (λ j. IsIn j (ids_at test b)) broken.2 (damaged_at test b broken.0 broken.1 broken.3), other)
      ]
]
  where
    which : (x : Message) → IsIn x b.messages → (y : Message) → changed id (move_to place) x ≡ y → y.id ≡ i → test y.place ≡ true → (IsIn i (ids_at test b) × (id_eq i id ≡ false)) ⊎ ((i ≡ id) × (test place ≡ true))
    which x inside y e name at = elim (id_cases x.id id) [
      | inl same ↦
          let is : move_to place x ≡ y = sym (changed_same id (move_to place) x same.1) ∙ e in
          inr (sym name ∙ ap (λ (z : Message). z.id) (sym is) ∙ same.0, ap (λ (z : Message). test z.place) is ∙ at)
      | inr other ↦
          let is : x ≡ y = sym (changed_other id (move_to place) x other) ∙ e in
          let mine : x.id ≡ i = ap (λ (z : Message). z.id) is ∙ name in
          inl (subst (λ j. IsIn j (ids_at test b)) mine (at_place test b x inside (ap (λ (z : Message). test z.place) is ∙ at)), ap (λ (j : Id). id_eq j id) (sym mine) ∙ other)
    ]

-- ---- a message is removed

abbrev others : Id → List Message → List Message
others id ms = filter (λ (m : Message). not (id_eq m.id id)) ms

pub other_left : (b : Book) (id i : Id) → are_distinct (all_ids b) ≡ true → id_eq i id ≡ false → message_of (remove_message b id) i ≡ message_of b i
other_left b id i distinct other = same (message_of b i) refl
  where
    same : (o : Option Message) → message_of b i ≡ o → find (λ (m : Message). id_eq m.id i) (others id b.messages) ≡ o
    same None e = find_none_from (λ (m : Message). id_eq m.id i) (others id b.messages) (λ m inside. find_none (λ (x : Message). id_eq x.id i) m b.messages e (in_filtered (λ (x : Message). not (id_eq x.id id)) m b.messages inside).0)
    same (Some m) e =
        let mine = message_in b i m e in
        find_one (λ (x : Message). id_eq x.id i) m (others id b.messages)
        (in_filter (λ (x : Message). not (id_eq x.id id)) m b.messages mine.0 (not_from_false (id_eq m.id id) (ap (λ (j : Id). id_eq j id) mine.1 ∙ other))) (id_same m.id i mine.1)
        (λ y inside h. only_message b distinct y m (in_filtered (λ (x : Message). not (id_eq x.id id)) y b.messages inside).0 mine.0 (id_eq-true y.id i h ∙ sym mine.1))

pub removed_none : (b : Book) (id : Id) → message_of (remove_message b id) id ≡ None
removed_none b id = find_none_from (λ (m : Message). id_eq m.id id) (others id b.messages) (λ m inside. not-true (id_eq m.id id) (in_filtered (λ (x : Message). not (id_eq x.id id)) m b.messages inside).1)

pub removed_ids : (b : Book) (id i : Id) → IsIn i (all_ids (remove_message b id)) → IsIn i (all_ids b)
removed_ids b id i h = elim (in_either i (map (λ (m : Message). m.id) (others id b.messages)) (damaged_names b) h) [
  | inl whole ↦ in_left i (message_names b) (damaged_names b) (names_filtered (λ (m : Message). m.id) (λ (m : Message). not (id_eq m.id id)) i b.messages whole)
  | inr broken ↦ in_right i (message_names b) (damaged_names b) broken
]

-- the one that is removed stands nowhere any more
pub removed_gone : (b : Book) (id : Id) (m : Message) → are_distinct (all_ids b) ≡ true → message_of b id ≡ Some m → IsIn id (all_ids (remove_message b id)) → ⊥
removed_gone b id m distinct there h = elim (in_either id (map (λ (x : Message). x.id) (others id b.messages)) (damaged_names b) h) [
  | inl whole ↦
      let one = in_unmap (λ (x : Message). x.id) id (others id b.messages) whole in
      id_other (one.0).id id (not-true (id_eq (one.0).id id) (in_filtered (λ (x : Message). not (id_eq x.id id)) one.0 b.messages one.1).1) one.2
  | inr broken ↦
      let one = in_unmap (λ (d : Damaged). d.id) id b.damaged broken in
      let mine = message_in b id m there in
      not_damaged b distinct m one.0 mine.0 one.1 (mine.1 ∙ sym one.2)
]

pub removed_distinct : (b : Book) (id : Id) → are_distinct (all_ids b) ≡ true → are_distinct (all_ids (remove_message b id)) ≡ true
removed_distinct b id h =
    let parts = distinct_parts (message_names b) (damaged_names b) h in
    distinct_join (map (λ (m : Message). m.id) (others id b.messages)) (damaged_names b)
    (distinct_named (λ (m : Message). m.id) (λ (m : Message). not (id_eq m.id id)) b.messages parts.0) parts.1
    (λ i k g. parts.2 i (names_filtered (λ (m : Message). m.id) (λ (m : Message). not (id_eq m.id id)) i b.messages k) g)

not_some : {A : Type 0} (o : Option A) → o ≡ None → is_some o ≡ false
not_some None e = refl
not_some (Some x) e = absurd cc

removed_stands : (b : Book) (id : Id) (m : Message) → are_distinct (all_ids b) ≡ true → message_of b id ≡ Some m → stands (remove_message b id) id ≡ false
removed_stands b id m distinct there =
    let mine = message_in b id m there in
    ap (λ o. is_some o || is_some (damaged_of b id)) (removed_none b id)
    ∙ not_some (damaged_of b id) (find_none_from (λ (d : Damaged). id_eq d.id id) b.damaged (λ d inside. other d inside (id_eq d.id id) refl))
  where
    other : (d : Damaged) → IsIn d b.damaged → (t : Bool) → id_eq d.id id ≡ t → t ≡ false
    other d inside false e = refl
    other d inside true e = let mine = message_in b id m there in absurd (not_damaged b distinct m d mine.0 inside (mine.1 ∙ sym (id_eq-true d.id id e)))

removed_incoming : (b : Book) (id i : Id) → id_eq i id ≡ false → stands_in is_incoming b i ≡ true → stands_in is_incoming (remove_message b id) i ≡ true
removed_incoming b id i other h =
    let test : Message → Bool = λ m. id_eq m.id i && is_incoming m.place in
    let broken : Bool = list_any (λ (d : Damaged). id_eq d.id i && is_incoming d.place) b.damaged in
    elim (or_cases (list_any test b.messages) broken h) [
      | inl whole ↦
          let one = any_in test b.messages whole in
          let name : (one.0).id ≡ i = id_eq-true (one.0).id i (and_parts (id_eq (one.0).id i) (is_incoming (one.0).place) one.2).0 in
          or_left (list_any test (others id b.messages)) broken (any_from test one.0 (others id b.messages) (in_filter (λ (m : Message). not (id_eq m.id id)) one.0 b.messages one.1 (not_from_false (id_eq (one.0).id id) (ap (λ (j : Id). id_eq j id) name ∙ other))) one.2)
      | inr d ↦ or_right (list_any test (others id b.messages)) broken d
    ]

removed_paired : (b : Book) (id : Id) (m : Message) → are_distinct (all_ids b) ≡ true → message_of b id ≡ Some m → (i : Id) → IsIn i (all_ids (remove_message b id)) → is_paired b i ≡ true → is_paired (remove_message b id) i ≡ true
removed_paired b id m distinct there i inside h = elim (id_cases (cause_of i) id) [
  | inl same ↦
      let c = remove_message b id in
      let gone : stands c (cause_of i) ≡ false = ap (stands c) same.0 ∙ removed_stands b id m distinct there in
      or_left (not i.bounce || not (stands c (cause_of i))) (stands_in is_incoming c i && option_map_or (λ x. is_active x.place && is_sealed x) (message_of c (cause_of i)) false)
      (or_right (not i.bounce) (not (stands c (cause_of i))) (ap not gone))
  | inr other ↦
      let c = remove_message b id in
      let kept : message_of c (cause_of i) ≡ message_of b (cause_of i) = other_left b id (cause_of i) distinct other in
      paired_from (not i.bounce) (not (stands b (cause_of i))) (not (stands c (cause_of i))) (stands_in is_incoming b i) (stands_in is_incoming c i)
      (option_map_or (λ x. is_active x.place && is_sealed x) (message_of b (cause_of i)) false) (option_map_or (λ x. is_active x.place && is_sealed x) (message_of c (cause_of i)) false)
      (ap (λ (o : Option Message). not (is_some o || is_some (damaged_of b (cause_of i)))) kept)
      (λ x y. removed_incoming b id i (apart (id_eq i id) refl))
      (λ k. ap (λ (o : Option Message). option_map_or (λ x. is_active x.place && is_sealed x) o false) kept ∙ k) h
]
  where
    apart : (t : Bool) → id_eq i id ≡ t → t ≡ false
    apart false e = refl
    apart true e = absurd (removed_gone b id m distinct there (subst (λ j. IsIn j (all_ids (remove_message b id))) (id_eq-true i id e) inside))

pub removed_orderly : (b : Book) (id : Id) (m : Message) → are_distinct (all_ids b) ≡ true → message_of b id ≡ Some m → is_orderly b ≡ true → is_orderly (remove_message b id) ≡ true
removed_orderly b id m distinct there h =
    let c = remove_message b id in
    let test : Book → Id → Bool = λ x i. nat_le i.generation x.generation && is_paired x i in
    let rest : Message → Bool = λ x. is_active x.place || is_sound x in
    let two = and_parts (list_all (test b) (all_ids b)) (list_all rest b.messages) h in
    and_from (list_all (test c) (all_ids c)) (list_all rest (others id b.messages))
    (all_from (test c) (all_ids c) (λ i inside.
    let parts = and_parts (nat_le i.generation b.generation) (is_paired b i) (all_at (test b) i (all_ids b) two.0 (removed_ids b id i inside)) in
    and_from (nat_le i.generation c.generation) (is_paired c i) parts.0 (removed_paired b id m distinct there i inside parts.1)))
    (all_filtered rest (λ (x : Message). not (id_eq x.id id)) b.messages two.1)

-- who still stands at a place stood there before, and is another
pub removed_at : (test : Place → Bool) (b : Book) (id i : Id) (m : Message) → are_distinct (all_ids b) ≡ true → message_of b id ≡ Some m → IsIn i (ids_at test (remove_message b id)) → IsIn i (ids_at test b) × (id_eq i id ≡ false)
removed_at test b id i m distinct there h = (before (in_ids_at test (remove_message b id) i h), apart (id_eq i id) refl)
  where
    before : ((x : Message) × IsIn x (others id b.messages) × (x.id ≡ i) × (test x.place ≡ true)) ⊎ ((d : Damaged) × IsIn d b.damaged × (d.id ≡ i) × (test d.place ≡ true)) → IsIn i (ids_at test b)
    before (inl whole) = subst (λ j. IsIn j (ids_at test b)) whole.2 (at_place test b whole.0 (in_filtered (λ (x : Message). not (id_eq x.id id)) whole.0 b.messages whole.1).0 whole.3)
    before (inr broken) = subst (λ j. IsIn j (ids_at test b)) broken.2 (damaged_at test b broken.0 broken.1 broken.3)

    apart : (t : Bool) → id_eq i id ≡ t → t ≡ false
    apart false e = refl
    apart true e = absurd (removed_gone b id m distinct there (subst (λ j. IsIn j (all_ids (remove_message b id))) (id_eq-true i id e) (placed_listed test (remove_message b id) i h)))
