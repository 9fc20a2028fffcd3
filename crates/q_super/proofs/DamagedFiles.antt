-- A damaged file that moves from one queue to another stays what it is.
use Rattle.std.proofs.Common.{◌≡◌, ◌∙◌, ◌||◌, ◌&&◌, ◌++◌, ◌∷◌, [], ℕ, Bool, true, false, not, List, map, is_some, Some, None, if◌then◌else◌, refl, sym, ap, subst}
use Rattle.std.specs.List.{AllByRecursion, list_any}
use Rattle.std.proofs.lemmas.Bool.{and_from, and_left, and_parts, false_from_ne_true, or_right}
use Rattle.q_model.specs.declared.id.Id.{Id}
use Rattle.q_model.specs.declared.rows.Place.{Place}
use Rattle.q_model.specs.Book.{Book, Damaged, damaged_of, stands_in}
use Rattle.q_model.specs.BookChanges.{move_damaged}
use Rattle.q_model.specs.FilesStand.{DamagedStands, MessageStands, Stands}
use Rattle.q_model.specs.Ids.{are_distinct, id_eq}
use Rattle.q_model.specs.IdTexts.{IsId}
use Rattle.q_model.specs.Message.{Message}
use Rattle.q_model.specs.Places.{is_corrupt, place_eq}
use Rattle.q_model.specs.SpoolFiles.{area_of, file_at, Files, IsPlace, name_at}
use Rattle.q_model.proofs.EachLaws.{any-map, each-both, each-map, each-same, each-unmap, find-any, none-each}
use Rattle.q_model.proofs.IdLaws.{id_eq-true}
use Rattle.q_model.proofs.SpotLaws.{place_eq-refl, place_eq-true}
use Rattle.q_model.proofs.StandChanges.{any-same, distinct-behind, only_of}
use Rattle.q_model.proofs.StandDamaged.{only_place_damaged, Stands-damaged}
use Rattle.q_model.proofs.StandLaws.{BootStands-kept, not_same, true_false}
use Rattle.q_model.proofs.StandMoves.{ChangesOnly, found-any, other_damaged, other_message}
use Rattle.q_model.proofs.StandRenames.{IsRenamed, renamed-gone, renamed-only}

distinct-rest : (xs ys : List Id) → are_distinct (xs ++ ys) ≡ true → are_distinct ys ≡ true
distinct-rest [] ys h = h
distinct-rest (x ∷ xs) ys h = distinct-rest xs ys (and_parts (not (list_any (λ i. id_eq i x) (xs ++ ys))) (are_distinct (xs ++ ys)) h).1

abbrev put_at : Place → Damaged → Damaged
put_at q d = record d { place = q }

abbrev changed : Id → Place → Damaged → Damaged
changed id q d = if id_eq d.id id then put_at q d else d

changed_id : (q : Place) (d : Damaged) (t : Bool) → (if t then put_at q d else d).id ≡ d.id
changed_id q d true = refl
changed_id q d false = refl

changed_ids : (id : Id) (q : Place) (ds : List Damaged) → map (λ x. x.id) (map (changed id q) ds) ≡ map (λ x. x.id) ds
changed_ids id q [] = refl
changed_ids id q (d ∷ ds) = ap (λ (i : Id). i ∷ map (λ x. x.id) (map (changed id q) ds)) (changed_id q d (id_eq d.id id)) ∙ ap (λ (is : List Id). d.id ∷ is) (changed_ids id q ds)

-- who has this id and place: for other ids as before
same_elsewhere : (id i : Id) (q place : Place) (x : Damaged) (t : Bool) → id_eq i id ≡ false → id_eq x.id id ≡ t → (id_eq (if t then put_at q x else x).id i && place_eq place (if t then put_at q x else x).place) ≡ (id_eq x.id i && place_eq place x.place)
same_elsewhere id i q place x true apart e =
    let no : id_eq x.id i ≡ false = false_from_ne_true (id_eq x.id i) (λ k. true_false (id_eq i id) (ap (λ (j : Id). id_eq j id) (sym (id_eq-true x.id i k)) ∙ e) apart) in
    and_left (id_eq x.id i) (place_eq place q) no ∙ sym (and_left (id_eq x.id i) (place_eq place x.place) no)
same_elsewhere id i q place x false apart e = refl

arrived : (id : Id) (q : Place) (x : Damaged) (t : Bool) → id_eq x.id id ≡ t → t ≡ true → (id_eq (if t then put_at q x else x).id id && place_eq q (if t then put_at q x else x).place) ≡ true
arrived id q x true e k = and_from (id_eq x.id id) (place_eq q q) e (place_eq-refl q)
arrived id q x false e k = absurd (true_false false k refl)

one_moved : (f g : Files) (id : Id) (q : Place) (d x : Damaged) → ChangesOnly id f g → DamagedStands g (put_at q d) → (t : Bool) → id_eq x.id id ≡ t → DamagedStands f x → (id_eq x.id id ≡ true → x ≡ d) → DamagedStands g (if t then put_at q x else x)
one_moved f g id q d x only new true e h is = subst (λ (y : Damaged). DamagedStands g (put_at q y)) (sym (is e)) new
one_moved f g id q d x only new false e h is = other_damaged f g id only x e h

module _ (f : Files) (b : Book) (id : Id) (d : Damaged) (h : Stands f b) (found : damaged_of b id ≡ Some d) where
  abbrev ms : List Id
  ms = map (λ (x : Message). x.id) b.messages

  abbrev ds : List Id
  ds = map (λ (x : Damaged). x.id) b.damaged

  abbrev IsThis : Damaged → Type 0
  IsThis x = id_eq x.id id ≡ true → x ≡ d

  only : AllByRecursion IsThis b.damaged
  only = only_of (λ (x : Damaged). x.id) b.damaged id d (distinct-rest ms ds h.distinct) found

  has : list_any (λ (x : Damaged). id_eq x.id id) b.damaged ≡ true
  has = sym (find-any (λ (x : Damaged). id_eq x.id id) b.damaged) ∙ ap is_some found

  no_message : AllByRecursion (λ (x : Message). id_eq x.id id ≡ false) b.messages
  no_message = each-unmap (λ i. id_eq i id ≡ false) (λ (x : Message). x.id) b.messages (none-each (λ i. id_eq i id) ms (false_from_ne_true (list_any (λ i. id_eq i id) ms) (λ there.
      true_false (list_any (λ i. id_eq i id) ds) (any-map (λ i. id_eq i id) (λ (x : Damaged). x.id) b.damaged ∙ has) (distinct-behind ms ds id h.distinct there))))

-- The damaged file of an id was renamed to another queue: the files stand for the book in which it moved.
pub Stands-moved : (f g : Files) (b : Book) (id : Id) (d : Damaged) (q : Place) → damaged_of b id ≡ Some d → IsPlace q → is_corrupt d.place ≡ false → IsRenamed (area_of d.place) (name_at d.place id) (area_of q) (name_at q id) f g → Stands f b → Stands g (move_damaged b id q)
Stands-moved f g b id d q found hq sound r h = record {
  boot = BootStands-kept f g b.generation changes.boot h.boot;
  distinct = ap (λ (js : List Id). are_distinct (map (λ (x : Message). x.id) b.messages ++ js)) (changed_ids id q b.damaged) ∙ h.distinct;
  messages = each-same (λ x. MessageStands f x × (id_eq x.id id ≡ false)) (MessageStands g) b.messages (λ x k. other_message f g id changes x (not_same x.id id k.1) k.0)
      (each-both (MessageStands f) (λ x. id_eq x.id id ≡ false) b.messages h.messages (no_message f b id d h found));
  damaged = each-map (λ x. DamagedStands f x × IsThis f b id d h found x) (DamagedStands g) (changed id q) b.damaged (λ x k. one_moved f g id q d x changes new (id_eq x.id id) refl k.0 k.1)
      (each-both (DamagedStands f) (IsThis f b id d h found) b.damaged h.damaged (only f b id d h found));
  nothing_else = λ place i bytes hi hp there. by place i bytes hi hp there (id_eq i id) refl (place_eq place q) refl;
}
  where
    was : DamagedStands f d × (d.id ≡ id)
    was = Stands-damaged f b id d h found

    hid : IsId id
    hid = subst IsId was.1 was.0.id

    changes : ChangesOnly id f g
    changes = renamed-only f g d.place q id was.0.place hq hid r

    new : DamagedStands g (record d { place = q })
    new = record {
      id = was.0.id;
      place = hq;
      bytes = was.0.bytes;
      there = ap (file_at g q) was.1 ∙ r.here ∙ sym (ap (file_at f d.place) was.1) ∙ was.0.there;
      unread = λ _. was.0.unread sound;
    }

    gone : (place : Place) → IsPlace place → (place ≡ q → ⊥) → file_at g place id ≡ None
    gone = renamed-gone f g d.place q id was.0.place hq hid r (only_place_damaged f b id d h found hid)

    none_some : (x : List ℕ) → None ≡ Some x → ⊥
    none_some x k = cc

    by : (place : Place) (i : Id) (xs : List ℕ) → IsId i → IsPlace place → file_at g place i ≡ Some xs → (t : Bool) → id_eq i id ≡ t → (u : Bool) → place_eq place q ≡ u → stands_in (place_eq place) (move_damaged b id q) i ≡ true
    by place i xs hi hp there true e true k =
        let now : list_any (λ (x : Damaged). id_eq x.id id && place_eq q x.place) (map (changed id q) b.damaged) ≡ true =
        any-map (λ (x : Damaged). id_eq x.id id && place_eq q x.place) (changed id q) b.damaged
        ∙ found-any (λ (x : Damaged). id_eq x.id id) (λ (x : Damaged). id_eq (changed id q x).id id && place_eq q (changed id q x).place) b.damaged (λ x j. arrived id q x (id_eq x.id id) refl j) (has f b id d h found) in
        subst (λ (j : Id). stands_in (place_eq place) (move_damaged b id q) j ≡ true) (sym (id_eq-true i id e))
        (subst (λ (p : Place). stands_in (place_eq p) (move_damaged b id q) id ≡ true) (sym (place_eq-true place q k))
        (or_right (list_any (λ (x : Message). id_eq x.id id && place_eq q x.place) b.messages) (list_any (λ (x : Damaged). id_eq x.id id && place_eq q x.place) (map (changed id q) b.damaged)) now))
    by place i xs hi hp there true e false k =
        absurd (none_some xs (sym (gone place hp (λ same. true_false (place_eq place q) (ap (λ (p : Place). place_eq p q) same ∙ place_eq-refl q) k)) ∙ ap (file_at g place) (sym (id_eq-true i id e)) ∙ there))
    by place i xs hi hp there false e u k =
        ap (λ (t : Bool). list_any (λ (x : Message). id_eq x.id i && place_eq place x.place) b.messages || t)
        (any-map (λ (x : Damaged). id_eq x.id i && place_eq place x.place) (changed id q) b.damaged
        ∙ any-same (λ (x : Damaged). id_eq (changed id q x).id i && place_eq place (changed id q x).place) (λ (x : Damaged). id_eq x.id i && place_eq place x.place) b.damaged (λ x. same_elsewhere id i q place x (id_eq x.id id) e refl))
        ∙ h.nothing_else place i xs hi hp (sym (changes.files place i hp hi (not_same i id e)) ∙ there)
