-- What is picked next stands in incoming or in deferred.
use Rattle.std.proofs.Common.{◌≡◌, Bool, true, false, List, [], ◌∷◌, filter, filter_map, Option, Some, None, option_and_then, ◌⊎◌, inl, inr, refl, sym, ap, ◌∙◌, subst}
use Rattle.std.proofs.lemmas.Option.{same_Some}
use Rattle.std.specs.List.{cons_option}
use Rattle.std.specs.Option.{option_map_or}
use Rattle.q_laws.proofs.Books.{active_not_incoming, message_at, message_in, not_damaged, only_message}
use Rattle.q_laws.proofs.Members.{IsIn, in_either, in_filtered, least_in}
use Rattle.q_model.proofs.IdLaws.{id_eq-true}
use Rattle.q_model.specs.Book.{Book, Damaged, all_ids, ids_at, message_of}
use Rattle.q_model.specs.Ids.{are_distinct, id_before, id_eq}
use Rattle.q_model.specs.Ledger.{Ledger}
use Rattle.q_model.specs.Message.{Message}
use Rattle.q_model.specs.Places.{is_active, is_incoming}
use Rattle.q_model.specs.Scans.{deferred_name, deferred_names, is_ahead, name_before, scan_next}
use Rattle.q_model.specs.Alternation.{Pick, deferred_next, from_deferred, from_incoming, incoming_next, is_pick, pick, pick_id, pick_of}
use Rattle.q_model.specs.declared.id.Id.{Id}
use Rattle.q_model.specs.declared.rows.DeferredName.{DeferredName}
use Rattle.q_model.specs.declared.rows.Place.{Place}
use Rattle.q_model.specs.declared.rows.Scan.{Scan}
use Rattle.q_model.specs.declared.rows.Place.TheVariants as places

-- ---- names in deferred

given_in : {A B : Type 0} (f : A → Option B) (y : B) (x : A) (xs : List A) (o : Option B) → f x ≡ o → (IsIn y (filter_map f xs) → (z : A) × IsIn z xs × (f z ≡ Some y)) → IsIn y (cons_option o (filter_map f xs)) → (z : A) × IsIn z (x ∷ xs) × (f z ≡ Some y)
given_in f y x xs None e rest h = let k = rest h in (k.0, inr k.1, k.2)
given_in f y x xs (Some v) e rest (inl same) = (x, inl refl, e ∙ ap Some same)
given_in f y x xs (Some v) e rest (inr h) = let k = rest h in (k.0, inr k.1, k.2)

pub in_given : {A B : Type 0} (f : A → Option B) (y : B) (xs : List A) → IsIn y (filter_map f xs) → (x : A) × IsIn x xs × (f x ≡ Some y)
in_given f y [] h = absurd h
in_given f y (x ∷ xs) h = given_in f y x xs (f x) refl (in_given f y xs) h

-- a name in deferred is of a place that isn't in active
name_is : (place : Place) (id : Id) (n : DeferredName) → deferred_name place id ≡ Some n → (n.id ≡ id) × (is_active place ≡ false)
name_is places.Incoming id n h = absurd cc
name_is places.Active id n h = absurd cc
name_is (places.Deferred due) id n h = (ap (λ (x : DeferredName). x.id) (sym (same_Some (record { due = due; id = id }) n h)), refl)
name_is places.Hold id n h = absurd cc
name_is places.Corrupt id n h = absurd cc

deferred_out : (b : Book) → are_distinct (all_ids b) ≡ true → (n : DeferredName) (m : Message) → IsIn n (deferred_names b) → message_of b n.id ≡ Some m → is_active m.place ≡ false
deferred_out b distinct n m inside there =
    let mine = message_in b n.id m there in
    elim (in_either n (filter_map (λ (x : Message). deferred_name x.place x.id) b.messages) (filter_map (λ (d : Damaged). deferred_name d.place d.id) b.damaged) inside) [
      | inl whole ↦
          let one = in_given (λ (x : Message). deferred_name x.place x.id) n b.messages whole in
          let is = name_is (one.0).place (one.0).id n one.2 in
          subst (λ (x : Message). is_active x.place ≡ false) (only_message b distinct one.0 m one.1 mine.0 (sym is.0 ∙ sym mine.1)) is.1
      | inr broken ↦
          let one = in_given (λ (d : Damaged). deferred_name d.place d.id) n b.damaged broken in
          absurd (not_damaged b distinct m one.0 mine.0 one.1 (mine.1 ∙ (name_is (one.0).place (one.0).id n one.2).0))
    ]

scanned_out : (l : Ledger) → are_distinct (all_ids l.book) ≡ true → (o : Option Scan) (n : DeferredName) (m : Message) → option_and_then (λ s. scan_next l.book s) o ≡ Some n → message_of l.book n.id ≡ Some m → is_active m.place ≡ false
scanned_out l distinct None n m h there = absurd cc
scanned_out l distinct (Some s) n m h there =
    deferred_out l.book distinct n m (in_filtered (is_ahead s) n (deferred_names l.book) (least_in name_before n (filter (is_ahead s) (deferred_names l.book)) h)).0 there

incoming_out : (l : Ledger) → are_distinct (all_ids l.book) ≡ true → (id : Id) (m : Message) → incoming_next l ≡ Some id → message_of l.book id ≡ Some m → is_active m.place ≡ false
incoming_out l distinct id m h there = which (is_active m.place) refl
  where
    which : (t : Bool) → is_active m.place ≡ t → t ≡ false
    which false e = refl
    which true e = absurd (active_not_incoming m.place e (message_at is_incoming l.book distinct id m (least_in id_before id (ids_at is_incoming l.book) h) there))

-- ---- the pick

-- it is the next of incoming, or the next of the scan
pick_is : (follows : Bool) (o : Option Id) (q : Option DeferredName) (p : Pick) → pick_of follows o q ≡ Some p →
    (o ≡ Some (pick_id p)) ⊎ ((n : DeferredName) × (q ≡ Some n) × (n.id ≡ pick_id p))
pick_is follows None None p h = absurd cc
pick_is follows None (Some n) p h = inr (n, refl, ap pick_id (same_Some (from_deferred n) p h))
pick_is follows (Some id) None p h = inl (ap (λ x. Some (pick_id x)) (same_Some (from_incoming id) p h))
pick_is true (Some id) (Some n) p h = inr (n, refl, ap pick_id (same_Some (from_deferred n) p h))
pick_is false (Some id) (Some n) p h = inl (ap (λ x. Some (pick_id x)) (same_Some (from_incoming id) p h))

picked_on : (l : Ledger) (id : Id) (m : Message) (o : Option Pick) → are_distinct (all_ids l.book) ≡ true → pick l ≡ o → option_map_or (λ p. id_eq (pick_id p) id) o false ≡ true → message_of l.book id ≡ Some m → is_active m.place ≡ false
picked_on l id m None distinct e h there = absurd cc
picked_on l id m (Some p) distinct e h there =
    let same : pick_id p ≡ id = id_eq-true (pick_id p) id h in
    let mine : message_of l.book (pick_id p) ≡ Some m = ap (message_of l.book) same ∙ there in
    elim (pick_is l.deferred_follows (incoming_next l) (deferred_next l) p e) [
      | inl first ↦ incoming_out l distinct (pick_id p) m first mine
      | inr name ↦ scanned_out l distinct l.scan name.0 m name.1 (ap (message_of l.book) name.2 ∙ mine)
    ]

-- a message that is picked next isn't in active
pub picked_out : (l : Ledger) (id : Id) (m : Message) → are_distinct (all_ids l.book) ≡ true → is_pick l id ≡ true → message_of l.book id ≡ Some m → is_active m.place ≡ false
picked_out l id m distinct h there = picked_on l id m (pick l) distinct refl h there
