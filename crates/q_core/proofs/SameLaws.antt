-- Of other ids a book says the same where a message moves.
use Rattle.std.proofs.Common.{◌≡◌, Bool, true, false, List, is_some, Option, Some, None, not, inl, inr, refl, sym, ap, ◌∙◌, subst}
use Rattle.std.proofs.lemmas.Bool.{and_parts, not-true, or_cases, or_left, or_right}
use Rattle.std.specs.List.{list_all, list_any}
use Rattle.std.specs.Option.{option_map_or}
use Rattle.std.specs.Prelude.{◌&&◌, ◌||◌, nat_le}
use Rattle.q_core.proofs.ListLaws.{list_any-map, list_any-same}
use Rattle.q_core.proofs.QueueLaws.{IsSameOf}
use Rattle.q_laws.proofs.Books.{at_place, damaged_at, damaged_names, message_at, message_in, message_listed, message_names}
use Rattle.q_laws.proofs.Distinct.{id_other, id_same}
use Rattle.q_laws.proofs.InPlace.{changed, changed_name, changed_other, changed_same}
use Rattle.q_laws.proofs.Mapped.{stands_mapped}
use Rattle.q_laws.proofs.Members.{IsIn, all_at, any_in, find_none, in_either, in_filtered, in_unmap}
use Rattle.q_laws.proofs.Moved.{move_to, other_moved}
use Rattle.q_model.proofs.IdLaws.{id_eq-true}
use Rattle.q_model.specs.Book.{Book, Damaged, all_ids, damaged_of, ids_at, message_of, stands, stands_in}
use Rattle.q_model.specs.BookChanges.{move_message}
use Rattle.q_model.specs.Ids.{are_distinct, bounce_of, cause_of, id_eq}
use Rattle.q_model.specs.Ledger.{Ledger}
use Rattle.q_model.specs.Leftovers.{leftovers}
use Rattle.q_model.specs.Memory.{is_admitted}
use Rattle.q_model.specs.Message.{Message}
use Rattle.q_model.specs.Orderly.{is_orderly, is_paired, is_sealed, is_sound}
use Rattle.q_model.specs.Places.{is_active, is_incoming}
use Rattle.q_model.specs.declared.id.Id.{Id}
use Rattle.q_model.specs.declared.rows.Place.{Place}

-- ---- what stands

pub not_bool : (b : Bool) → (b ≡ true → ⊥) → b ≡ false
not_bool true h = absurd (h refl)
not_bool false h = refl

-- who is found to stand at a place is listed there
pub stands_listed : (test : Place → Bool) (b : Book) (id : Id) → stands_in test b id ≡ true → IsIn id (ids_at test b)
stands_listed test b id h =
    elim (or_cases (list_any (λ (m : Message). id_eq m.id id && test m.place) b.messages) (list_any (λ (d : Damaged). id_eq d.id id && test d.place) b.damaged) h) [
      | inl whole ↦
          let one = any_in (λ (m : Message). id_eq m.id id && test m.place) b.messages whole in
          let two = and_parts (id_eq (one.0).id id) (test (one.0).place) one.2 in
          subst (λ i. IsIn i (ids_at test b)) (id_eq-true (one.0).id id two.0) (at_place test b one.0 one.1 two.1)
      | inr broken ↦
          let one = any_in (λ (d : Damaged). id_eq d.id id && test d.place) b.damaged broken in
          let two = and_parts (id_eq (one.0).id id) (test (one.0).place) one.2 in
          subst (λ i. IsIn i (ids_at test b)) (id_eq-true (one.0).id id two.0) (damaged_at test b one.0 one.1 two.1)
    ]

found_some : (b : Book) (m : Message) (o : Option Message) → message_of b m.id ≡ o → IsIn m b.messages → is_some o ≡ true
found_some b m (Some x) e h = refl
found_some b m None e h = let bad : false ≡ true = sym (none_at_all b.messages e h) ∙ id_same m.id m.id refl in absurd cc
  where
    none_at_all : (ms : List Message) → message_of (record b { messages = ms }) m.id ≡ None → IsIn m ms → id_eq m.id m.id ≡ false
    none_at_all ms e h = find_none (λ (x : Message). id_eq x.id m.id) m ms e h

-- an id of the book stands
pub listed_stands : (b : Book) (id : Id) → IsIn id (all_ids b) → stands b id ≡ true
listed_stands b id h = elim (in_either id (message_names b) (damaged_names b) h) [
  | inl whole ↦
      let one = in_unmap (λ (m : Message). m.id) id b.messages whole in
      or_left (is_some (message_of b id)) (is_some (damaged_of b id)) (subst (λ i. is_some (message_of b i) ≡ true) one.2 (found_some b one.0 (message_of b (one.0).id) refl one.1))
  | inr broken ↦
      let one = in_unmap (λ (d : Damaged). d.id) id b.damaged broken in
      or_right (is_some (message_of b id)) (is_some (damaged_of b id)) (subst (λ i. is_some (damaged_of b i) ≡ true) one.2 (broken_some b one.0 (damaged_of b (one.0).id) refl one.1))
]
  where
    broken_some : (b : Book) (d : Damaged) (o : Option Damaged) → damaged_of b d.id ≡ o → IsIn d b.damaged → is_some o ≡ true
    broken_some b d (Some x) e h = refl
    broken_some b d None e h = let bad : false ≡ true = sym (find_none (λ (x : Damaged). id_eq x.id d.id) d b.damaged e h) ∙ id_same d.id d.id refl in absurd cc

paired_there : (a b s o : Bool) → a ≡ true → b ≡ true → (not a || not b || (s && o)) ≡ true → s ≡ true
paired_there a b s o ea eb h = (and_parts s o (sym (ap (λ x. not x || not b || (s && o)) ea ∙ ap (λ x. not x || (s && o)) eb) ∙ h)).0

-- a bounce that stands together with its cause stands in incoming
pub paired_incoming : (b : Book) → is_orderly b ≡ true → (id : Id) → IsIn id (all_ids b) → id.bounce ≡ true → IsIn (cause_of id) (all_ids b) → IsIn id (ids_at is_incoming b)
paired_incoming b orderly id inside bounce cause =
    let test : Id → Bool = λ i. nat_le i.generation b.generation && is_paired b i in
    let ids = (and_parts (list_all test (all_ids b)) (list_all (λ (x : Message). is_active x.place || is_sound x) b.messages) orderly).0 in
    let pair = (and_parts (nat_le id.generation b.generation) (is_paired b id) (all_at test id (all_ids b) ids inside)).1 in
    stands_listed is_incoming b id (paired_there id.bounce (stands b (cause_of id)) (stands_in is_incoming b id) (option_map_or (λ m. is_active m.place && is_sealed m) (message_of b (cause_of id)) false) bounce (listed_stands b (cause_of id) cause) pair)

abbrev bounce_with : Bool → Id → Id
bounce_with t i = record i { bounce = t }

-- a message that isn't in incoming is no bounce of another in the book
pub no_bounce_of : (b : Book) → is_orderly b ≡ true → are_distinct (all_ids b) ≡ true → (id : Id) (m : Message) → message_of b id ≡ Some m → is_incoming m.place ≡ false →
    (i : Id) → IsIn i (all_ids b) → id_eq i id ≡ false → id_eq (bounce_of i) id ≡ false
no_bounce_of b orderly distinct id m there away i inside other = not_bool (id_eq (bounce_of i) id) (λ e. apart (id_eq-true (bounce_of i) id e) i.bounce refl)
  where
    apart : bounce_of i ≡ id → (t : Bool) → i.bounce ≡ t → ⊥
    apart same true e = id_other i id other (ap (λ t. bounce_with t i) e ∙ same)
    apart same false e =
        let cause : cause_of id ≡ i = ap cause_of (sym same) ∙ ap (λ t. bounce_with t i) (sym e) in
        let bounce : id.bounce ≡ true = ap (λ (x : Id). x.bounce) (sym same) in
        let mine = message_in b id m there in
        let place = message_at is_incoming b distinct id m (paired_incoming b orderly id (subst (λ x. IsIn x (all_ids b)) mine.1 (message_listed b m mine.0)) bounce (subst (λ x. IsIn x (all_ids b)) (sym cause) inside)) there in
        let bad : true ≡ false = sym place ∙ away in
        absurd cc

-- a message that an earlier life left is none in memory
pub leftover_other : (l : Ledger) (id : Id) → is_admitted l id ≡ true → (i : Id) → IsIn i (leftovers l) → IsIn i (ids_at is_active l.book) × (id_eq i id ≡ false)
leftover_other l id adm i h =
    let two = in_filtered (λ x. not (is_admitted l x)) i (ids_at is_active l.book) h in
    (two.0, not_bool (id_eq i id) (λ e. apart e (not-true (is_admitted l i) two.1)))
  where
    apart : id_eq i id ≡ true → is_admitted l i ≡ false → ⊥
    apart e h = let bad : true ≡ false = sym adm ∙ ap (is_admitted l) (sym (id_eq-true i id e)) ∙ h in absurd cc

-- ---- a message moves

incoming_one : (id i : Id) (place : Place) → id_eq i id ≡ false → (m : Message) → (t : Bool) → id_eq m.id id ≡ t → (id_eq (changed id (move_to place) m).id i && is_incoming (changed id (move_to place) m).place) ≡ (id_eq m.id i && is_incoming m.place)
incoming_one id i place other m false e = ap (λ (x : Message). id_eq x.id i && is_incoming x.place) (changed_other id (move_to place) m e)
incoming_one id i place other m true e =
    let away : id_eq m.id i ≡ false = not_bool (id_eq m.id i) (λ h. id_other i id other (sym (id_eq-true m.id i h) ∙ id_eq-true m.id id e)) in
    ap (λ (x : Message). id_eq x.id i && is_incoming x.place) (changed_same id (move_to place) m e)
    ∙ ap (λ t. t && is_incoming place) away
    ∙ sym (ap (λ t. t && is_incoming m.place) away)

moved_incoming : (b : Book) (id i : Id) (place : Place) → id_eq i id ≡ false → stands_in is_incoming (move_message b id place) i ≡ stands_in is_incoming b i
moved_incoming b id i place other =
    ap (λ z. z || list_any (λ (d : Damaged). id_eq d.id i && is_incoming d.place) b.damaged)
    (list_any-map (λ (m : Message). id_eq m.id i && is_incoming m.place) (changed id (move_to place)) b.messages
    ∙ list_any-same (λ m. id_eq (changed id (move_to place) m).id i && is_incoming (changed id (move_to place) m).place) (λ m. id_eq m.id i && is_incoming m.place)
    (λ m. incoming_one id i place other m (id_eq m.id id) refl) b.messages)

-- another message stays, where the one that moves isn't its bounce
pub moved_same : (b : Book) (id : Id) (place : Place) (i : Id) → id_eq i id ≡ false → id_eq (bounce_of i) id ≡ false → IsSameOf b (move_message b id place) i
moved_same b id place i other apart = record {
  message = other_moved b id i (move_to place) (λ x. refl) other;
  bounced = moved_incoming b id (bounce_of i) place apart;
  alone = ap (λ x. not (i.bounce && x)) (stands_mapped b b.generation (changed id (move_to place)) (changed_name id (move_to place) (λ x. refl)) (cause_of i));
}
