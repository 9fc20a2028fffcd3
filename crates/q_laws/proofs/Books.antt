-- The messages of a book whose ids are distinct, and those that an earlier life left in active.
use Rattle.std.proofs.Common.{◌≡◌, Bool, true, not, List, map, filter, Some, ◌⊎◌, inl, inr, sym, ◌∙◌, subst}
use Rattle.q_laws.proofs.Distinct.{distinct_parts, in_listed, listed_in, same_named}
use Rattle.q_laws.proofs.Members.{IsIn, find_in, in_either, in_filter, in_filtered, in_left, in_map, in_right, in_unmap}
use Rattle.q_model.proofs.IdLaws.{id_eq-true}
use Rattle.q_model.specs.Book.{Book, Damaged, all_ids, ids_at, message_of}
use Rattle.q_model.specs.Ids.{are_distinct, id_eq}
use Rattle.q_model.specs.Ledger.{Ledger}
use Rattle.q_model.specs.Leftovers.{is_leftover, leftovers}
use Rattle.q_model.specs.Memory.{is_admitted}
use Rattle.q_model.specs.Message.{Message}
use Rattle.q_model.specs.Places.{is_active, is_incoming}
use Rattle.q_model.specs.declared.id.Id.{Id}
use Rattle.q_model.specs.declared.rows.Place.{Place}
use Rattle.q_model.specs.declared.rows.Place.TheVariants as places

abbrev pub message_names : Book → List Id
message_names b = map (λ (m : Message). m.id) b.messages

abbrev pub damaged_names : Book → List Id
damaged_names b = map (λ (d : Damaged). d.id) b.damaged

pub message_in : (b : Book) (id : Id) (m : Message) → message_of b id ≡ Some m → IsIn m b.messages × (m.id ≡ id)
message_in b id m h = let one = find_in (λ (x : Message). id_eq x.id id) m b.messages h in (one.0, id_eq-true m.id id one.1)

pub only_message : (b : Book) → are_distinct (all_ids b) ≡ true → (m x : Message) → IsIn m b.messages → IsIn x b.messages → m.id ≡ x.id → m ≡ x
only_message b h m x there here e = same_named (λ (y : Message). y.id) m x b.messages (distinct_parts (message_names b) (damaged_names b) h).0 there here e

pub not_damaged : (b : Book) → are_distinct (all_ids b) ≡ true → (m : Message) (d : Damaged) → IsIn m b.messages → IsIn d b.damaged → m.id ≡ d.id → ⊥
not_damaged b h m d there here e =
    (distinct_parts (message_names b) (damaged_names b) h).2 m.id (in_map (λ (x : Message). x.id) m b.messages there)
    (subst (λ i. IsIn i (damaged_names b)) (sym e) (in_map (λ (x : Damaged). x.id) d b.damaged here))

pub message_listed : (b : Book) (m : Message) → IsIn m b.messages → IsIn m.id (all_ids b)
message_listed b m h = in_left m.id (message_names b) (damaged_names b) (in_map (λ (x : Message). x.id) m b.messages h)

pub damaged_listed : (b : Book) (d : Damaged) → IsIn d b.damaged → IsIn d.id (all_ids b)
damaged_listed b d h = in_right d.id (message_names b) (damaged_names b) (in_map (λ (x : Damaged). x.id) d b.damaged h)

-- the message of an id that stands at a place of a kind stands there
pub message_at : (place : Place → Bool) (b : Book) → are_distinct (all_ids b) ≡ true → (id : Id) (m : Message) → IsIn id (ids_at place b) → message_of b id ≡ Some m → place m.place ≡ true
message_at place b h id m there e =
    let mine = message_in b id m e in
    elim (in_either id (map (λ (x : Message). x.id) (filter (λ (x : Message). place x.place) b.messages)) (map (λ (d : Damaged). d.id) (filter (λ (d : Damaged). place d.place) b.damaged)) there) [
      | inl whole ↦
          let one = in_unmap (λ (x : Message). x.id) id (filter (λ (x : Message). place x.place) b.messages) whole in
          let two = in_filtered (λ (x : Message). place x.place) one.0 b.messages one.1 in
          subst (λ (x : Message). place x.place ≡ true) (only_message b h one.0 m two.0 mine.0 (one.2 ∙ sym mine.1)) two.1
      | inr broken ↦
          let one = in_unmap (λ (d : Damaged). d.id) id (filter (λ (d : Damaged). place d.place) b.damaged) broken in
          absurd (not_damaged b h m one.0 mine.0 (in_filtered (λ (d : Damaged). place d.place) one.0 b.damaged one.1).0 (mine.1 ∙ sym one.2))
    ]

-- a message at a place of a kind is listed there
pub at_place : (place : Place → Bool) (b : Book) (m : Message) → IsIn m b.messages → place m.place ≡ true → IsIn m.id (ids_at place b)
at_place place b m h e =
    in_left m.id (map (λ (x : Message). x.id) (filter (λ (x : Message). place x.place) b.messages)) (map (λ (d : Damaged). d.id) (filter (λ (d : Damaged). place d.place) b.damaged))
    (in_map (λ (x : Message). x.id) m (filter (λ (x : Message). place x.place) b.messages) (in_filter (λ (x : Message). place x.place) m b.messages h e))

-- ---- leftovers

pub left_parts : (l : Ledger) (id : Id) → is_leftover l id ≡ true → IsIn id (ids_at is_active l.book) × (not (is_admitted l id) ≡ true)
left_parts l id h = in_filtered (λ x. not (is_admitted l x)) id (ids_at is_active l.book) (listed_in id (leftovers l) h)

pub left_from : (l : Ledger) (id : Id) → IsIn id (ids_at is_active l.book) → not (is_admitted l id) ≡ true → is_leftover l id ≡ true
left_from l id h k = in_listed id (leftovers l) (in_filter (λ x. not (is_admitted l x)) id (ids_at is_active l.book) h k)

pub left_active : (l : Ledger) → are_distinct (all_ids l.book) ≡ true → (id : Id) (m : Message) → is_leftover l id ≡ true → message_of l.book id ≡ Some m → is_active m.place ≡ true
left_active l h id m left e = message_at is_active l.book h id m (left_parts l id left).0 e

-- ---- who stands at a place

pub in_ids_at : (place : Place → Bool) (b : Book) (id : Id) → IsIn id (ids_at place b) →
    ((m : Message) × IsIn m b.messages × (m.id ≡ id) × (place m.place ≡ true)) ⊎ ((d : Damaged) × IsIn d b.damaged × (d.id ≡ id) × (place d.place ≡ true))
in_ids_at place b id h =
    elim (in_either id (map (λ (x : Message). x.id) (filter (λ (x : Message). place x.place) b.messages)) (map (λ (d : Damaged). d.id) (filter (λ (d : Damaged). place d.place) b.damaged)) h) [
      | inl whole ↦
          let one = in_unmap (λ (x : Message). x.id) id (filter (λ (x : Message). place x.place) b.messages) whole in
          let two = in_filtered (λ (x : Message). place x.place) one.0 b.messages one.1 in
          inl (one.0, two.0, one.2, two.1)
      | inr broken ↦
          let one = in_unmap (λ (d : Damaged). d.id) id (filter (λ (d : Damaged). place d.place) b.damaged) broken in
          let two = in_filtered (λ (d : Damaged). place d.place) one.0 b.damaged one.1 in
          inr (one.0, two.0, one.2, two.1)
    ]

pub damaged_at : (place : Place → Bool) (b : Book) (d : Damaged) → IsIn d b.damaged → place d.place ≡ true → IsIn d.id (ids_at place b)
damaged_at place b d h e =
    in_right d.id (map (λ (x : Message). x.id) (filter (λ (x : Message). place x.place) b.messages)) (map (λ (x : Damaged). x.id) (filter (λ (x : Damaged). place x.place) b.damaged))
    (in_map (λ (x : Damaged). x.id) d (filter (λ (x : Damaged). place x.place) b.damaged) (in_filter (λ (x : Damaged). place x.place) d b.damaged h e))

-- a place in active isn't in incoming
pub active_not_incoming : (p : Place) → is_active p ≡ true → is_incoming p ≡ true → ⊥
active_not_incoming places.Incoming h k = absurd cc
active_not_incoming places.Active h k = absurd cc
active_not_incoming (places.Deferred due) h k = absurd cc
active_not_incoming places.Hold h k = absurd cc
active_not_incoming places.Corrupt h k = absurd cc

pub placed_listed : (place : Place → Bool) (b : Book) (id : Id) → IsIn id (ids_at place b) → IsIn id (all_ids b)
placed_listed place b id h = elim (in_ids_at place b id h) [
  | inl whole ↦ subst (λ j. IsIn j (all_ids b)) whole.2 (message_listed b whole.0 whole.1)
  | inr broken ↦ subst (λ j. IsIn j (all_ids b)) broken.2 (damaged_listed b broken.0 broken.1)
]
