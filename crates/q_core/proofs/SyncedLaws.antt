-- What is known of the messages that an earlier life left stays known while no others are left.
use Rattle.std.proofs.Common.{◌≡◌, ◌∙◌, ap, Bool, false, filter, if◌then◌else◌, inl, inr, List, map, not, subst, sym, true}
use Rattle.std.specs.List.{list_any}
use Rattle.q_core.proofs.BookLaws.{KeepsPlace, ids_at-change}
use Rattle.q_core.specs.Agrees.{AreSyncedAlike}
use Rattle.q_laws.proofs.Members.{IsIn, any_from, any_in, in_either, in_filter, in_filtered, in_left, in_map, in_right, in_unmap}
use Rattle.q_model.specs.Book.{Book, Damaged, ids_at}
use Rattle.q_model.specs.BookChanges.{change_message, move_damaged, move_message, remove_message}
use Rattle.q_model.specs.Ids.{id_eq}
use Rattle.q_model.specs.Leftovers.{leftovers}
use Rattle.q_model.specs.Ledger.{Ledger}
use Rattle.q_model.specs.Memory.{is_admitted}
use Rattle.q_model.specs.Message.{Message}
use Rattle.q_model.specs.Places.{is_active}
use Rattle.q_model.specs.declared.id.Id.{Id}
use Rattle.q_model.specs.declared.rows.Place.{Place}

pub synced_fewer : (ids : List Id) (l k : Ledger) → ((i : Id) → IsIn i (leftovers k) → IsIn i (leftovers l)) → k.synced ≡ l.synced → AreSyncedAlike ids l → AreSyncedAlike ids k
synced_fewer ids l k fewer synced h = λ id left.
    let one = any_in (id_eq id) (leftovers k) left in
    h id (any_from (id_eq id) one.0 (leftovers l) (fewer one.0 one.1) one.2) ∙ sym (ap (list_any (id_eq id)) synced)

-- a message that stays where it is leaves the same
pub leftovers_changed : (l : Ledger) (id : Id) (f : Message → Message) → KeepsPlace f → leftovers (record l { book = change_message l.book id f }) ≡ leftovers l
leftovers_changed l id f keeps = ap (filter (λ i. not (is_admitted l i))) (ids_at-change is_active l.book id f keeps)

-- the same are left
pub all_left : (l k : Ledger) → leftovers k ≡ leftovers l → (i : Id) → IsIn i (leftovers k) → IsIn i (leftovers l)
all_left l k same i inside = subst (IsIn i) same inside

-- the same are in memory, and no others are in active
pub fewer_left : (l : Ledger) (b : Book) → ((i : Id) → IsIn i (ids_at is_active b) → IsIn i (ids_at is_active l.book)) → (i : Id) → IsIn i (leftovers (record l { book = b })) → IsIn i (leftovers l)
fewer_left l b fewer i inside =
    let two = in_filtered (λ j. not (is_admitted l j)) i (ids_at is_active b) inside in
    in_filter (λ j. not (is_admitted l j)) i (ids_at is_active l.book) (fewer i two.0) two.1

-- a message goes elsewhere
pub moved_fewer : (b : Book) (id : Id) (place : Place) → is_active place ≡ false → (i : Id) → IsIn i (ids_at is_active (move_message b id place)) → IsIn i (ids_at is_active b)
moved_fewer b id place away i inside = elim (in_either i (map (λ (m : Message). m.id) (filter (λ (m : Message). is_active m.place) (move_message b id place).messages)) damaged inside) [
  | inl one ↦ in_left i (map (λ (m : Message). m.id) (filter (λ (m : Message). is_active m.place) b.messages)) damaged (whole one)
  | inr one ↦ in_right i (map (λ (m : Message). m.id) (filter (λ (m : Message). is_active m.place) b.messages)) damaged one
]
  where
    damaged : List Id
    damaged = map (λ (d : Damaged). d.id) (filter (λ (d : Damaged). is_active d.place) b.damaged)

    stays : (m : Message) → IsIn m b.messages → (t : Bool) → is_active (if t then record m { place = place } else m).place ≡ true → IsIn (if t then record m { place = place } else m).id (map (λ (x : Message). x.id) (filter (λ (x : Message). is_active x.place) b.messages))
    stays m here true active = let bad : false ≡ true = sym away ∙ active in absurd cc
    stays m here false active = in_map (λ (x : Message). x.id) m (filter (λ (x : Message). is_active x.place) b.messages) (in_filter (λ (x : Message). is_active x.place) m b.messages here active)

    whole : IsIn i (map (λ (m : Message). m.id) (filter (λ (m : Message). is_active m.place) (move_message b id place).messages)) → IsIn i (map (λ (m : Message). m.id) (filter (λ (m : Message). is_active m.place) b.messages))
    whole one =
        let x = in_unmap (λ (m : Message). m.id) i (filter (λ (m : Message). is_active m.place) (move_message b id place).messages) one in
        let y = in_filtered (λ (m : Message). is_active m.place) x.0 (move_message b id place).messages x.1 in
        let z = in_unmap (λ (m : Message). if id_eq m.id id then record m { place = place } else m) x.0 b.messages y.0 in
        let active : is_active (if id_eq (z.0).id id then record z.0 { place = place } else z.0).place ≡ true = ap (λ (m : Message). is_active m.place) z.2 ∙ y.1 in
        subst (λ j. IsIn j (map (λ (m : Message). m.id) (filter (λ (m : Message). is_active m.place) b.messages)))
        (ap (λ (m : Message). m.id) z.2 ∙ x.2) (stays z.0 z.1 (id_eq (z.0).id id) active)

-- a damaged file goes elsewhere
pub shifted_fewer : (b : Book) (id : Id) (place : Place) → is_active place ≡ false → (i : Id) → IsIn i (ids_at is_active (move_damaged b id place)) → IsIn i (ids_at is_active b)
shifted_fewer b id place away i inside = elim (in_either i whole (map (λ (d : Damaged). d.id) (filter (λ (d : Damaged). is_active d.place) (move_damaged b id place).damaged)) inside) [
  | inl one ↦ in_left i whole (map (λ (d : Damaged). d.id) (filter (λ (d : Damaged). is_active d.place) b.damaged)) one
  | inr one ↦ in_right i whole (map (λ (d : Damaged). d.id) (filter (λ (d : Damaged). is_active d.place) b.damaged)) (broken one)
]
  where
    whole : List Id
    whole = map (λ (m : Message). m.id) (filter (λ (m : Message). is_active m.place) b.messages)

    stays : (d : Damaged) → IsIn d b.damaged → (t : Bool) → is_active (if t then record d { place = place } else d).place ≡ true → IsIn (if t then record d { place = place } else d).id (map (λ (x : Damaged). x.id) (filter (λ (x : Damaged). is_active x.place) b.damaged))
    stays d here true active = let bad : false ≡ true = sym away ∙ active in absurd cc
    stays d here false active = in_map (λ (x : Damaged). x.id) d (filter (λ (x : Damaged). is_active x.place) b.damaged) (in_filter (λ (x : Damaged). is_active x.place) d b.damaged here active)

    broken : IsIn i (map (λ (d : Damaged). d.id) (filter (λ (d : Damaged). is_active d.place) (move_damaged b id place).damaged)) → IsIn i (map (λ (d : Damaged). d.id) (filter (λ (d : Damaged). is_active d.place) b.damaged))
    broken one =
        let x = in_unmap (λ (d : Damaged). d.id) i (filter (λ (d : Damaged). is_active d.place) (move_damaged b id place).damaged) one in
        let y = in_filtered (λ (d : Damaged). is_active d.place) x.0 (move_damaged b id place).damaged x.1 in
        let z = in_unmap (λ (d : Damaged). if id_eq d.id id then record d { place = place } else d) x.0 b.damaged y.0 in
        let active : is_active (if id_eq (z.0).id id then record z.0 { place = place } else z.0).place ≡ true = ap (λ (d : Damaged). is_active d.place) z.2 ∙ y.1 in
        subst (λ j. IsIn j (map (λ (d : Damaged). d.id) (filter (λ (d : Damaged). is_active d.place) b.damaged)))
        (ap (λ (d : Damaged). d.id) z.2 ∙ x.2) (stays z.0 z.1 (id_eq (z.0).id id) active)

-- a message is gone
pub removed_fewer : (b : Book) (id : Id) → (i : Id) → IsIn i (ids_at is_active (remove_message b id)) → IsIn i (ids_at is_active b)
removed_fewer b id i inside = elim (in_either i (map (λ (m : Message). m.id) (filter (λ (m : Message). is_active m.place) (remove_message b id).messages)) damaged inside) [
  | inl one ↦ in_left i (map (λ (m : Message). m.id) (filter (λ (m : Message). is_active m.place) b.messages)) damaged (whole one)
  | inr one ↦ in_right i (map (λ (m : Message). m.id) (filter (λ (m : Message). is_active m.place) b.messages)) damaged one
]
  where
    damaged : List Id
    damaged = map (λ (d : Damaged). d.id) (filter (λ (d : Damaged). is_active d.place) b.damaged)

    whole : IsIn i (map (λ (m : Message). m.id) (filter (λ (m : Message). is_active m.place) (remove_message b id).messages)) → IsIn i (map (λ (m : Message). m.id) (filter (λ (m : Message). is_active m.place) b.messages))
    whole one =
        let x = in_unmap (λ (m : Message). m.id) i (filter (λ (m : Message). is_active m.place) (remove_message b id).messages) one in
        let y = in_filtered (λ (m : Message). is_active m.place) x.0 (remove_message b id).messages x.1 in
        let z = in_filtered (λ (m : Message). not (id_eq m.id id)) x.0 b.messages y.0 in
        subst (λ j. IsIn j (map (λ (m : Message). m.id) (filter (λ (m : Message). is_active m.place) b.messages))) x.2
        (in_map (λ (m : Message). m.id) x.0 (filter (λ (m : Message). is_active m.place) b.messages) (in_filter (λ (m : Message). is_active m.place) x.0 b.messages z.0 y.1))
