-- What is told of the messages that stay, as one leaves memory.
use Rattle.std.proofs.Common.{◌≡◌, Bool, true, false, List, [], ◌∷◌, cond, map, not, refl, sym, ap, ◌∙◌, subst}
use Rattle.std.proofs.lemmas.Bool.{not-true}
use Rattle.std.specs.List.{list_any}
use Rattle.std.specs.Prelude.{◌||◌}
use Rattle.q_core.proofs.HeldLaws.{is_there}
use Rattle.q_core.proofs.ListLaws.{filter-map}
use Rattle.q_core.proofs.QueueLaws.{IsSameOf, active_same, slots_same, with_files}
use Rattle.q_core.proofs.SameLaws.{leftover_other, not_bool}
use Rattle.q_core.specs.Agrees.{found_active, slot_of}
use Rattle.q_core.specs.Changes.{slots_without}
use Rattle.q_pool.specs.declared.slot.Slot.{Slot}
use Rattle.q_laws.proofs.Books.{at_place, message_in}
use Rattle.q_laws.proofs.Distinct.{id_other, id_same}
use Rattle.q_laws.proofs.Members.{IsIn, any_from, in_filtered}
use Rattle.q_laws.specs.Consistency.{IsConsistent}
use Rattle.q_model.proofs.IdLaws.{id_eq-true}
use Rattle.q_model.specs.Book.{Book, ids_at}
use Rattle.q_model.specs.Finishing.{without}
use Rattle.q_model.specs.Ids.{id_eq}
use Rattle.q_model.specs.Ledger.{Ledger}
use Rattle.q_model.specs.Leftovers.{leftovers}
use Rattle.q_model.specs.Memory.{is_admitted}
use Rattle.q_model.specs.Places.{is_active}
use Rattle.q_model.specs.Settings.{World}
use Rattle.q_model.specs.declared.id.Id.{Id}
use Rattle.q_model.specs.declared.rows.Admitted.{Admitted}

-- another message is in memory as before
pub still_admitted : (id i : Id) (xs : List Admitted) → id_eq i id ≡ false → list_any (λ (a : Admitted). id_eq a.id i) (without id xs) ≡ list_any (λ (a : Admitted). id_eq a.id i) xs
still_admitted id i [] other = refl
still_admitted id i (a ∷ xs) other = on (id_eq a.id id) refl (still_admitted id i xs other)
  where
    on : (t : Bool) → id_eq a.id id ≡ t → list_any (λ (x : Admitted). id_eq x.id i) (without id xs) ≡ list_any (λ (x : Admitted). id_eq x.id i) xs → list_any (λ (x : Admitted). id_eq x.id i) (cond (not t) (a ∷ without id xs) (without id xs)) ≡ (id_eq a.id i || list_any (λ (x : Admitted). id_eq x.id i) xs)
    on false e rest = ap (λ z. id_eq a.id i || z) rest
    on true e rest =
        let away : id_eq a.id i ≡ false = not_bool (id_eq a.id i) (λ h. id_other i id other (sym (id_eq-true a.id i h) ∙ id_eq-true a.id id e)) in
        rest ∙ sym (ap (λ z. z || list_any (λ (x : Admitted). id_eq x.id i) xs) away)

-- a message in memory stands in active
pub admitted_active : {w : World} {l : Ledger} → IsConsistent w l → (a : Admitted) → IsIn a l.admitted → IsIn a.id (ids_at is_active l.book)
admitted_active {l = l} k a h =
    let t = is_there k a.id (any_from (λ (x : Admitted). id_eq x.id a.id) a l.admitted h (id_same a.id a.id refl)) in
    let mine = message_in l.book a.id t.message t.there in
    subst (λ i. IsIn i (ids_at is_active l.book)) mine.1 (at_place is_active l.book t.message mine.0 t.active)

-- the slots of those that stay
pub rest_slots : {w : World} {l : Ledger} → IsConsistent w l → (id : Id) (b : Book) → ((i : Id) → IsIn i (ids_at is_active l.book) → id_eq i id ≡ false → IsSameOf l.book b i) → (slots : List Slot) → slots ≡ map (slot_of l) l.admitted →
    slots_without id slots ≡ map (slot_of (with_files l b (without id l.admitted))) (without id l.admitted)
rest_slots {l = l} k id b same slots e =
    ap (slots_without id) e
    ∙ filter-map (λ (s : Slot). not (id_eq s.id id)) (slot_of l) l.admitted
    ∙ slots_same l b (without id l.admitted) (without id l.admitted) (λ a h. let two = in_filtered (λ (x : Admitted). not (id_eq x.id id)) a l.admitted h in
    same a.id (admitted_active k a two.0) (not-true (id_eq a.id id) two.1))

-- what is told of active
pub rest_active : (l : Ledger) (id : Id) (b : Book) (rows : List Admitted) → is_admitted l id ≡ true → ((i : Id) → IsIn i (ids_at is_active l.book) → id_eq i id ≡ false → IsSameOf l.book b i) → leftovers (with_files l b rows) ≡ leftovers l →
    found_active (with_files l b rows) ≡ found_active l
rest_active l id b rows adm same e = active_same l b rows e (λ i h. let two = leftover_other l id adm i h in same i two.0 two.1)
