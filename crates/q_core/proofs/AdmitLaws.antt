-- A message comes into memory: what is told of the others, and its slot.
use Rattle.std.proofs.Common.{◌≡◌, Bool, true, false, List, [], ◌∷◌, ◌++◌, filter, not, Some, inl, refl, sym, ap, ◌∙◌, subst}
use Rattle.std.specs.List.{list_any}
use Rattle.std.specs.Prelude.{◌&&◌, ◌||◌}
use Rattle.q_core.proofs.CorruptLaws.{no_bounce}
use Rattle.q_core.proofs.PlacedLaws.{damaged_at, placed_joined, placed_mapped}
use Rattle.q_core.proofs.QueueLaws.{IsSameOf, active_same, with_files}
use Rattle.q_core.proofs.SameLaws.{moved_same, not_bool}
use Rattle.q_core.specs.Agrees.{found_active}
use Rattle.q_laws.proofs.Books.{message_at, message_in, not_damaged, only_message, placed_listed}
use Rattle.q_laws.proofs.Distinct.{id_other, id_same}
use Rattle.q_laws.proofs.InPlace.{changed, changed_name, changed_other, changed_same}
use Rattle.q_laws.proofs.Members.{IsIn, any_from, in_filtered, in_right, in_unmap}
use Rattle.q_laws.proofs.Moved.{move_to}
use Rattle.q_model.proofs.IdLaws.{id_eq-true}
use Rattle.q_model.specs.Admissions.{cause_gone}
use Rattle.q_model.specs.Book.{Damaged, all_ids, ids_at, message_of}
use Rattle.q_model.specs.BookChanges.{move_message}
use Rattle.q_model.specs.Ids.{are_distinct, id_eq}
use Rattle.q_model.specs.Ledger.{Ledger}
use Rattle.q_model.specs.Leftovers.{leftovers}
use Rattle.q_model.specs.Memory.{is_admitted}
use Rattle.q_model.specs.Message.{Message}
use Rattle.q_model.specs.Places.{is_active}
use Rattle.q_model.specs.declared.id.Id.{Id}
use Rattle.q_model.specs.declared.rows.Admitted.{Admitted}
use Rattle.q_model.specs.declared.rows.Place.TheVariants as places

-- the message that comes isn't in active nor in memory, and its cause is gone
pub record IsComing (l : Ledger) (id : Id) : Type 0 where
  pub message : Message
  pub there : message_of l.book id ≡ Some message
  pub out : is_active message.place ≡ false
  pub absent : is_admitted l id ≡ false
  pub alone : cause_gone l.book id ≡ true

abbrev pub newcomer : Id → Admitted
newcomer id = record { id = id; unread = 0 }

abbrev pub admitting : Ledger → Id → Ledger
admitting l id = with_files l (move_message l.book id places.Active) (l.admitted ++ newcomer id ∷ [])

-- another message stays
pub coming_same : (l : Ledger) (id : Id) → IsComing l id → (i : Id) → IsIn i (all_ids l.book) → id_eq i id ≡ false → IsSameOf l.book (move_message l.book id places.Active) i
coming_same l id m i inside other = moved_same l.book id places.Active i other (no_bounce l.book id m.alone i inside other)

-- ---- active

any_last : (id i : Id) (xs : List Admitted) → id_eq i id ≡ false → list_any (λ (a : Admitted). id_eq a.id i) (xs ++ newcomer id ∷ []) ≡ list_any (λ (a : Admitted). id_eq a.id i) xs
any_last id i [] other = ap (λ z. z || false) (not_bool (id_eq id i) (λ h. id_other i id other (sym (id_eq-true id i h))))
any_last id i (a ∷ xs) other = ap (λ z. id_eq a.id i || z) (any_last id i xs other)

any_there : (id : Id) (xs : List Admitted) → list_any (λ (a : Admitted). id_eq a.id id) (xs ++ newcomer id ∷ []) ≡ true
any_there id xs = any_from (λ (a : Admitted). id_eq a.id id) (newcomer id) (xs ++ newcomer id ∷ []) (in_right (newcomer id) xs (newcomer id ∷ []) (inl refl)) (id_same id id refl)

active_one : (l : Ledger) (id : Id) (m : IsComing l id) → are_distinct (all_ids l.book) ≡ true → (x : Message) → IsIn x l.book.messages → (t : Bool) → id_eq x.id id ≡ t →
    (is_active (changed id (move_to places.Active) x).place && not (is_admitted (admitting l id) x.id)) ≡ (is_active x.place && not (is_admitted l x.id))
active_one l id m distinct x inside false e =
    ap (λ (y : Message). is_active y.place && not (is_admitted (admitting l id) x.id)) (changed_other id (move_to places.Active) x e)
    ∙ ap (λ z. is_active x.place && not z) (any_last id x.id l.admitted e)
active_one l id m distinct x inside true e =
    let mine = message_in l.book id m.message m.there in
    let same : x ≡ m.message = only_message l.book distinct x m.message inside mine.0 (id_eq-true x.id id e ∙ sym mine.1) in
    ap (λ (y : Message). is_active y.place && not (is_admitted (admitting l id) x.id)) (changed_same id (move_to places.Active) x e)
    ∙ ap not (ap (is_admitted (admitting l id)) (id_eq-true x.id id e) ∙ any_there id l.admitted)
    ∙ sym (ap (λ z. z && not (is_admitted l x.id)) (ap (λ (y : Message). is_active y.place) same ∙ m.out))

-- the same messages are left by an earlier life
pub coming_left : (l : Ledger) (id : Id) → IsComing l id → are_distinct (all_ids l.book) ≡ true → leftovers (admitting l id) ≡ leftovers l
coming_left l id m distinct =
    placed_joined is_active (λ i. not (is_admitted (admitting l id) i)) (λ i. not (is_admitted l i)) l.book (move_message l.book id places.Active) refl
    (placed_mapped is_active (λ i. not (is_admitted (admitting l id) i)) (λ i. not (is_admitted l i)) (changed id (move_to places.Active)) (changed_name id (move_to places.Active) (λ x. refl)) l.book.messages
    (λ x h. active_one l id m distinct x h (id_eq x.id id) refl))
    (λ i h. ap not (any_last id i l.admitted (not_bool (id_eq i id) (λ e. other i h (id_eq-true i id e)))))
  where
    other : (i : Id) → IsIn i (damaged_at is_active l.book) → i ≡ id → ⊥
    other i h e =
        let mine = message_in l.book id m.message m.there in
        let one = in_unmap (λ (d : Damaged). d.id) i (filter (λ (d : Damaged). is_active d.place) l.book.damaged) h in
        not_damaged l.book distinct m.message one.0 mine.0 (in_filtered (λ (d : Damaged). is_active d.place) one.0 l.book.damaged one.1).0 (mine.1 ∙ sym e ∙ sym one.2)

-- who stands in active is another
active_other : (l : Ledger) (id : Id) → IsComing l id → are_distinct (all_ids l.book) ≡ true → (i : Id) → IsIn i (ids_at is_active l.book) → id_eq i id ≡ false
active_other l id m distinct i inside = not_bool (id_eq i id) (λ e. apart (id_eq-true i id e))
  where
    apart : i ≡ id → ⊥
    apart e = let bad : true ≡ false = sym (message_at is_active l.book distinct id m.message (subst (λ j. IsIn j (ids_at is_active l.book)) e inside) m.there) ∙ m.out in absurd cc

pub coming_listed : (l : Ledger) (id : Id) → IsComing l id → are_distinct (all_ids l.book) ≡ true → (i : Id) → IsIn i (ids_at is_active l.book) → IsSameOf l.book (move_message l.book id places.Active) i
coming_listed l id m distinct i inside = coming_same l id m i (placed_listed is_active l.book i inside) (active_other l id m distinct i inside)

pub coming_active : (l : Ledger) (id : Id) → IsComing l id → are_distinct (all_ids l.book) ≡ true → found_active (admitting l id) ≡ found_active l
coming_active l id m distinct = active_same l (move_message l.book id places.Active) (l.admitted ++ newcomer id ∷ []) (coming_left l id m distinct) (λ i h.
    coming_listed l id m distinct i (in_filtered (λ x. not (is_admitted l x)) i (ids_at is_active l.book) h).0)
