-- An idle message is deferred.
use Rattle.std.proofs.Common.{◌≡◌, ℕ, Bool, true, false, map, filter, not, Some, refl, sym, ap, ◌∙◌, subst}
use Rattle.std.proofs.lemmas.Bool.{and_parts}
use Rattle.std.specs.Prelude.{◌&&◌}
use Rattle.q_core.proofs.ChangeLaws.{seen_same}
use Rattle.q_core.proofs.HeldLaws.{is_there}
use Rattle.q_core.proofs.PlacedLaws.{damaged_at, placed_all, placed_joined, placed_mapped}
use Rattle.q_core.proofs.SyncedLaws.{all_left}
use Rattle.q_core.proofs.QueueLaws.{IsSameOf, files_law, incoming_same, with_files}
use Rattle.q_core.proofs.RestLaws.{rest_active, rest_slots, still_admitted}
use Rattle.q_core.proofs.SameLaws.{moved_same, no_bounce_of, not_bool}
use Rattle.q_core.proofs.StepLaws.{HoldsRaw}
use Rattle.q_core.specs.Agrees.{IsSeen, found_active, found_incoming, slot_of}
use Rattle.q_core.specs.Changes.{IsPutOff}
use Rattle.q_core.specs.declared.state.Core.{Core}
use Rattle.q_core.specs.declared.state.Seen.TheVariants.{Unknown}
use Rattle.q_laws.proofs.Books.{message_at, message_in, not_damaged, only_message, placed_listed}
use Rattle.q_laws.proofs.InPlace.{changed, changed_name, changed_other, changed_same}
use Rattle.q_laws.proofs.Leaving.{idle_admitted}
use Rattle.q_laws.proofs.Members.{IsIn, in_filtered, in_unmap}
use Rattle.q_laws.proofs.Moved.{move_to}
use Rattle.q_laws.specs.Consistency.{IsConsistent}
use Rattle.q_model.proofs.IdLaws.{id_eq-true}
use Rattle.q_model.specs.Book.{Book, Damaged, all_ids, ids_at, message_of}
use Rattle.q_model.specs.BookChanges.{move_message}
use Rattle.q_model.specs.Finishing.{without}
use Rattle.q_model.specs.Ids.{are_distinct, id_eq}
use Rattle.q_model.specs.Ledger.{Ledger}
use Rattle.q_model.specs.Leaving.{after_defer, may_defer}
use Rattle.q_model.specs.Leftovers.{leftovers}
use Rattle.q_model.specs.Memory.{is_admitted}
use Rattle.q_model.specs.Message.{Message}
use Rattle.q_model.specs.Places.{is_active, is_incoming}
use Rattle.q_model.specs.Settings.{World}
use Rattle.q_model.specs.declared.id.Id.{Id}
use Rattle.q_model.specs.declared.rows.Place.{Place}
use Rattle.q_model.specs.declared.rows.Place.TheVariants as places

-- a message that moves out of active and of memory counts for nothing there, and the others as before
active_one : (l : Ledger) (id : Id) (place : Place) → is_active place ≡ false → is_admitted l id ≡ true → (m : Message) → (t : Bool) → id_eq m.id id ≡ t →
    (is_active (changed id (move_to place) m).place && not (is_admitted (with_files l l.book (without id l.admitted)) m.id)) ≡ (is_active m.place && not (is_admitted l m.id))
active_one l id place out adm m true e =
    ap (λ (x : Message). is_active x.place && not (is_admitted (with_files l l.book (without id l.admitted)) m.id)) (changed_same id (move_to place) m e)
    ∙ ap (λ z. z && not (is_admitted (with_files l l.book (without id l.admitted)) m.id)) out
    ∙ sym (ap (λ z. is_active m.place && not z) (ap (is_admitted l) (id_eq-true m.id id e) ∙ adm) ∙ none (is_active m.place))
  where
    none : (a : Bool) → (a && false) ≡ false
    none true = refl
    none false = refl
active_one l id place out adm m false e =
    ap (λ (x : Message). is_active x.place && not (is_admitted (with_files l l.book (without id l.admitted)) m.id)) (changed_other id (move_to place) m e)
    ∙ ap (λ z. is_active m.place && not z) (still_admitted id m.id l.admitted e)

-- the same messages are left by an earlier life
pub moved_left : {w : World} {l : Ledger} → IsConsistent w l → (id : Id) (place : Place) → is_active place ≡ false → is_admitted l id ≡ true → leftovers (with_files l (move_message l.book id place) (without id l.admitted)) ≡ leftovers l
moved_left {l = l} k id place out adm =
    let next : Ledger = with_files l (move_message l.book id place) (without id l.admitted) in
    let t = is_there k id adm in
    let mine = message_in l.book id t.message t.there in
    placed_joined is_active (λ i. not (is_admitted next i)) (λ i. not (is_admitted l i)) l.book (move_message l.book id place) refl
    (placed_mapped is_active (λ i. not (is_admitted next i)) (λ i. not (is_admitted l i)) (changed id (move_to place)) (changed_name id (move_to place) (λ x. refl)) l.book.messages
    (λ m h. active_one l id place out adm m (id_eq m.id id) refl))
    (λ i h. ap not (still_admitted id i l.admitted (not_bool (id_eq i id) (λ e. other t.message i mine.0 mine.1 h (id_eq-true i id e)))))
  where
    other : (m : Message) (i : Id) → IsIn m l.book.messages → m.id ≡ id → IsIn i (damaged_at is_active l.book) → i ≡ id → ⊥
    other m i there name h e =
        let one = in_unmap (λ (d : Damaged). d.id) i (filter (λ (d : Damaged). is_active d.place) l.book.damaged) h in
        not_damaged l.book k.book.distinct m one.0 there (in_filtered (λ (d : Damaged). is_active d.place) one.0 l.book.damaged one.1).0 (name ∙ sym e ∙ sym one.2)

-- the same messages stand in incoming
out_one : (b : Book) (id : Id) (place : Place) (m : Message) → are_distinct (all_ids b) ≡ true → message_of b id ≡ Some m → is_incoming m.place ≡ false → is_incoming place ≡ false → (x : Message) → IsIn x b.messages → (t : Bool) → id_eq x.id id ≡ t →
    (is_incoming (changed id (move_to place) x).place && true) ≡ (is_incoming x.place && true)
out_one b id place m distinct there away out x inside false e = ap (λ (y : Message). is_incoming y.place && true) (changed_other id (move_to place) x e)
out_one b id place m distinct there away out x inside true e =
    let mine = message_in b id m there in
    ap (λ (y : Message). is_incoming y.place && true) (changed_same id (move_to place) x e)
    ∙ ap (λ z. z && true) out
    ∙ sym (ap (λ z. z && true) (ap (λ (y : Message). is_incoming y.place) (only_message b distinct x m inside mine.0 (id_eq-true x.id id e ∙ sym mine.1)) ∙ away))

pub moved_out : (b : Book) (id : Id) (place : Place) (m : Message) → are_distinct (all_ids b) ≡ true → message_of b id ≡ Some m → is_incoming m.place ≡ false → is_incoming place ≡ false → ids_at is_incoming (move_message b id place) ≡ ids_at is_incoming b
moved_out b id place m distinct there away out =
    placed_all is_incoming b (move_message b id place) refl
    (placed_mapped is_incoming (λ i. true) (λ i. true) (changed id (move_to place)) (changed_name id (move_to place) (λ x. refl)) b.messages
    (λ x h. out_one b id place m distinct there away out x h (id_eq x.id id) refl))

active_away : (place : Place) → is_active place ≡ true → is_incoming place ≡ false
active_away places.Active h = refl
active_away places.Incoming h = cc
active_away (places.Deferred due) h = cc
active_away places.Hold h = cc
active_away places.Corrupt h = cc

pub defer_law : {w : World} {c d : Core} {l : Ledger} (id : Id) (due : ℕ) → HoldsRaw w c l → IsConsistent w l → may_defer w l id due ≡ true → IsPutOff c d id → HoldsRaw w d (after_defer l id due)
defer_law {w = w} {c = c} {d = d} {l = l} id due r k may p =
    let h = r.parts in
    let place = places.Deferred due in
    let b = move_message l.book id place in
    let rows = without id l.admitted in
    let next : Ledger = with_files l b rows in
    let adm = idle_admitted l id (and_parts _ _ may).0 in
    let t = is_there k id adm in
    let out = active_away t.message.place t.active in
    let apart : (i : Id) → IsIn i (all_ids l.book) → id_eq i id ≡ false → IsSameOf l.book b i = λ i inside other. moved_same l.book id place i other (no_bounce_of l.book k.book.orderly k.book.distinct id t.message t.there out i inside other) in
    let listed : (i : Id) → IsIn i (ids_at is_active l.book) → id_eq i id ≡ false → IsSameOf l.book b i = λ i inside other. apart i (placed_listed is_active l.book i inside) other in
    let slots : d.admitted ≡ map (slot_of next) rows = p.admitted ∙ rest_slots k id b listed c.admitted h.admitted in
    let active : IsSeen c.active (found_active next) = seen_same c.active (found_active next) (found_active l) (rest_active l id b rows adm listed (moved_left k id place refl adm)) h.active in
    let incoming : IsSeen c.incoming (found_incoming next) = seen_same c.incoming (found_incoming next) (found_incoming l) (incoming_same l b rows (moved_out l.book id place t.message k.book.distinct t.there out refl)
    (λ i inside. apart i (placed_listed is_incoming l.book i inside) (not_bool (id_eq i id) (λ e. never t.message i inside (id_eq-true i id e) out t.there)))) h.incoming in
    let raw : HoldsRaw w (record c { admitted = d.admitted; deferred = Unknown }) next = files_law b rows r refl (all_left l next (moved_left k id place refl adm)) slots active incoming tt in
    subst (λ x. HoldsRaw w x next) (sym p.rest) raw
  where
    never : (m : Message) (i : Id) → IsIn i (ids_at is_incoming l.book) → i ≡ id → is_incoming m.place ≡ false → message_of l.book id ≡ Some m → ⊥
    never m i inside e out there = let bad : true ≡ false = sym (message_at is_incoming l.book k.book.distinct id m (subst (λ j. IsIn j (ids_at is_incoming l.book)) e inside) there) ∙ out in absurd cc
