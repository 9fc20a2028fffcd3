-- The slot of a message that comes into memory.
use Rattle.std.proofs.Common.{◌≡◌, ℕ, Bool, true, false, List, [], ◌∷◌, ◌++◌, length, map, not, Some, option_map, inl, inr, refl, sym, ap, ◌∙◌, subst}
use Rattle.std.proofs.lemmas.Bool.{and_parts}
use Rattle.std.specs.List.{list_all}
use Rattle.std.specs.Option.{option_map_or}
use Rattle.std.specs.Prelude.{◌&&◌, ◌||◌, nat_le, nat_lt}
use Rattle.q_core.proofs.AdmitLaws.{IsComing, admitting, coming_listed, newcomer}
use Rattle.q_core.proofs.PendingLaws.{pending_count}
use Rattle.q_core.proofs.QueueLaws.{slots_same}
use Rattle.q_core.proofs.RestLaws.{admitted_active}
use Rattle.q_core.proofs.RuleLaws.{no_length}
use Rattle.q_core.proofs.SameLaws.{listed_stands, not_bool, stands_listed}
use Rattle.q_core.proofs.PickLaws.{found_on}
use Rattle.q_core.specs.Agrees.{found_at, slot_from, slot_of}
use Rattle.q_core.specs.Picking.{found_slot}
use Rattle.q_laws.proofs.Books.{message_in, message_listed, placed_listed}
use Rattle.q_laws.proofs.Distinct.{id_other, id_same}
use Rattle.q_laws.proofs.InPlace.{changed, changed_name, changed_same}
use Rattle.q_laws.proofs.Mapped.{find_mapped}
use Rattle.q_laws.proofs.Members.{IsIn, all_at}
use Rattle.q_laws.proofs.Moved.{move_to, moved_at}
use Rattle.q_laws.specs.Consistency.{IsConsistent}
use Rattle.q_model.specs.Book.{all_ids, ids_at, message_of, stands, stands_in}
use Rattle.q_model.specs.BookChanges.{move_message}
use Rattle.q_model.specs.Finishing.{has_bounce}
use Rattle.q_model.specs.Ids.{bounce_of, cause_of, id_eq}
use Rattle.q_model.specs.Ledger.{Ledger}
use Rattle.q_model.specs.Lists.{has_none}
use Rattle.q_model.specs.Message.{Message, unmarked_logged, written_marks}
use Rattle.q_model.specs.Orderly.{has_firm_failures, is_paired, is_sealed, is_sound}
use Rattle.q_model.specs.Places.{is_active, is_incoming}
use Rattle.q_model.specs.Settings.{World}
use Rattle.q_model.specs.declared.id.Id.{Id}
use Rattle.q_model.specs.declared.rows.Place.TheVariants as places

-- the message as it stands now
coming_message : (l : Ledger) (id : Id) (m : IsComing l id) → message_of (move_message l.book id places.Active) id ≡ Some (move_to places.Active m.message)
coming_message l id m =
    find_mapped (changed id (move_to places.Active)) (changed_name id (move_to places.Active) (λ x. refl)) id l.book.messages
    ∙ ap (option_map (changed id (move_to places.Active))) m.there
    ∙ ap Some (changed_same id (move_to places.Active) m.message (id_same m.message.id id (message_in l.book id m.message m.there).1))

-- it is sound
coming_sound : {w : World} {l : Ledger} → IsConsistent w l → (id : Id) (m : IsComing l id) → (has_none (unmarked_logged m.message) ≡ true) × (has_none (written_marks m.message) ≡ true)
coming_sound {l = l} k id m =
    let rest : Message → Bool = λ x. is_active x.place || is_sound x in
    let all = (and_parts (list_all (λ i. nat_le i.generation l.book.generation && is_paired l.book i) (all_ids l.book)) (list_all rest l.book.messages) k.book.orderly).1 in
    let sound : is_sound m.message ≡ true = sym (ap (λ b. b || is_sound m.message) m.out) ∙ all_at rest m.message l.book.messages all (message_in l.book id m.message m.there).0 in
    and_parts (has_none (unmarked_logged m.message)) (has_none (written_marks m.message)) (and_parts (has_none (unmarked_logged m.message) && has_none (written_marks m.message)) (has_firm_failures m.message) sound).0

pair_active : (a b s o : Bool) → a ≡ true → b ≡ true → (not a || not b || (s && o)) ≡ true → o ≡ true
pair_active a b s o ea eb h = (and_parts s o (sym (ap (λ x. not x || not b || (s && o)) ea ∙ ap (λ x. not x || (s && o)) eb) ∙ h)).1

abbrev bounce_with : Bool → Id → Id
bounce_with t i = record i { bounce = t }

-- its bounce doesn't stand in incoming
coming_unsaid : {w : World} {l : Ledger} → IsConsistent w l → (id : Id) (m : IsComing l id) → has_bounce (admitting l id) id ≡ false
coming_unsaid {l = l} k id m = not_bool (has_bounce (admitting l id) id) (λ h. elim (moved_at is_incoming l.book id (bounce_of id) places.Active m.message k.book.distinct m.there (stands_listed is_incoming (move_message l.book id places.Active) (bounce_of id) h)) [
  | inl old ↦ apart old.0 old.1 id.bounce refl
  | inr new ↦ let bad : false ≡ true = new.1 in absurd cc
])
  where
    apart : IsIn (bounce_of id) (ids_at is_incoming l.book) → id_eq (bounce_of id) id ≡ false → (t : Bool) → id.bounce ≡ t → ⊥
    apart inside other true e = id_other (bounce_of id) id other (ap (λ t. bounce_with t id) (sym e))
    apart inside other false e =
        let test : Id → Bool = λ i. nat_le i.generation l.book.generation && is_paired l.book i in
        let listed = placed_listed is_incoming l.book (bounce_of id) inside in
        let ids = (and_parts (list_all test (all_ids l.book)) (list_all (λ (x : Message). is_active x.place || is_sound x) l.book.messages) k.book.orderly).0 in
        let pair = (and_parts (nat_le id.generation l.book.generation) (is_paired l.book (bounce_of id)) (all_at test (bounce_of id) (all_ids l.book) ids listed)).1 in
        let mine = message_in l.book id m.message m.there in
        let cause : cause_of (bounce_of id) ≡ id = ap (λ t. bounce_with t id) (sym e) in
        let there : stands l.book (cause_of (bounce_of id)) ≡ true = ap (stands l.book) cause ∙ listed_stands l.book id (subst (λ i. IsIn i (all_ids l.book)) mine.1 (message_listed l.book m.message mine.0)) in
        let sealed = pair_active true (stands l.book (cause_of (bounce_of id))) (stands_in is_incoming l.book (bounce_of id)) (option_map_or (λ x. is_active x.place && is_sealed x) (message_of l.book (cause_of (bounce_of id))) false) refl there pair in
        let active = (and_parts (is_active m.message.place) (is_sealed m.message) (sym (ap (λ o. option_map_or (λ x. is_active x.place && is_sealed x) o false) (ap (message_of l.book) cause ∙ m.there)) ∙ sealed)).0 in
        let bad : true ≡ false = sym active ∙ m.out in
        absurd cc

no_marks : {A : Type 0} (xs : List A) → has_none xs ≡ true → 0 ≡ length xs
no_marks [] h = refl
no_marks (x ∷ xs) h = absurd cc

-- the slot that the look gives is the message's
pub coming_slot : {w : World} {l : Ledger} → IsConsistent w l → (id : Id) (due : ℕ) (m : IsComing l id) → found_slot (found_at l due id) ≡ slot_of (admitting l id) (newcomer id)
coming_slot {l = l} k id due m =
    let x = m.message in
    let y : Message = move_to places.Active x in
    let sound = coming_sound k id m in
    ap (λ o. found_slot (found_on l due id o)) m.there
    ∙ ap (λ n. record (slot_from (newcomer id) false (Some y)) { pending = n; marks = 0; logged = false; failed = nat_lt 0 (length x.failures) }) (sym (pending_count x sound.0))
    ∙ ap (λ n. record (slot_from (newcomer id) false (Some y)) { marks = n; logged = false; failed = nat_lt 0 (length x.failures) }) (no_marks (written_marks x) sound.1)
    ∙ ap (λ b. record (slot_from (newcomer id) false (Some y)) { logged = not b; failed = nat_lt 0 (length x.failures) }) (sym sound.0)
    ∙ ap (λ b. record (slot_from (newcomer id) false (Some y)) { failed = b }) (no_length x.failures)
    ∙ ap (slot_from (newcomer id) false) (sym (coming_message l id m))
    ∙ ap (λ b. slot_from (newcomer id) b (message_of (move_message l.book id places.Active) id)) (sym (coming_unsaid k id m))

joined : {A B : Type 0} (f : A → B) (xs : List A) (x : A) → map f xs ++ f x ∷ [] ≡ map f (xs ++ x ∷ [])
joined f [] x = refl
joined f (y ∷ ys) x = ap (λ zs. f y ∷ zs) (joined f ys x)

-- the slots with this one
pub coming_slots : {w : World} {l : Ledger} → IsConsistent w l → (id : Id) (due : ℕ) (m : IsComing l id) → map (slot_of l) l.admitted ++ found_slot (found_at l due id) ∷ [] ≡ map (slot_of (admitting l id)) (l.admitted ++ newcomer id ∷ [])
coming_slots {l = l} k id due m =
    ap (λ ss. ss ++ found_slot (found_at l due id) ∷ []) (slots_same l (move_message l.book id places.Active) (l.admitted ++ newcomer id ∷ []) l.admitted (λ a h. coming_listed l id m k.book.distinct a.id (admitted_active k a h)))
    ∙ ap (λ s. map (slot_of (admitting l id)) l.admitted ++ s ∷ []) (coming_slot k id due m)
    ∙ joined (slot_of (admitting l id)) l.admitted (newcomer id)
