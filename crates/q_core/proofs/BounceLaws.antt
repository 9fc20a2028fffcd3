-- The bounce of a message is stored.
use Rattle.std.proofs.Common.{◌≡◌, Bool, true, false, List, [], ◌∷◌, ◌++◌, map, not, Option, Some, None, inl, inr, refl, sym, ap, ◌∙◌, subst}
use Rattle.std.proofs.lemmas.Bool.{and_from, and_parts, not-true, or_left}
use Rattle.std.specs.List.{list_any}
use Rattle.std.specs.Option.{option_map_or}
use Rattle.std.specs.Prelude.{◌&&◌, is_none, if◌then◌else◌}
use Rattle.q_core.proofs.AddedLaws.{added_left, added_same, added_still}
use Rattle.q_core.proofs.ChangeLaws.{seen_same}
use Rattle.q_core.proofs.DueLaws.{deferred_or_active, one_queue, is_deferred}
use Rattle.q_core.proofs.SyncedLaws.{all_left}
use Rattle.q_core.proofs.QueueLaws.{IsSameOf, files_law, slot_same, slots_same, with_files}
use Rattle.q_core.proofs.RestLaws.{admitted_active, rest_active}
use Rattle.q_core.proofs.SameLaws.{not_bool}
use Rattle.q_core.proofs.StepLaws.{HasRowsOf, HoldsRaw, IsStillSeen}
use Rattle.q_core.specs.Agrees.{IsSeen, found_active, slot_from, slot_of}
use Rattle.q_core.specs.Changes.{IsBounced}
use Rattle.q_pool.specs.Slots.{changed_at, with_bounce}
use Rattle.q_core.specs.declared.state.Core.{Core}
use Rattle.q_core.specs.declared.state.Seen.{Seen}
use Rattle.q_core.specs.declared.state.Seen.TheVariants.{Unknown}
use Rattle.q_laws.proofs.Added.{IsAddable, still_found}
use Rattle.q_laws.proofs.Arrived.{bounce_addable}
use Rattle.q_laws.proofs.Books.{at_place, message_in, placed_listed}
use Rattle.q_laws.proofs.Distinct.{id_other, id_same}
use Rattle.q_laws.proofs.Members.{IsIn, any_from, in_right, none_at}
use Rattle.q_laws.specs.Consistency.{IsConsistent}
use Rattle.q_model.proofs.IdLaws.{id_eq-true}
use Rattle.q_model.specs.Book.{Damaged, all_ids, ids_at, message_of}
use Rattle.q_model.specs.BookChanges.{add_message}
use Rattle.q_model.specs.Bounces.{after_bounce, may_bounce}
use Rattle.q_model.specs.Finishing.{has_bounce, is_at_rest, is_done, wants_bounce}
use Rattle.q_model.specs.Ids.{bounce_of, cause_of, id_eq}
use Rattle.q_model.specs.Ledger.{Ledger}
use Rattle.q_model.specs.Lists.{has_none}
use Rattle.q_model.specs.Memory.{is_admitted}
use Rattle.q_model.specs.Message.{Message}
use Rattle.q_model.specs.Notices.{bounce_message}
use Rattle.q_model.specs.Places.{is_active, is_incoming}
use Rattle.q_model.specs.Settings.{World}
use Rattle.q_model.specs.declared.id.Id.{Id}
use Rattle.q_model.specs.declared.rows.Admitted.{Admitted}

-- the message stands in active, and its bounce may be added
pub record IsBounceable (l : Ledger) (id : Id) : Type 0 where
  pub message : Message
  pub there : message_of l.book id ≡ Some message
  pub name : message.id ≡ id
  pub active : is_active message.place ≡ true
  pub addable : IsAddable l.book (bounce_message l.now message)
  pub alone : id.bounce ≡ false

bounceable : {w : World} {l : Ledger} → IsConsistent w l → (id : Id) → may_bounce l id ≡ true → IsBounceable l id
bounceable {l = l} k id h = on (message_of l.book id) refl h
  where
    on : (o : Option Message) → message_of l.book id ≡ o → option_map_or (λ m. is_active m.place && is_at_rest l id && is_done m && wants_bounce m && not (has_bounce l id)) o false ≡ true → IsBounceable l id
    on None e may = absurd cc
    on (Some m) e may =
        let mine = message_in l.book id m e in
        let four = and_parts (is_active m.place && is_at_rest l id && is_done m && wants_bounce m) (not (has_bounce l id)) may in
        let three = and_parts (is_active m.place && is_at_rest l id && is_done m) (wants_bounce m) four.0 in
        let two = and_parts (is_active m.place && is_at_rest l id) (is_done m) three.0 in
        let one = and_parts (is_active m.place) (is_at_rest l id) two.0 in
        let alone : m.id.bounce ≡ false = not-true m.id.bounce (and_parts (not (has_none m.failures) && not (is_none m.sender)) (not m.id.bounce) three.1).1 in
        let unsaid : has_bounce l m.id ≡ false = ap (has_bounce l) mine.1 ∙ not-true (has_bounce l id) four.1 in
        record {
          message = m;
          there = e;
          name = mine.1;
          active = one.0;
          addable = bounce_addable l m k.book (ap (message_of l.book) mine.1 ∙ e) one.0 two.1 alone unsaid;
          alone = ap (λ (i : Id). i.bounce) (sym mine.1) ∙ alone;
        }

abbrev bounce_with : Bool → Id → Id
bounce_with t i = record i { bounce = t }

-- the bounce is of no other message
bounce_other : (l : Ledger) (id : Id) (m : IsBounceable l id) → (i : Id) → IsIn i (all_ids l.book) → id_eq i id ≡ false → id_eq (bounce_of m.message.id) (bounce_of i) ≡ false
bounce_other l id m i inside other = not_bool (id_eq (bounce_of m.message.id) (bounce_of i)) (λ e. apart (id_eq-true (bounce_of m.message.id) (bounce_of i) e) i.bounce refl)
  where
    apart : bounce_of m.message.id ≡ bounce_of i → (t : Bool) → i.bounce ≡ t → ⊥
    apart same true e = m.addable.new (subst (λ j. IsIn j (all_ids l.book)) (ap (λ t. bounce_with t i) e ∙ sym same) inside)
    apart same false e = id_other i id other (ap (λ t. bounce_with t i) e ∙ ap cause_of (sym same) ∙ ap cause_of (ap bounce_of m.name) ∙ ap (λ t. bounce_with t id) (sym m.alone))

-- another message stays
bounced_same : (l : Ledger) (id : Id) (m : IsBounceable l id) → (i : Id) → IsIn i (all_ids l.book) → id_eq i id ≡ false → IsSameOf l.book (add_message l.book (bounce_message l.now m.message)) i
bounced_same l id m i inside other = added_same l.book (bounce_message l.now m.message) m.addable i inside (bounce_other l id m i inside other)

bounced_listed : (l : Ledger) (id : Id) (m : IsBounceable l id) → (i : Id) → IsIn i (ids_at is_active l.book) → id_eq i id ≡ false → IsSameOf l.book (add_message l.book (bounce_message l.now m.message)) i
bounced_listed l id m i inside other = bounced_same l id m i (placed_listed is_active l.book i inside) other

bounced_still : (seen : Seen) (l : Ledger) {w : World} → IsConsistent w l → (id : Id) (m : IsBounceable l id) → IsStillSeen seen l → IsStillSeen seen (with_files l (add_message l.book (bounce_message l.now m.message)) l.admitted)
bounced_still seen l k id m h = added_still seen l (bounce_message l.now m.message) refl (λ i inside. bounced_same l id m i (placed_listed is_deferred l.book i inside) (not_bool (id_eq i id) (λ e.
    let mine = message_in l.book id m.message m.there in
    one_queue is_deferred is_active deferred_or_active l.book k.book.distinct i inside (subst (λ j. IsIn j (ids_at is_active l.book)) (mine.1 ∙ sym (id_eq-true i id e)) (at_place is_active l.book m.message mine.0 m.active))))) h

-- the bounce stands in incoming
bounce_there : (l : Ledger) (id : Id) (m : IsBounceable l id) → has_bounce (with_files l (add_message l.book (bounce_message l.now m.message)) l.admitted) id ≡ true
bounce_there l id m =
    let x = bounce_message l.now m.message in
    let test : Message → Bool = λ y. id_eq y.id (bounce_of id) && is_incoming y.place in
    or_left (list_any test (l.book.messages ++ x ∷ [])) (list_any (λ (d : Damaged). id_eq d.id (bounce_of id) && is_incoming d.place) l.book.damaged)
    (any_from test x (l.book.messages ++ x ∷ []) (in_right x l.book.messages (x ∷ []) (inl refl)) (and_from (id_eq x.id (bounce_of id)) true (id_same x.id (bounce_of id) (ap bounce_of m.name)) refl))

-- the slots, of which this one has a bounce now
bounced_slots : (l : Ledger) (id : Id) (m : IsBounceable l id) → (xs : List Admitted) → ((a : Admitted) → IsIn a xs → IsIn a.id (ids_at is_active l.book)) →
    map (changed_at id with_bounce) (map (slot_of l) xs) ≡ map (slot_of (with_files l (add_message l.book (bounce_message l.now m.message)) l.admitted)) xs
bounced_slots l id m [] h = refl
bounced_slots l id m (a ∷ xs) h =
    ap (λ s. s ∷ map (changed_at id with_bounce) (map (slot_of l) xs)) (one (id_eq a.id id) refl)
    ∙ ap (λ ss. slot_of (with_files l (add_message l.book (bounce_message l.now m.message)) l.admitted) a ∷ ss) (bounced_slots l id m xs (λ x k. h x (inr k)))
  where
    one : (t : Bool) → id_eq a.id id ≡ t → (if t then with_bounce (slot_of l a) else slot_of l a) ≡ slot_of (with_files l (add_message l.book (bounce_message l.now m.message)) l.admitted) a
    one false e = slot_same l (add_message l.book (bounce_message l.now m.message)) l.admitted a (bounced_listed l id m a.id (h a (inl refl)) e)
    one true e =
        let next : Ledger = with_files l (add_message l.book (bounce_message l.now m.message)) l.admitted in
        let same = id_eq-true a.id id e in
        let said : has_bounce next a.id ≡ true = ap (has_bounce next) same ∙ bounce_there l id m in
        let still : message_of next.book a.id ≡ message_of l.book a.id = ap (message_of next.book) same ∙ still_found l.book (bounce_message l.now m.message) id m.message m.there ∙ sym (ap (message_of l.book) same ∙ m.there) in
        ap (slot_from a true) (sym still) ∙ ap (λ x. slot_from a x (message_of next.book a.id)) (sym said)

bounced_is : (l : Ledger) (id : Id) (m : IsBounceable l id) → after_bounce l id ≡ with_files l (add_message l.book (bounce_message l.now m.message)) l.admitted
bounced_is l id m = ap (λ o. option_map_or (λ x. record l { book = add_message l.book (bounce_message l.now x) }) o l) m.there

-- of a message in memory
pub bounce_law : {w : World} {c d : Core} {l : Ledger} (id : Id) → HoldsRaw w c l → IsConsistent w l → is_admitted l id ≡ true → may_bounce l id ≡ true → IsBounced c d id → HoldsRaw w d (after_bounce l id)
bounce_law {w = w} {c = c} {d = d} {l = l} id r k adm may p =
    let h = r.parts in
    let m = bounceable k id may in
    let b = add_message l.book (bounce_message l.now m.message) in
    let next : Ledger = with_files l b l.admitted in
    let slots : d.admitted ≡ map (slot_of next) l.admitted = p.admitted ∙ ap (map (changed_at id with_bounce)) h.admitted ∙ bounced_slots l id m l.admitted (admitted_active k) in
    let active : IsSeen c.active (found_active next) = seen_same c.active (found_active next) (found_active l) (rest_active l id b l.admitted adm (bounced_listed l id m) (added_left l (bounce_message l.now m.message) refl)) h.active in
    let raw : HoldsRaw w (record c { admitted = d.admitted; incoming = Unknown }) next = files_law b l.admitted r refl (all_left l next (added_left l (bounce_message l.now m.message) refl)) slots active tt (bounced_still c.deferred l k id m r.seen) in
    subst (λ x. HoldsRaw w d x) (sym (bounced_is l id m)) (subst (λ x. HoldsRaw w x next) (sym p.rest) raw)

-- of a message that an earlier life left
pub bounce_left_law : {w : World} {c : Core} {l : Ledger} (id : Id) → HoldsRaw w c l → IsConsistent w l → is_admitted l id ≡ false → may_bounce l id ≡ true → HoldsRaw w (record c { active = Unknown; incoming = Unknown }) (after_bounce l id)
bounce_left_law {w = w} {c = c} {l = l} id r k gone may =
    let h = r.parts in
    let m = bounceable k id may in
    let b = add_message l.book (bounce_message l.now m.message) in
    let next : Ledger = with_files l b l.admitted in
    let slots : c.admitted ≡ map (slot_of next) l.admitted = h.admitted ∙ slots_same l b l.admitted l.admitted (λ a inside. bounced_listed l id m a.id (admitted_active k a inside) (none_at (λ (x : Admitted). id_eq x.id id) a l.admitted gone inside)) in
    let raw : HoldsRaw w (record c { active = Unknown; incoming = Unknown }) next = files_law b l.admitted r refl (all_left l next (added_left l (bounce_message l.now m.message) refl)) slots tt tt (bounced_still c.deferred l k id m r.seen) in
    subst (λ x. HoldsRaw w (record c { active = Unknown; incoming = Unknown }) x) (sym (bounced_is l id m)) raw

-- no row moves
rows_on : (l : Ledger) (o : Option Message) → HasRowsOf l (option_map_or (λ m. record l { book = add_message l.book (bounce_message l.now m) }) o l)
rows_on l None = record { waiting = refl; flights = refl }
rows_on l (Some m) = record { waiting = refl; flights = refl }

pub bounce_rows : (l : Ledger) (id : Id) → HasRowsOf l (after_bounce l id)
bounce_rows l id = rows_on l (message_of l.book id)
