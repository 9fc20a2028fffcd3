-- A message is removed.
use Rattle.std.proofs.Common.{◌≡◌, Bool, true, false, List, [], ◌∷◌, cond, map, filter, is_some, not, Option, Some, None, inl, inr, refl, sym, ap, ◌∙◌, subst}
use Rattle.std.proofs.lemmas.Bool.{and_parts}
use Rattle.std.specs.List.{list_any}
use Rattle.std.specs.Option.{option_map_or}
use Rattle.std.specs.Prelude.{◌&&◌, ◌||◌}
use Rattle.q_core.proofs.ChangeLaws.{seen_same}
use Rattle.q_core.proofs.DueLaws.{active_has_none, deferred_or_active, deferred_or_incoming, due_joined, due_kept, due_listed, due_name, one_queue, is_deferred}
use Rattle.q_core.proofs.HeldLaws.{IsThere}
use Rattle.q_core.proofs.PlacedLaws.{damaged_at, placed_joined, placed_kept}
use Rattle.q_core.proofs.SyncedLaws.{all_left, fewer_left, removed_fewer}
use Rattle.q_core.proofs.QueueLaws.{IsSameOf, files_law, slots_same, still_same, with_files}
use Rattle.q_core.proofs.RestLaws.{admitted_active, rest_active, rest_slots, still_admitted}
use Rattle.q_core.proofs.SameLaws.{no_bounce_of, not_bool, paired_incoming}
use Rattle.q_core.proofs.StepLaws.{HoldsRaw, IsStillSeen}
use Rattle.q_core.specs.Agrees.{IsSeen, found_active, slot_of}
use Rattle.q_core.specs.Changes.{IsSlotRemoved}
use Rattle.q_core.specs.declared.state.Core.{Core}
use Rattle.q_core.specs.declared.state.Seen.{Seen}
use Rattle.q_core.specs.declared.state.Seen.TheVariants.{Unknown}
use Rattle.q_laws.proofs.Books.{active_not_incoming, at_place, message_in, message_listed, not_damaged, only_message, placed_listed}
use Rattle.q_laws.proofs.Distinct.{id_other}
use Rattle.q_laws.proofs.Members.{IsIn, in_filtered, in_unmap, none_at}
use Rattle.q_laws.proofs.Moved.{other_left}
use Rattle.q_laws.specs.Consistency.{IsConsistent}
use Rattle.q_model.proofs.IdLaws.{id_eq-true}
use Rattle.q_model.specs.Admissions.{cause_gone}
use Rattle.q_model.specs.Book.{Book, Damaged, all_ids, damaged_of, ids_at, message_of, stands, stands_in}
use Rattle.q_model.specs.BookChanges.{remove_message}
use Rattle.q_model.specs.Finishing.{has_bounce, is_at_rest, is_done, wants_bounce, without}
use Rattle.q_model.specs.Ids.{are_distinct, bounce_of, cause_of, id_eq}
use Rattle.q_model.specs.Ledger.{Ledger}
use Rattle.q_model.specs.Leaving.{after_remove, may_remove}
use Rattle.q_model.specs.Leftovers.{leftovers}
use Rattle.q_model.specs.Memory.{is_admitted}
use Rattle.q_model.specs.Message.{Message}
use Rattle.q_model.specs.Places.{is_active, is_incoming}
use Rattle.q_model.specs.Scans.{deferred_names}
use Rattle.q_model.specs.Settings.{World}
use Rattle.q_model.specs.declared.id.Id.{Id}
use Rattle.q_model.specs.declared.rows.Admitted.{Admitted}
use Rattle.q_model.specs.declared.rows.DeferredName.{DeferredName}

-- the message that is removed stands in active
pub removable : (l : Ledger) (id : Id) → may_remove l id ≡ true → IsThere l id
removable l id h = on (message_of l.book id) refl h
  where
    on : (o : Option Message) → message_of l.book id ≡ o → option_map_or (λ m. is_active m.place && is_at_rest l id && is_done m && (not (wants_bounce m) || has_bounce l id)) o false ≡ true → IsThere l id
    on None e may = absurd cc
    on (Some m) e may =
        let three = and_parts (is_active m.place && is_at_rest l id && is_done m) (not (wants_bounce m) || has_bounce l id) may in
        let two = and_parts (is_active m.place && is_at_rest l id) (is_done m) three.0 in
        record { message = m; there = e; active = (and_parts (is_active m.place) (is_at_rest l id) two.0).0 }

pub removable_active : (l : Ledger) (id : Id) → IsThere l id → IsIn id (ids_at is_active l.book)
removable_active l id m = let mine = message_in l.book id m.message m.there in subst (λ i. IsIn i (ids_at is_active l.book)) mine.1 (at_place is_active l.book m.message mine.0 m.active)

-- a damaged file is another
damaged_apart : (l : Ledger) → are_distinct (all_ids l.book) ≡ true → (id : Id) → IsThere l id → (i : Id) → IsIn i (damaged_at is_active l.book) → i ≡ id → ⊥
damaged_apart l distinct id m i h e =
    let mine = message_in l.book id m.message m.there in
    let one = in_unmap (λ (d : Damaged). d.id) i (filter (λ (d : Damaged). is_active d.place) l.book.damaged) h in
    not_damaged l.book distinct m.message one.0 mine.0 (in_filtered (λ (d : Damaged). is_active d.place) one.0 l.book.damaged one.1).0 (mine.1 ∙ sym e ∙ sym one.2)

any_step : {X : Type 0} (p : X → Bool) (x : X) (xs : List X) (all b : Bool) → (b ≡ false → p x ≡ false) → list_any p xs ≡ all → list_any p (cond b (x ∷ xs) xs) ≡ (p x || all)
any_step p x xs all true h e = ap (λ z. p x || z) e
any_step p x xs all false h e = e ∙ sym (ap (λ z. z || all) (h refl))

-- what passes is never dropped
pub any_kept : {X : Type 0} (p t : X → Bool) → ((x : X) → t x ≡ false → p x ≡ false) → (xs : List X) → list_any p (filter t xs) ≡ list_any p xs
any_kept p t h [] = refl
any_kept p t h (x ∷ xs) = any_step p x (filter t xs) (list_any p xs) (t x) (h x) (any_kept p t h xs)

not_not : (b : Bool) → not b ≡ false → b ≡ true
not_not true h = refl
not_not false h = absurd cc

removed_incoming : (b : Book) (id i : Id) → id_eq i id ≡ false → stands_in is_incoming (remove_message b id) i ≡ stands_in is_incoming b i
removed_incoming b id i other =
    ap (λ z. z || list_any (λ (d : Damaged). id_eq d.id i && is_incoming d.place) b.damaged)
    (any_kept (λ (m : Message). id_eq m.id i && is_incoming m.place) (λ (m : Message). not (id_eq m.id id)) (λ m e.
    ap (λ z. z && is_incoming m.place) (not_bool (id_eq m.id i) (λ h. id_other i id other (sym (id_eq-true m.id i h) ∙ id_eq-true m.id id (not_not (id_eq m.id id) e))))) b.messages)

removed_alone : (b : Book) (id i : Id) → are_distinct (all_ids b) ≡ true → (t : Bool) → i.bounce ≡ t → (t ≡ true → id_eq (cause_of i) id ≡ false) → cause_gone (remove_message b id) i ≡ cause_gone b i
removed_alone b id i distinct false e h = ap (λ z. not (z && stands (remove_message b id) (cause_of i))) e ∙ sym (ap (λ z. not (z && stands b (cause_of i))) e)
removed_alone b id i distinct true e h = ap (λ (o : Option Message). not (i.bounce && (is_some o || is_some (damaged_of b (cause_of i))))) (other_left b id (cause_of i) distinct (h refl))

-- another message stays, where it isn't in incoming
pub removed_same : (l : Ledger) {w : World} → IsConsistent w l → (id : Id) → IsThere l id → (i : Id) → IsIn i (all_ids l.book) → (IsIn i (ids_at is_incoming l.book) → ⊥) → id_eq i id ≡ false → IsSameOf l.book (remove_message l.book id) i
removed_same l k id m i inside out other = record {
  message = other_left l.book id i k.book.distinct other;
  bounced = removed_incoming l.book id (bounce_of i) (no_bounce_of l.book k.book.orderly k.book.distinct id m.message m.there (not_bool (is_incoming m.message.place) (active_not_incoming m.message.place m.active)) i inside other);
  alone = removed_alone l.book id i k.book.distinct i.bounce refl (λ e. not_bool (id_eq (cause_of i) id) (λ h.
      let mine = message_in l.book id m.message m.there in
      let cause : IsIn (cause_of i) (all_ids l.book) = subst (λ j. IsIn j (all_ids l.book)) (mine.1 ∙ sym (id_eq-true (cause_of i) id h)) (message_listed l.book m.message mine.0) in
      out (paired_incoming l.book k.book.orderly i inside e cause)));
}

-- a message in active, but this one
pub removed_active : (l : Ledger) {w : World} → IsConsistent w l → (id : Id) → IsThere l id → (i : Id) → IsIn i (ids_at is_active l.book) → id_eq i id ≡ false → IsSameOf l.book (remove_message l.book id) i
removed_active l k id m i inside other = removed_same l k id m i (placed_listed is_active l.book i inside) (one_queue is_active is_incoming active_not_incoming l.book k.book.distinct i inside) other

-- a name in deferred
removed_due : (l : Ledger) {w : World} → IsConsistent w l → (id : Id) → IsThere l id → (n : DeferredName) → IsIn n (deferred_names l.book) → IsSameOf l.book (remove_message l.book id) n.id
removed_due l k id m n inside =
    let there = due_listed l.book n inside in
    removed_same l k id m n.id (placed_listed is_deferred l.book n.id there) (one_queue is_deferred is_incoming deferred_or_incoming l.book k.book.distinct n.id there)
    (not_bool (id_eq n.id id) (λ e. one_queue is_deferred is_active deferred_or_active l.book k.book.distinct n.id there (subst (λ i. IsIn i (ids_at is_active l.book)) (sym (id_eq-true n.id id e)) (removable_active l id m))))

-- the same names stand in deferred
removed_names : (l : Ledger) (id : Id) → are_distinct (all_ids l.book) ≡ true → IsThere l id → deferred_names (remove_message l.book id) ≡ deferred_names l.book
removed_names l id distinct m =
    due_joined l.book (remove_message l.book id) refl (due_kept (λ (x : Message). not (id_eq x.id id)) l.book.messages (λ x inside e.
    let mine = message_in l.book id m.message m.there in
    let same : x ≡ m.message = only_message l.book distinct x m.message inside mine.0 (id_eq-true x.id id (not_not (id_eq x.id id) e) ∙ sym mine.1) in
    ap due_name same ∙ active_has_none m.message m.message.place m.active))

pub removed_still : (seen : Seen) (l : Ledger) {w : World} → IsConsistent w l → (id : Id) → IsThere l id → (rows : List Admitted) → IsStillSeen seen l → IsStillSeen seen (with_files l (remove_message l.book id) rows)
removed_still seen l k id m rows h = still_same seen l (remove_message l.book id) rows (removed_names l id k.book.distinct m) (removed_due l k id m) h

-- the same messages are left by an earlier life
none_one : (l : Ledger) (id : Id) → is_admitted l id ≡ true → (m : Message) → (t : Bool) → id_eq m.id id ≡ t →
    (is_active m.place && not (id_eq m.id id) && not (is_admitted (with_files l l.book (without id l.admitted)) m.id)) ≡ (is_active m.place && not (is_admitted l m.id))
none_one l id adm m true e =
    ap (λ z. is_active m.place && not z && not (is_admitted (with_files l l.book (without id l.admitted)) m.id)) e
    ∙ none (is_active m.place)
    ∙ sym (ap (λ z. is_active m.place && not z) (ap (is_admitted l) (id_eq-true m.id id e) ∙ adm))
  where
    none : (a : Bool) → (a && false && not (is_admitted (with_files l l.book (without id l.admitted)) m.id)) ≡ (a && false)
    none true = refl
    none false = refl
none_one l id adm m false e =
    ap (λ z. is_active m.place && not z && not (is_admitted (with_files l l.book (without id l.admitted)) m.id)) e
    ∙ ap (λ z. is_active m.place && true && not z) (still_admitted id m.id l.admitted e)
    ∙ both (is_active m.place)
  where
    both : (a : Bool) → (a && true && not (is_admitted l m.id)) ≡ (a && not (is_admitted l m.id))
    both true = refl
    both false = refl

removed_left : {w : World} {l : Ledger} → IsConsistent w l → (id : Id) → IsThere l id → is_admitted l id ≡ true → leftovers (with_files l (remove_message l.book id) (without id l.admitted)) ≡ leftovers l
removed_left {l = l} k id m adm =
    let next : Ledger = with_files l (remove_message l.book id) (without id l.admitted) in
    placed_joined is_active (λ i. not (is_admitted next i)) (λ i. not (is_admitted l i)) l.book (remove_message l.book id) refl
    (placed_kept is_active (λ i. not (is_admitted next i)) (λ i. not (is_admitted l i)) (λ (x : Message). not (id_eq x.id id)) l.book.messages (λ x h. none_one l id adm x (id_eq x.id id) refl))
    (λ i h. ap not (still_admitted id i l.admitted (not_bool (id_eq i id) (λ e. damaged_apart l k.book.distinct id m i h (id_eq-true i id e)))))

-- a message in memory is removed
pub remove_law : {w : World} {c d : Core} {l : Ledger} (id : Id) → HoldsRaw w c l → IsConsistent w l → is_admitted l id ≡ true → may_remove l id ≡ true → IsSlotRemoved c d id → HoldsRaw w d (after_remove l id)
remove_law {w = w} {c = c} {d = d} {l = l} id r k adm may p =
    let h = r.parts in
    let b = remove_message l.book id in
    let rows = without id l.admitted in
    let next : Ledger = with_files l b rows in
    let m = removable l id may in
    let slots : d.admitted ≡ map (slot_of next) rows = p.admitted ∙ rest_slots k id b (removed_active l k id m) c.admitted h.admitted in
    let active : IsSeen c.active (found_active next) = seen_same c.active (found_active next) (found_active l) (rest_active l id b rows adm (removed_active l k id m) (removed_left k id m adm)) h.active in
    let raw : HoldsRaw w (record c { admitted = d.admitted; incoming = Unknown }) next = files_law b rows r refl (all_left l next (removed_left k id m adm)) slots active tt (removed_still c.deferred l k id m rows r.seen) in
    subst (λ x. HoldsRaw w x next) (sym p.rest) raw

without_none : (id : Id) (xs : List Admitted) → list_any (λ (a : Admitted). id_eq a.id id) xs ≡ false → without id xs ≡ xs
without_none id xs h = filter_all_in (λ (a : Admitted). not (id_eq a.id id)) xs (λ a k. ap not (none_at (λ (x : Admitted). id_eq x.id id) a xs h k))
  where
    filter_all_in : (p : Admitted → Bool) (ys : List Admitted) → ((a : Admitted) → IsIn a ys → p a ≡ true) → filter p ys ≡ ys
    filter_all_in p [] g = refl
    filter_all_in p (y ∷ ys) g = ap (λ b. cond b (y ∷ filter p ys) (filter p ys)) (g y (inl refl)) ∙ ap (λ zs. y ∷ zs) (filter_all_in p ys (λ a j. g a (inr j)))

-- a message that an earlier life left is removed
pub remove_left_law : {w : World} {c : Core} {l : Ledger} (id : Id) → HoldsRaw w c l → IsConsistent w l → is_admitted l id ≡ false → may_remove l id ≡ true → HoldsRaw w (record c { active = Unknown; incoming = Unknown }) (after_remove l id)
remove_left_law {w = w} {c = c} {l = l} id r k gone may =
    let h = r.parts in
    let b = remove_message l.book id in
    let m = removable l id may in
    let other : (a : Admitted) → IsIn a l.admitted → id_eq a.id id ≡ false = λ a inside. none_at (λ (x : Admitted). id_eq x.id id) a l.admitted gone inside in
    let slots : c.admitted ≡ map (slot_of (with_files l b l.admitted)) l.admitted = h.admitted ∙ slots_same l b l.admitted l.admitted (λ a inside. removed_active l k id m a.id (admitted_active k a inside) (other a inside)) in
    let raw : HoldsRaw w (record c { active = Unknown; incoming = Unknown }) (with_files l b l.admitted) = files_law b l.admitted r refl (fewer_left l b (removed_fewer l.book id)) slots tt tt (removed_still c.deferred l k id m l.admitted r.seen) in
    subst (λ xs. HoldsRaw w (record c { active = Unknown; incoming = Unknown }) (with_files l b xs)) (sym (without_none id l.admitted gone)) raw
