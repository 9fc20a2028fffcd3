-- What fits together still does as a leftover goes back to incoming and as a damaged file goes to corrupt.
use Rattle.std.proofs.Common.{◌≡◌, Bool, true, false, not, is_some, Option, Some, None, inl, inr, refl, sym, ap, ◌∙◌, if◌then◌else◌}
use Rattle.std.proofs.lemmas.Bool.{and_parts, not-true}
use Rattle.std.specs.List.{list_all}
use Rattle.std.specs.Option.{option_map_or}
use Rattle.std.specs.Prelude.{◌&&◌, ◌||◌}
use Rattle.q_laws.proofs.Added.{shifted_at, shifted_ids, shifted_orderly}
use Rattle.q_laws.proofs.Books.{left_parts, left_active}
use Rattle.q_laws.proofs.Finished.{leave_order}
use Rattle.q_laws.proofs.InPlace.{change_book}
use Rattle.q_laws.proofs.Members.{IsIn, all_weaker, any_from}
use Rattle.q_laws.proofs.Moved.{move_to, moved_at, other_moved}
use Rattle.q_laws.proofs.Places.{none_of}
use Rattle.q_laws.proofs.Quiet.{otherwise_ready, still_come}
use Rattle.q_laws.proofs.Tidied.{IsReady, after_consistent}
use Rattle.q_laws.proofs.Synced.{mine_or_not}
use Rattle.q_laws.proofs.Unmarked.{pending_not_sealed}
use Rattle.q_laws.specs.Consistency.{IsConsistent, has_come}
use Rattle.q_model.specs.Admissions.{cause_gone, has_room}
use Rattle.q_model.specs.Book.{Book, all_ids, damaged_of, message_of}
use Rattle.q_model.specs.BookChanges.{move_damaged, move_message}
use Rattle.q_model.specs.Finishing.{is_clean}
use Rattle.q_model.specs.Ids.{are_distinct, id_eq}
use Rattle.q_model.specs.Leaving.{may_back, may_corrupt}
use Rattle.q_model.specs.Ledger.{Ledger}
use Rattle.q_model.specs.Leftovers.{is_leftover, is_next_leftover, was_synced}
use Rattle.q_model.specs.Lists.{has_none}
use Rattle.q_model.specs.Memory.{is_admitted}
use Rattle.q_model.specs.Message.{Message, pending, unmarked_logged}
use Rattle.q_model.specs.Orderly.{has_firm_failures}
use Rattle.q_model.specs.Places.{is_active}
use Rattle.q_model.specs.Settings.{World}
use Rattle.q_model.specs.Step.{after, noted}
use Rattle.q_model.specs.Alternation.{Pick, from_deferred, from_incoming, is_pick, passed, pick, after_pick}
use Rattle.q_model.specs.declared.entry.Entry.{Entry}
use Rattle.q_model.specs.declared.id.Id.{Id}
use Rattle.q_model.specs.declared.rows.Admitted.{Admitted}
use Rattle.q_model.specs.declared.entry.Entry.TheVariants as entries
use Rattle.q_model.specs.declared.rows.Place.TheVariants as places
use Rattle.q_laws.proofs.Besides.{book_ready, with_book}

-- ---- back

back_ready : (w : World) (l : Ledger) (id : Id) (o : Option Message) → IsConsistent w l → is_leftover l id ≡ true → message_of l.book id ≡ o → option_map_or (λ m. has_none (unmarked_logged m) && is_clean m && not (has_none (pending m))) o false ≡ true →
    IsReady w (with_book l (move_message l.book id places.Incoming) (entries.Back id))
back_ready w l id None c left there may = absurd cc
back_ready w l id (Some m) c left there may =
    let e = entries.Back id in
    let b = move_message l.book id places.Incoming in
    let two = and_parts (has_none (unmarked_logged m) && is_clean m) (not (has_none (pending m))) may in
    let one = and_parts (has_none (unmarked_logged m)) (is_clean m) two.0 in
    let book = change_book l id (move_to places.Incoming) l.unsettled l.synced e c.book
    (leave_order l id places.Incoming m c.book there (left_active l c.book.distinct id m left there) (pending_not_sealed m two.1) (none_of (unmarked_logged m) one.0) one.1)
    (λ x inside firm. mine_or_not id (move_to places.Incoming) x (λ y. has_firm_failures y ≡ true) (λ k. firm) (λ k. firm)) in
    let out : is_admitted l id ≡ false = not-true (is_admitted l id) (left_parts l id left).1 in
    book_ready w l b e c (λ i k. record { admit = refl; start = refl; charge = refl })
    (record { distinct = book.distinct; orderly = book.orderly; firm = book.firm; come = book.come })
    (λ a inside. other_moved l.book id a.id (move_to places.Incoming) (λ x. refl) (apart a inside out (id_eq a.id id) refl))
    (λ i old new. elim (moved_at is_active l.book id i places.Incoming m c.book.distinct there (left_parts (with_book l b e) i new).0) [
      | inl was ↦ other_moved l.book id i (move_to places.Incoming) (λ x. refl) was.1
      | inr moved ↦ let bad : false ≡ true = moved.1 in absurd cc
    ])
    (λ i inside. elim (moved_at is_active l.book id i places.Incoming m c.book.distinct there inside) [
      | inl was ↦ was.0
      | inr moved ↦ let bad : false ≡ true = moved.1 in absurd cc
    ])
  where
    apart : (a : Admitted) → IsIn a l.admitted → is_admitted l id ≡ false → (t : Bool) → id_eq a.id id ≡ t → t ≡ false
    apart a inside out false k = refl
    apart a inside out true k = let bad : true ≡ false = sym (any_from (λ (x : Admitted). id_eq x.id id) a l.admitted inside k) ∙ out in absurd cc

-- a leftover goes back to incoming
pub back_consistent : (w : World) (l : Ledger) (id : Id) → IsConsistent w l → may_back l id ≡ true → IsConsistent w (after w l (entries.Back id))
back_consistent w l id c may =
    let two = and_parts (is_leftover l id && was_synced l id) (option_map_or (λ m. has_none (unmarked_logged m) && is_clean m && not (has_none (pending m))) (message_of l.book id) false) may in
    after_consistent w l (entries.Back id) (back_ready w l id (message_of l.book id) c (and_parts (is_leftover l id) (was_synced l id) two.0).0 refl two.1)

-- ---- corrupt

corrupt_ready : (w : World) (l : Ledger) (id : Id) → IsConsistent w l → cause_gone l.book id ≡ true → IsReady w (with_book l (move_damaged l.book id places.Corrupt) (entries.Corrupt id))
corrupt_ready w l id c gone =
    let e = entries.Corrupt id in
    let b = move_damaged l.book id places.Corrupt in
    let same : all_ids b ≡ all_ids l.book = shifted_ids l.book id places.Corrupt in
    book_ready w l b e c (λ i k. record { admit = refl; start = refl; charge = refl })
    (record {
      distinct = ap are_distinct same ∙ c.book.distinct;
      orderly = shifted_orderly l.book id places.Corrupt gone c.book.orderly;
      firm = c.book.firm;
      come = ap (list_all (has_come (noted e l))) same ∙ all_weaker (has_come l) (has_come (noted e l)) (all_ids l.book) (λ i inside h. still_come l e i h) c.book.come;
    })
    (λ a inside. refl) (λ i old new. refl) (λ i inside. shifted_at is_active l.book id i places.Corrupt refl inside)

turned : (w : World) (l : Ledger) (b : Book) (e : Entry) (p : Pick) → IsReady w (with_book l b e) → IsReady w (noted e (record (passed p l) { book = b }))
turned w l b e (from_incoming id) h = otherwise_ready w (with_book l b e) l.now l.timed l.next_run l.scan l.asked l.ignores true l.served l.sites h
turned w l b e (from_deferred name) h = otherwise_ready w (with_book l b e) l.now l.timed l.next_run (passed (from_deferred name) l).scan l.asked l.ignores false l.served l.sites h

-- the other queue follows, and the scan goes on
picked_ready : (w : World) (l : Ledger) (b : Book) (e : Entry) (o : Option Pick) → IsReady w (with_book l b e) → IsReady w (noted e (record (option_map_or (λ p. passed p l) o l) { book = b }))
picked_ready w l b e None h = h
picked_ready w l b e (Some p) h = turned w l b e p h

corrupt_on : (w : World) (l : Ledger) (b : Book) (e : Entry) (t : Bool) → IsReady w (with_book l b e) → IsReady w (noted e (record (if t then l else after_pick l) { book = b }))
corrupt_on w l b e true h = h
corrupt_on w l b e false h = picked_ready w l b e (pick l) h

-- a damaged file goes to corrupt
pub corrupt_consistent : (w : World) (l : Ledger) (id : Id) → IsConsistent w l → may_corrupt w l id ≡ true → IsConsistent w (after w l (entries.Corrupt id))
corrupt_consistent w l id c may =
    let gone = (and_parts (is_some (damaged_of l.book id) && (is_next_leftover l id || (has_room w l && is_pick l id))) (cause_gone l.book id) may).1 in
    after_consistent w l (entries.Corrupt id) (corrupt_on w l (move_damaged l.book id places.Corrupt) (entries.Corrupt id) (is_next_leftover l id) (corrupt_ready w l id c gone))
