-- What fits together still does as the book changes beside the messages in memory.
use Rattle.std.proofs.Common.{◌≡◌, ◌-◌, Bool, true, false, [], ◌∷◌, length, Option, Some, None, inl, inr, refl, sym, ap, ◌∙◌, subst}
use Rattle.std.proofs.lemmas.Bool.{and_from}
use Rattle.std.specs.List.{list_all}
use Rattle.std.specs.Option.{option_map_or}
use Rattle.std.specs.Prelude.{◌==◌, nat_le}
use Rattle.q_laws.proofs.Added.{IsAddable, added_at, added_distinct, added_ids, added_orderly, other_found, still_found}
use Rattle.q_laws.proofs.Books.{left_from, left_parts, placed_listed}
use Rattle.q_laws.proofs.Leaving.{well_still}
use Rattle.q_laws.proofs.NextLeft.{still_next}
use Rattle.q_laws.proofs.Members.{IsIn, all_append, all_at, all_from, all_weaker, find_in}
use Rattle.q_laws.proofs.Quiet.{IsQuiet, account_kept, begun_noted, still_come}
use Rattle.q_laws.proofs.Tidied.{IsReady}
use Rattle.q_laws.specs.Consistency.{IsBookConsistent, IsConsistent, has_come, is_present, is_synced_well, is_within}
use Rattle.q_model.proofs.IdLaws.{id_eq-true}
use Rattle.q_model.specs.Book.{Book, all_ids, ids_at, message_of}
use Rattle.q_model.specs.BookChanges.{add_message}
use Rattle.q_model.specs.Ids.{id_eq}
use Rattle.q_model.specs.Ledger.{Ledger}
use Rattle.q_model.specs.Leftovers.{is_leftover}
use Rattle.q_model.specs.Memory.{admitted_of, unread_count, unread_of}
use Rattle.q_model.specs.Message.{Message}
use Rattle.q_model.specs.Orderly.{has_firm_failures}
use Rattle.q_model.specs.Places.{is_active}
use Rattle.q_model.specs.Settings.{World}
use Rattle.q_model.specs.Step.{noted}
use Rattle.q_model.specs.declared.entry.Entry.{Entry}
use Rattle.q_model.specs.declared.id.Id.{Id}
use Rattle.q_model.specs.declared.rows.Admitted.{Admitted}

-- the ledger with this book
abbrev pub with_book : Ledger → Book → Entry → Ledger
with_book l b e = record l { book = b; past = e ∷ l.past }

same_unread : (l : Ledger) (b : Book) (e : Entry) (i : Id) → ((a : Admitted) → IsIn a l.admitted → message_of b a.id ≡ message_of l.book a.id) → unread_of (with_book l b e) i ≡ unread_of l i
same_unread l b e i same = on (admitted_of l i) refl
  where
    on : (o : Option Admitted) → admitted_of l i ≡ o → option_map_or (λ (a : Admitted). unread_count (with_book l b e) a) o 0 ≡ option_map_or (λ (a : Admitted). unread_count l a) o 0
    on None f = refl
    on (Some a) f = ap (λ (o : Option Message). option_map_or (λ m. length m.recipients - a.unread) o 0) (same a (find_in (λ (x : Admitted). id_eq x.id i) a l.admitted f).0)

-- a leftover of the new book was one of the old
book_left : (l : Ledger) (b : Book) (e : Entry) → ((i : Id) → IsIn i (ids_at is_active b) → IsIn i (ids_at is_active l.book)) → (i : Id) → is_leftover (with_book l b e) i ≡ true → is_leftover l i ≡ true
book_left l b e active i left = let parts = left_parts (with_book l b e) i left in left_from l i (active i parts.0) parts.1

-- those that were synced well still are, where a leftover was one and is as it was
book_well : (l : Ledger) (b : Book) (e : Entry) → ((i : Id) → is_leftover l i ≡ true → is_leftover (with_book l b e) i ≡ true → message_of b i ≡ message_of l.book i) → ((i : Id) → IsIn i (ids_at is_active b) → IsIn i (ids_at is_active l.book)) →
    list_all (is_synced_well l) l.synced ≡ true → list_all (is_synced_well (with_book l b e)) l.synced ≡ true
book_well l b e still active h = all_weaker (is_synced_well l) (is_synced_well (with_book l b e)) l.synced (λ i inside well. well_still l (with_book l b e) i (λ left.
    let old = book_left l b e active i left in
    (old, still i old left)) well) h

-- the ledger is ready where the messages in memory and the leftovers stay as they are, but for leftovers that go
pub book_ready : (w : World) (l : Ledger) (b : Book) (e : Entry) → IsConsistent w l → IsQuiet e → IsBookConsistent (with_book l b e) → ((a : Admitted) → IsIn a l.admitted → message_of b a.id ≡ message_of l.book a.id) →
    ((i : Id) → is_leftover l i ≡ true → is_leftover (with_book l b e) i ≡ true → message_of b i ≡ message_of l.book i) → ((i : Id) → IsIn i (ids_at is_active b) → IsIn i (ids_at is_active l.book)) → IsReady w (with_book l b e)
book_ready w l b e c quiet book same still active =
    let m = c.memory in
    let k = with_book l b e in
    record {
      usable = c.usable;
      book = book;
      memory = record {
        admitted = m.admitted;
        present = all_weaker (is_present l) (is_present k) l.admitted (λ a inside h. ap (λ (o : Option Message). option_map_or (λ x. is_active x.place) o false) (same a inside) ∙ h) m.present;
        within = all_weaker (is_within l) (is_within k) l.admitted (λ a inside h. ap (λ (o : Option Message). option_map_or (λ x. nat_le a.unread (length x.recipients)) o false) (same a inside) ∙ h) m.within;
        waiting = m.waiting;
        filled = m.filled;
        flights = m.flights;
        unsettled = m.unsettled;
        remembered = λ a x here there.
            let h = m.remembered a x here (sym (same a (find_in (λ (y : Admitted). id_eq y.id a.id) a l.admitted here).0) ∙ there) in
            record { read = h.read; once = h.once; unmarked = h.unmarked; logged = h.logged };
        numbers = m.numbers;
        begun = begun_noted l e m.begun;
        single = m.single;
        fresh = λ i t some gone. account_kept l e i t (quiet i t) (m.fresh i t (ap (λ n. n == 0) (sym (same_unread l b e i same)) ∙ some) gone);
        synced = book_well l b e still active m.synced;
        synced_next = still_next l k (book_left l b e active) refl m.synced_next;
        messages = m.messages;
        recipients = m.recipients;
      };
    }

-- a message in memory, or a leftover, has a file
admitted_found : (w : World) (l : Ledger) (a : Admitted) → IsConsistent w l → IsIn a l.admitted → (m : Message) × (message_of l.book a.id ≡ Some m)
admitted_found w l a c inside = on (message_of l.book a.id) refl (all_at (is_present l) a l.admitted c.memory.present inside)
  where
    on : (o : Option Message) → message_of l.book a.id ≡ o → option_map_or (λ (x : Message). is_active x.place) o false ≡ true → (m : Message) × (message_of l.book a.id ≡ Some m)
    on None e h = absurd cc
    on (Some m) e h = (m, e)

-- ---- a message more

add_book : (l : Ledger) (x : Message) (e : Entry) → IsBookConsistent l → IsAddable l.book x → has_firm_failures x ≡ true → has_come (noted e l) x.id ≡ true → IsBookConsistent (with_book l (add_message l.book x) e)
add_book l x e h a firm come = record {
  distinct = added_distinct l.book x a.new h.distinct;
  orderly = added_orderly l.book x a h.orderly;
  firm = all_append has_firm_failures l.book.messages (x ∷ []) h.firm (and_from (has_firm_failures x) true firm refl);
  come = all_from (has_come (noted e l)) (all_ids (add_message l.book x)) (λ i inside. elim (added_ids l.book x i inside) [
    | inl old ↦ still_come l e i (all_at (has_come l) i (all_ids l.book) h.come old)
    | inr same ↦ subst (λ j. has_come (noted e l) j ≡ true) same come
  ]);
}

pub add_ready : (w : World) (l : Ledger) (x : Message) (e : Entry) → IsConsistent w l → IsQuiet e → IsAddable l.book x → has_firm_failures x ≡ true → has_come (noted e l) x.id ≡ true → is_active x.place ≡ false → IsReady w (with_book l (add_message l.book x) e)
add_ready w l x e c quiet a firm come out =
    book_ready w l (add_message l.book x) e c quiet (add_book l x e c.book a firm come)
    (λ b inside. let one = admitted_found w l b c inside in still_found l.book x b.id one.0 one.1 ∙ sym one.1)
    (λ i old left. other_found l.book x i (apart i old (id_eq x.id i) refl))
    (λ i inside. elim (added_at is_active l.book x i inside) [
      | inl old ↦ old
      | inr new ↦ let bad : false ≡ true = sym out ∙ new in absurd cc
    ])
  where
    apart : (i : Id) → is_leftover l i ≡ true → (t : Bool) → id_eq x.id i ≡ t → t ≡ false
    apart i old false k = refl
    apart i old true k = absurd (a.new (subst (λ j. IsIn j (all_ids l.book)) (sym (id_eq-true x.id i k)) (placed_listed is_active l.book i (left_parts l i old).0)))
