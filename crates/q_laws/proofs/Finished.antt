-- What fits together still does as a message is deferred or removed.
use Rattle.std.proofs.Common.{◌≡◌, ℕ, true, false, not, [], Option, Some, None, inl, inr, refl, sym, ap, ◌∙◌, subst}
use Rattle.std.proofs.lemmas.Bool.{and_from, and_parts, not-true, or_cases, or_right}
use Rattle.std.specs.Option.{option_map_or}
use Rattle.std.specs.Prelude.{◌==◌, ◌&&◌, ◌||◌}
use Rattle.q_laws.proofs.Books.{active_not_incoming, left_parts, message_in}
use Rattle.q_laws.proofs.InPlace.{change_book, changed}
use Rattle.q_laws.proofs.Members.{IsIn, all_at, all_filtered, all_from}
use Rattle.q_laws.proofs.Moved.{keeps_move, move_to, moved_at, other_left, other_moved, removed_at, removed_distinct, removed_ids, removed_orderly}
use Rattle.q_laws.proofs.Quiet.{IsQuiet, still_come}
use Rattle.q_laws.proofs.Tidied.{IsReady, after_consistent}
use Rattle.q_laws.proofs.Synced.{admitted_active, mine_or_not}
use Rattle.q_laws.proofs.Unmarked.{pending_not_sealed}
use Rattle.q_laws.specs.Consistency.{IsBookConsistent, IsConsistent, has_come}
use Rattle.q_model.specs.Book.{all_ids, message_of}
use Rattle.q_model.specs.BookChanges.{move_message, remove_message}
use Rattle.q_model.specs.Finishing.{has_bounce, is_at_rest, is_clean, is_done, wants_bounce}
use Rattle.q_model.specs.Ids.{id_eq}
use Rattle.q_model.specs.Leaving.{may_defer, may_remove}
use Rattle.q_model.specs.Ledger.{Ledger}
use Rattle.q_model.specs.Leftovers.{is_leftover, was_synced}
use Rattle.q_model.specs.Lists.{has_none}
use Rattle.q_model.specs.Memory.{is_admitted, is_idle}
use Rattle.q_model.specs.Message.{Message, pending, unmarked_logged, written_marks}
use Rattle.q_model.specs.Orderly.{has_firm_failures, is_sealed, is_sound}
use Rattle.q_model.specs.Places.{is_active}
use Rattle.q_model.specs.Settings.{World}
use Rattle.q_model.specs.Step.{after, noted}
use Rattle.q_model.specs.Times.{due}
use Rattle.q_model.specs.declared.id.Id.{Id}
use Rattle.q_model.specs.declared.rows.Place.{Place}
use Rattle.q_model.specs.declared.entry.Entry.TheVariants as entries
use Rattle.q_model.specs.declared.rows.Place.TheVariants as places
use Rattle.std.proofs.lemmas.Option.{same_Some}
use Rattle.q_laws.proofs.Mapped.{KeepsOrder}
use Rattle.q_laws.proofs.Leaving.{HasNoRows, absent_rows, idle_admitted, idle_rows, leave_ready, left_ledger, tidied_rows}

quiet_defer : (id : Id) (t : ℕ) → IsQuiet (entries.Defer id t)
quiet_defer id t i k = record { admit = refl; start = refl; charge = refl }

firm_of : (l : Ledger) (m : Message) → IsBookConsistent l → IsIn m l.book.messages → has_firm_failures m ≡ true
firm_of l m h inside = all_at has_firm_failures m l.book.messages h.firm inside

-- a message in active that has nothing to settle may leave it, where it isn't sealed
pub leave_order : (l : Ledger) (id : Id) (place : Place) (m : Message) → IsBookConsistent l → message_of l.book id ≡ Some m → is_active m.place ≡ true → (is_sealed m ≡ true → ⊥) → unmarked_logged m ≡ [] → is_clean m ≡ true → KeepsOrder l.book (changed id (move_to place))
leave_order l id place m h there active open_still none clean =
    keeps_move l.book id place m h.distinct there
    (λ k. absurd (open_still (and_parts (is_active m.place) (is_sealed m) k).1))
    (λ k bounce standing. absurd (active_not_incoming m.place active k))
    (or_right (is_active place) (is_sound m) (and_from (has_none (unmarked_logged m) && has_none (written_marks m)) (has_firm_failures m)
    (and_from (has_none (unmarked_logged m)) (has_none (written_marks m)) (ap has_none none) clean) (firm_of l m h (message_in l.book id m there).0)))

defer_ready : (w : World) (l : Ledger) (id : Id) (t : ℕ) (o : Option Message) → IsConsistent w l → is_idle l id ≡ true → message_of l.book id ≡ o → option_map_or (λ m. not (has_none (pending m)) && is_clean m && (t == due w l.now m)) o false ≡ true →
    IsReady w (left_ledger l id (move_message l.book id (places.Deferred t)) (entries.Defer id t))
defer_ready w l id t None c idle there may = absurd cc
defer_ready w l id t (Some m) c idle there may =
    let e = entries.Defer id t in
    let place : Place = places.Deferred t in
    let adm = idle_admitted l id idle in
    let none = idle_rows l id idle in
    let mine = admitted_active w l id c adm in
    let active : is_active m.place ≡ true = subst (λ (x : Message). is_active x.place ≡ true) (same_Some mine.0 m (sym mine.1.there ∙ there)) mine.1.active in
    let two = and_parts (not (has_none (pending m)) && is_clean m) (t == due w l.now m) may in
    let one = and_parts (not (has_none (pending m))) (is_clean m) two.0 in
    let same : (i : Id) → id_eq i id ≡ false → message_of (move_message l.book id place) i ≡ message_of l.book i = λ i other. other_moved l.book id i (move_to place) (λ x. refl) other in
    let book = change_book l id (move_to place) l.unsettled l.synced e c.book
    (leave_order l id place m c.book there active (pending_not_sealed m one.0) (tidied_rows w l id m c adm there none.unsettled) one.1)
    (λ x inside firm. mine_or_not id (move_to place) x (λ y. has_firm_failures y ≡ true) (λ k. firm) (λ k. firm)) in
    leave_ready w l id (move_message l.book id place) e c (quiet_defer id t)
    (record { distinct = book.distinct; orderly = book.orderly; firm = book.firm; come = book.come }) none same
    (λ i k. elim (moved_at is_active l.book id i place m c.book.distinct there k) [
      | inl old ↦ old
      | inr moved ↦ let bad : false ≡ true = moved.1 in absurd cc
    ])

-- a message is deferred
pub defer_consistent : (w : World) (l : Ledger) (id : Id) (t : ℕ) → IsConsistent w l → may_defer w l id t ≡ true → IsConsistent w (after w l (entries.Defer id t))
defer_consistent w l id t c may =
    let two = and_parts (is_idle l id) (option_map_or (λ m. not (has_none (pending m)) && is_clean m && (t == due w l.now m)) (message_of l.book id) false) may in
    after_consistent w l (entries.Defer id t) (defer_ready w l id t (message_of l.book id) c two.0 refl two.1)

-- ---- remove

-- a message at rest has no rows
pub rest_rows : (w : World) (l : Ledger) (id : Id) → IsConsistent w l → is_at_rest l id ≡ true → HasNoRows l id
rest_rows w l id c h = elim (or_cases (is_idle l id) (is_leftover l id && was_synced l id) h) [
  | inl idle ↦ idle_rows l id idle
  | inr left ↦ absent_rows w l id c (not-true (is_admitted l id) (left_parts l id (and_parts (is_leftover l id) (was_synced l id) left).0).1)
]

remove_book : (l : Ledger) (id : Id) (m : Message) → IsBookConsistent l → message_of l.book id ≡ Some m → IsBookConsistent (left_ledger l id (remove_message l.book id) (entries.Remove id))
remove_book l id m h there =
    let e = entries.Remove id in
    record {
      distinct = removed_distinct l.book id h.distinct;
      orderly = removed_orderly l.book id m h.distinct there h.orderly;
      firm = all_filtered has_firm_failures (λ (x : Message). not (id_eq x.id id)) l.book.messages h.firm;
      come = all_from (has_come (noted e l)) (all_ids (remove_message l.book id)) (λ i inside. still_come l e i (all_at (has_come l) i (all_ids l.book) h.come (removed_ids l.book id i inside)));
    }

remove_ready : (w : World) (l : Ledger) (id : Id) (o : Option Message) → IsConsistent w l → message_of l.book id ≡ o → option_map_or (λ m. is_active m.place && is_at_rest l id && is_done m && (not (wants_bounce m) || has_bounce l id)) o false ≡ true →
    IsReady w (left_ledger l id (remove_message l.book id) (entries.Remove id))
remove_ready w l id None c there may = absurd cc
remove_ready w l id (Some m) c there may =
    let e = entries.Remove id in
    let three = and_parts (is_active m.place && is_at_rest l id && is_done m) (not (wants_bounce m) || has_bounce l id) may in
    let two = and_parts (is_active m.place && is_at_rest l id) (is_done m) three.0 in
    let one = and_parts (is_active m.place) (is_at_rest l id) two.0 in
    let same : (i : Id) → id_eq i id ≡ false → message_of (remove_message l.book id) i ≡ message_of l.book i = λ i other. other_left l.book id i c.book.distinct other in
    leave_ready w l id (remove_message l.book id) e c (λ i k. record { admit = refl; start = refl; charge = refl }) (remove_book l id m c.book there) (rest_rows w l id c one.1) same
    (λ i k. removed_at is_active l.book id i m c.book.distinct there k)

-- a message is removed
pub remove_consistent : (w : World) (l : Ledger) (id : Id) → IsConsistent w l → may_remove l id ≡ true → IsConsistent w (after w l (entries.Remove id))
remove_consistent w l id c may = after_consistent w l (entries.Remove id) (remove_ready w l id (message_of l.book id) c refl may)
