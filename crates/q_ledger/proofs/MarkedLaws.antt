-- A failure that is stored, a mark that is written and marks that are synced make of the ledger what it is to be.
use Rattle.std.proofs.Common.{◌≡◌, ℕ, ◌+◌, ◌-◌, ◌^◌, ◌≤◌, Bool, true, false, cond, not, List, ◌∷◌, length, map, min, filter, drop, count_by, Option, Some, None, refl, sym, ap, ◌∙◌, subst, arith, if◌then◌else◌}
use Rattle.std.proofs.lemmas.Bool.{and_parts}
use Rattle.std.proofs.lemmas.List.{length-map}
use Rattle.std.proofs.lemmas.List.Sums.{count_by-le-length}
use Rattle.std.specs.List.{list_any}
use Rattle.std.specs.Option.{option_map_or}
use Rattle.std.specs.Prelude.{◌&&◌, ◌==◌, slice_get}
use Rattle.q_bare.specs.Bare.{bare, bare_message}
use Rattle.q_bare.specs.Counts.{Counts}
use Rattle.q_laws.proofs.Distinct.{id_eq-sym}
use Rattle.q_laws.proofs.InPlace.{KeepsShape, ids_at_change, on_change, unread_change}
use Rattle.q_ledger.proofs.BareChanges.{change_bare, failure_bare, mark_bare, still_bare, synced_bare}
use Rattle.q_ledger.proofs.CountedLaws.{counted_rows, counted_still}
use Rattle.q_ledger.proofs.HeldLaws.{held_bare}
use Rattle.q_ledger.proofs.ListLaws.{length-numbered}
use Rattle.q_ledger.proofs.MarkLaws.{changed_once}
use Rattle.q_ledger.proofs.OfLedger.{messages_once}
use Rattle.q_ledger.proofs.QuietLaws.{quiet}
use Rattle.q_ledger.proofs.RowCounts.{logged_counted, one_settled}
use Rattle.q_ledger.specs.Beside.{IsBeside, IsCounted, IsOfLedger, recipients_in, rows_in}
use Rattle.q_ledger.specs.Counting.{count_changed, rows_counted}
use Rattle.q_ledger.specs.Marked.{logged_in, marked_in, settled_in, synced_in, with_book, with_messages, without_first}
use Rattle.q_ledger.specs.State.{State}
use Rattle.q_ledger.specs.Taking.{IsChanged, rows_tidied}
use Rattle.q_model.proofs.IdLaws.{id_eq-refl, id_eq-true}
use Rattle.q_model.specs.BookChanges.{change_message}
use Rattle.q_model.specs.Ids.{id_eq}
use Rattle.q_model.specs.Ledger.{Ledger}
use Rattle.q_model.specs.Leftovers.{is_leftover, leftovers}
use Rattle.q_model.specs.Logs.{first_logged, with_failure}
use Rattle.q_model.specs.Marking.{drop_unsettled, mark_one, marks_first, needs_mark, with_mark}
use Rattle.q_model.specs.Marks.{sync_mark}
use Rattle.q_model.specs.Memory.{is_admitted}
use Rattle.q_model.specs.Message.{Message, Recipient}
use Rattle.q_model.specs.Places.{is_active}
use Rattle.q_model.specs.Settings.{World}
use Rattle.q_model.specs.Syncs.{sync_all}
use Rattle.q_model.specs.declared.entry.Entry.TheVariants as entries
use Rattle.q_model.specs.declared.id.Id.{Id}
use Rattle.q_model.specs.declared.outcome.Failure.{Failure}
use Rattle.q_model.specs.declared.rows.Delivery.{Delivery}
use Rattle.q_model.specs.declared.rows.Row.{Row}
use Rattle.q_model.specs.declared.rows.Unsettled.{Unsettled}

-- ---- a message changes, and outcomes or synced ids with it

-- the change keeps the shape of a message, and leaves what is bare bare
record IsBareChange (f : Message → Message) : Type 0 where
  shape : KeepsShape f
  stays : (m : Message) → f (bare_message m) ≡ bare_message (f m)

log_change : (f : Failure) → IsBareChange (with_failure f)
log_change f = record { shape = record { name = λ m. refl; place = λ m. refl; count = λ m. refl }; stays = failure_bare f }

mark_change : (p : ℕ) → IsBareChange (with_mark p)
mark_change p = record { shape = record { name = λ m. refl; place = λ m. refl; count = λ m. length-numbered (mark_one p) 0 m.recipients }; stays = mark_bare p }

sync_change : IsBareChange sync_all
sync_change = record { shape = record { name = λ m. refl; place = λ m. refl; count = λ m. length-map m.recipients (λ (r : Recipient). record r { mark = sync_mark r.mark }) }; stays = synced_bare }

-- the ledger after it
abbrev changed_to : Ledger → Id → (Message → Message) → List Unsettled → List Id → Ledger
changed_to l id f us ss = record l { book = change_message l.book id f; unsettled = us; synced = ss }

-- nothing of rows is tidied then
in_place : (w : World) (c : Counts) (l : Ledger) (id : Id) (f : Message → Message) (us : List Unsettled) (ss : List Id) → IsOfLedger w c l → IsBareChange f →
    changed_to l id f us ss ≡ rows_tidied (bare (changed_to l id f us ss))
in_place w c l id f us ss h b =
    let k = changed_to l id f us ss in
    let whole = held_bare w c l h in
    let bare_is : bare k ≡ k = still_bare l k whole (change_bare l.book id f b.stays (ap (λ (x : Ledger). x.book) whole)) refl in
    sym (ap rows_tidied bare_is ∙ quiet w c l k h refl refl refl (unread_change l id f us ss entries.End b.shape))

left_same : (l : Ledger) (id : Id) (f : Message → Message) (us : List Unsettled) (ss : List Id) → IsBareChange f → leftovers (changed_to l id f us ss) ≡ leftovers l
left_same l id f us ss b = ap (filter (λ i. not (is_admitted l i))) (ids_at_change is_active l.book id f b.shape)

people_same : (l : Ledger) (id : Id) (f : Message → Message) (us : List Unsettled) (ss : List Id) → IsBareChange f → (i : Id) → recipients_in (changed_to l id f us ss) i ≡ recipients_in l i
people_same l id f us ss b i = on_change 0 (λ m. length m.recipients) id f b.shape.name b.shape.count l.book i

-- ---- a failure is stored

abbrev logged_at : Ledger → Id → Failure → Ledger
logged_at l id f = changed_to l id (with_failure f) (first_logged l.unsettled) l.synced

pub log_changes : (w : World) (c : Counts) (s : State) (id : Id) (f : Failure) → IsOfLedger w c s.ledger → IsBeside s → IsChanged w s.ledger (entries.Log id f) (logged_in s id f)
log_changes w c s id f h beside =
    let l = s.ledger in
    let t : State = record s { ledger = logged_at l id f } in
    let same : logged_in s id f ≡ t =
    ap (λ ms. record s { ledger = record l { book = with_messages ms l.book; unsettled = first_logged l.unsettled } }) (changed_once id (with_failure f) l.book.messages (messages_once w c l h)) in
    subst (IsChanged w l (entries.Log id f)) (sym same) (record {
      ledger = in_place w c l id (with_failure f) (first_logged l.unsettled) l.synced h (log_change f);
      counted = counted_still s t beside.counted refl refl (people_same l id (with_failure f) (first_logged l.unsettled) l.synced (log_change f))
          (λ i. ap (λ n. count_by (λ (r : Row). id_eq r.id i) l.waiting + count_by (λ (g : Delivery). id_eq g.row.id i) l.flights + n) (logged_counted i l.unsettled));
      leftovers = beside.leftovers ∙ sym (left_same l id (with_failure f) (first_logged l.unsettled) l.synced (log_change f));
      left = beside.left;
    })

-- ---- marks are synced

pub sync_changes : (w : World) (c : Counts) (s : State) (id : Id) → IsOfLedger w c s.ledger → IsBeside s → IsChanged w s.ledger (entries.Sync id) (synced_in s id)
sync_changes w c s id h beside =
    let l = s.ledger in
    let ids : Bool → List Id = λ b. if b then id ∷ l.synced else l.synced in
    let t : State = record s { ledger = changed_to l id sync_all l.unsettled (ids (is_leftover l id)) } in
    let same : synced_in s id ≡ t = ap (λ left. record s { ledger = changed_to l id sync_all l.unsettled (ids (list_any (id_eq id) left)) }) beside.leftovers in
    subst (IsChanged w l (entries.Sync id)) (sym same) (record {
      ledger = in_place w c l id sync_all l.unsettled (ids (is_leftover l id)) h sync_change;
      counted = counted_still s t beside.counted refl refl (people_same l id sync_all l.unsettled (ids (is_leftover l id)) sync_change) (λ i. refl);
      leftovers = beside.leftovers ∙ sym (left_same l id sync_all l.unsettled (ids (is_leftover l id)) sync_change);
      left = beside.left;
    })

-- ---- a mark is written

abbrev marked_at : Ledger → Id → ℕ → Bool → Ledger
marked_at l id p b = changed_to l id (with_mark p) (if b then drop 1 l.unsettled else l.unsettled) l.synced

-- the first outcome, where the mark is what it needs
first_of_it : (l : Ledger) (id : Id) (p : ℕ) (o : Option Unsettled) → slice_get l.unsettled 0 ≡ o → option_map_or (λ (u : Unsettled). id_eq u.id id && (u.position == p) && needs_mark u.need) o false ≡ true →
    (u : Unsettled) × (slice_get l.unsettled 0 ≡ Some u) × (u.id ≡ id)
first_of_it l id p None e h = absurd cc
first_of_it l id p (Some u) e h = (u, e, id_eq-true u.id id (and_parts (id_eq u.id id) (u.position == p) (and_parts (id_eq u.id id && (u.position == p)) (needs_mark u.need) h).0).0)

settled_rows : (l : Ledger) (id : Id) (p : ℕ) → marks_first l id p ≡ true → length l.waiting + length l.flights + length l.unsettled ≤ 2 ^ 128 - 1 →
    ((i : Id) → id_eq i id ≡ false → rows_in (marked_at l id p true) i ≡ rows_in l i) × (rows_in (marked_at l id p true) id ≡ min (rows_in l id + 0) (2 ^ 128 - 1) - 1)
settled_rows l id p first few =
    let one = first_of_it l id p (slice_get l.unsettled 0) refl first in
    let u = one.0 in
    let all : (i : Id) → cond (id_eq u.id i) 1 0 + count_by (λ (v : Unsettled). id_eq v.id i) (drop 1 l.unsettled) ≡ count_by (λ (v : Unsettled). id_eq v.id i) l.unsettled = λ i. one_settled (λ v. id_eq v.id i) u l.unsettled one.1 in (
      λ i other.
          let none : ◌≡◌ {A = ℕ} (cond (id_eq u.id i) 1 0) 0 = ap (λ b. cond b 1 0) (ap (λ (j : Id). id_eq j i) one.2 ∙ id_eq-sym i id other) in
          let a = all i in
          omega (arith, a, none),
      let mine : ◌≡◌ {A = ℕ} (cond (id_eq u.id id) 1 0) 1 = ap (λ b. cond b 1 0) (ap (λ (j : Id). id_eq j id) one.2 ∙ id_eq-refl id) in
          let a = all id in
          let x = count_by-le-length (λ (r : Row). id_eq r.id id) l.waiting in
          let y = count_by-le-length (λ (g : Delivery). id_eq g.row.id id) l.flights in
          let z = count_by-le-length (λ (v : Unsettled). id_eq v.id id) l.unsettled in
          let free : min (rows_in l id + 0) (2 ^ 128 - 1) ≡ rows_in l id = omega (arith, x, y, z, few) in
          omega (arith, a, mine, free),
    )

abbrev marked_state : State → Id → ℕ → Bool → State
marked_state s id p b = record s {
  ledger = marked_at s.ledger id p b;
  slots = if b then map (count_changed id 0 1) s.slots else s.slots;
}

marked_counts : (s : State) (id : Id) (p : ℕ) (b : Bool) → IsCounted s → marks_first s.ledger id p ≡ b → length s.ledger.waiting + length s.ledger.flights + length s.ledger.unsettled ≤ 2 ^ 128 - 1 → IsCounted (marked_state s id p b)
marked_counts s id p false h first few =
    counted_still s (marked_state s id p false) h refl refl (people_same s.ledger id (with_mark p) s.ledger.unsettled s.ledger.synced (mark_change p)) (λ i. refl)
marked_counts s id p true h first few =
    let rows = settled_rows s.ledger id p first few in
    counted_rows s (marked_state s id p true) id 0 1 h refl refl (people_same s.ledger id (with_mark p) (drop 1 s.ledger.unsettled) s.ledger.synced (mark_change p)) rows.0 rows.1

pub mark_changes : (w : World) (c : Counts) (s : State) (id : Id) (p : ℕ) → IsOfLedger w c s.ledger → IsBeside s →
    length s.ledger.waiting + length s.ledger.flights + length s.ledger.unsettled ≤ 2 ^ 128 - 1 → IsChanged w s.ledger (entries.Mark id p) (marked_in s id p)
mark_changes w c s id p h beside few =
    let l = s.ledger in
    let us = drop_unsettled l id p in
    record {
      ledger = in_place w c l id (with_mark p) us l.synced h (mark_change p);
      counted = marked_counts s id p (marks_first l id p) beside.counted refl few;
      leftovers = beside.leftovers ∙ sym (left_same l id (with_mark p) us l.synced (mark_change p));
      left = beside.left;
    }

settle_first_is : (s : State) (id : Id) (p : ℕ) (b : Bool) → marks_first s.ledger id p ≡ b →
    with_book (change_message (if b then rows_counted id 0 1 (without_first s) else s).ledger.book id (with_mark p)) (if b then rows_counted id 0 1 (without_first s) else s) ≡ marked_state s id p b
settle_first_is s id p true e = refl
settle_first_is s id p false e = refl

-- the outcome is settled first, and then the mark is written
pub marked_steps : (s : State) (id : Id) (p : ℕ) → with_book (change_message (settled_in s id p).ledger.book id (with_mark p)) (settled_in s id p) ≡ marked_in s id p
marked_steps s id p = settle_first_is s id p (marks_first s.ledger id p) refl
