-- A message leaves memory or active: it is deferred, goes back to incoming, or is gone.
use Rattle.std.proofs.Common.{◌≡◌, ℕ, Bool, true, false, not, List, [], ◌∷◌, ◌++◌, map, filter, find, length, Option, Some, None, inl, inr, refl, sym, ap, ◌∙◌, eqb-true, if◌then◌else◌}
use Rattle.std.proofs.lemmas.Bool.{and_parts, not-true, not_from_false, or_cases}
use Rattle.std.specs.Option.{option_map_or}
use Rattle.std.specs.Prelude.{◌&&◌, ◌||◌, ◌==◌}
use Rattle.q_bare.specs.Bare.{bare, bare_message}
use Rattle.q_bare.specs.Counts.{Counts}
use Rattle.q_laws.proofs.Books.{left_parts}
use Rattle.q_laws.proofs.InPlace.{on_change}
use Rattle.q_laws.proofs.Leaving.{idle_admitted}
use Rattle.q_laws.proofs.Members.{IsIn, all_from, find_in, in_filtered}
use Rattle.q_laws.proofs.Moved.{other_left}
use Rattle.q_ledger.proofs.ActiveLaws.{active_ids, damaged_active, filter_out, moved_out, other_damaged, others_admitted, others_found, removed_out}
use Rattle.q_ledger.proofs.BareLaws.{bare_from}
use Rattle.q_ledger.proofs.HeldLaws.{held_distinct, held_messages, held_past}
use Rattle.q_ledger.proofs.ListLaws.{filter-map}
use Rattle.q_ledger.proofs.QuietLaws.{IsTidy, all_kept, bare_tidy, left_tidy, tidy_still}
use Rattle.q_ledger.proofs.RecountLaws.{KeepsRows, counted_still, unread_absent, unread_same}
use Rattle.q_ledger.specs.Beside.{IsBeside, IsCounted, IsOfLedger, recipients_in}
use Rattle.q_ledger.specs.Changed.{forgotten, ids_without, moved, not_left, removed, slots_without, stood_at}
use Rattle.q_ledger.specs.Slots.{row_of_slot}
use Rattle.q_ledger.specs.State.{State}
use Rattle.q_ledger.specs.Taking.{IsChanged}
use Rattle.q_ledger.specs.declared.admitted.Slot.{Slot}
use Rattle.q_model.proofs.IdLaws.{id_eq-true}
use Rattle.q_model.specs.declared.entry.Entry.TheVariants as entries
use Rattle.q_model.specs.declared.id.Id.{Id}
use Rattle.q_model.specs.declared.rows.Admitted.{Admitted}
use Rattle.q_model.specs.declared.rows.Place.{Place}
use Rattle.q_model.specs.declared.rows.Place.TheVariants as places
use Rattle.q_model.specs.Book.{Book, message_of}
use Rattle.q_model.specs.BookChanges.{move_message, remove_message}
use Rattle.q_model.specs.Finishing.{is_at_rest, is_clean, is_done, has_bounce, wants_bounce, without}
use Rattle.q_model.specs.Ids.{id_eq}
use Rattle.q_model.specs.Leaving.{after_back, after_defer, after_remove, may_back, may_defer, may_remove}
use Rattle.q_model.specs.Leftovers.{is_leftover, leftovers, was_synced}
use Rattle.q_model.specs.Ledger.{Ledger}
use Rattle.q_model.specs.Lists.{has_none}
use Rattle.q_model.specs.Memory.{has_rows, is_admitted, is_idle, unread_of}
use Rattle.q_model.specs.Message.{Message, pending, unmarked_logged}
use Rattle.q_model.specs.Places.{is_active}
use Rattle.q_model.specs.Settings.{World}
use Rattle.q_model.specs.Times.{due}

-- ---- what may leave

pub some_from : (p : Message → Bool) (o : Option Message) → option_map_or p o false ≡ true → (m : Message) × (o ≡ Some m) × (p m ≡ true)
some_from p None h = absurd cc
some_from p (Some m) h = (m, refl, h)

idle_read : (b : Ledger) (id : Id) → is_idle b id ≡ true → unread_of b id ≡ 0
idle_read b id h = eqb-true (unread_of b id) 0 (and_parts (is_admitted b id) (unread_of b id == 0) (and_parts (is_admitted b id && (unread_of b id == 0)) (not (has_rows b id)) h).0).1

left_read : (b : Ledger) (id : Id) → is_leftover b id ≡ true → unread_of b id ≡ 0
left_read b id h = unread_absent b id (not-true (is_admitted b id) (left_parts b id h).1)

rest_read : (b : Ledger) (id : Id) → is_at_rest b id ≡ true → unread_of b id ≡ 0
rest_read b id h = elim (or_cases (is_idle b id) (is_leftover b id && was_synced b id) h) [
  | inl idle ↦ idle_read b id idle
  | inr left ↦ left_read b id (and_parts (is_leftover b id) (was_synced b id) left).0
]

-- what was unread of others still is
still_unread : (b l : Ledger) (id : Id) → unread_of b id ≡ 0 → ((i : Id) → id_eq i id ≡ false → unread_of l i ≡ unread_of b i) → (i : Id) → not (unread_of b i == 0) ≡ true → not (unread_of l i == 0) ≡ true
still_unread b l id read same i some = which (id_eq i id) refl
  where
    which : (t : Bool) → id_eq i id ≡ t → not (unread_of l i == 0) ≡ true
    which false e = ap (λ n. not (n == 0)) (same i e) ∙ some
    which true e =
        let bad : false ≡ true = sym (ap (λ n. not (n == 0)) (ap (unread_of b) (id_eq-true i id e) ∙ read)) ∙ some in
        absurd cc

-- ---- the book

moved_bare : (id : Id) (place : Place) (ms : List Message) → map bare_message (map (stood_at id place) ms) ≡ map (stood_at id place) (map bare_message ms)
moved_bare id place [] = refl
moved_bare id place (m ∷ ms) =
    ap (λ (x : Message). x ∷ map bare_message (map (stood_at id place) ms)) (which (id_eq m.id id))
    ∙ ap (λ (xs : List Message). stood_at id place (bare_message m) ∷ xs) (moved_bare id place ms)
  where
    which : (t : Bool) → bare_message (if t then record m { place = place } else m) ≡ (if t then record (bare_message m) { place = place } else bare_message m)
    which true = refl
    which false = refl

pub moved_messages : (w : World) (c : Counts) (b : Ledger) (id : Id) (place : Place) → IsOfLedger w c b → map bare_message (map (stood_at id place) b.book.messages) ≡ map (stood_at id place) b.book.messages
moved_messages w c b id place held = moved_bare id place b.book.messages ∙ ap (map (stood_at id place)) (held_messages w c b held)

abbrev is_other : Id → Message → Bool
is_other id m = not (id_eq m.id id)

removed_messages : (w : World) (c : Counts) (b : Ledger) (id : Id) → IsOfLedger w c b → map bare_message (filter (is_other id) b.book.messages) ≡ filter (is_other id) b.book.messages
removed_messages w c b id held = sym (filter-map (is_other id) bare_message b.book.messages) ∙ ap (filter (is_other id)) (held_messages w c b held)

-- a message has as many recipients wherever it stands
pub count_moved : (b : Book) (id : Id) (place : Place) (i : Id) → option_map_or (λ (m : Message). length m.recipients) (message_of (move_message b id place) i) 0 ≡ option_map_or (λ (m : Message). length m.recipients) (message_of b i) 0
count_moved b id place i = on_change 0 (λ (m : Message). length m.recipients) id (λ (m : Message). record m { place = place }) (λ m. refl) (λ m. refl) b i

count_left : (b : Ledger) (id i : Id) → id_eq i id ≡ false → message_of (remove_message b.book id) i ≡ message_of b.book i →
    option_map_or (λ (m : Message). length m.recipients) (message_of (remove_message b.book id) i) 0 ≡ recipients_in b i
count_left b id i other same = ap (λ (o : Option Message). option_map_or (λ (m : Message). length m.recipients) o 0) same

-- ---- those in memory

-- those that are kept are in memory
without_is : (s : State) (id : Id) → IsCounted s → without id s.ledger.admitted ≡ map row_of_slot (slots_without id s.slots)
without_is s id c = ap (without id) c.admitted ∙ filter-map (λ (a : Admitted). not (id_eq a.id id)) row_of_slot s.slots

abbrev without_one : Ledger → Id → Book → List Slot → Ledger
without_one b id book slots = record b { book = book; admitted = map row_of_slot (slots_without id slots) }

others_unread : (s : State) (id : Id) (book : Book) → IsCounted s → ((i : Id) → id_eq i id ≡ false → recipients_in (without_one s.ledger id book s.slots) i ≡ recipients_in s.ledger i) →
    (i : Id) → id_eq i id ≡ false → unread_of (without_one s.ledger id book s.slots) i ≡ unread_of s.ledger i
others_unread s id book c count i other = unread_same s.ledger (without_one s.ledger id book s.slots) i
    (ap (find (λ (a : Admitted). id_eq a.id i)) (sym (without_is s id c)) ∙ others_found id i other s.ledger.admitted)
    (λ a there. count a.id (ap (λ (j : Id). id_eq j id) (id_eq-true a.id i (find_in (λ (x : Admitted). id_eq x.id i) a s.ledger.admitted there).1) ∙ other))

still_out : (s : State) (id : Id) (book : Book) → IsCounted s → (i : Id) → id_eq i id ≡ false → not (is_admitted (without_one s.ledger id book s.slots) i) ≡ not (is_admitted s.ledger i)
still_out s id book c i other = ap (λ (rows : List Admitted). not (is_admitted (record s.ledger { admitted = rows }) i)) (sym (without_is s id c)) ∙ ap not (others_admitted id i other s.ledger.admitted)

other_slot : (id : Id) (x : Slot) (slots : List Slot) → IsIn x (slots_without id slots) → IsIn x slots × (id_eq x.id id ≡ false)
other_slot id x slots inside = let two = in_filtered (λ (y : Slot). not (id_eq y.id id)) x slots inside in (two.0, not-true (id_eq x.id id) two.1)

-- ---- leftovers

-- a message in memory is none
none_left : (b : Ledger) (id : Id) → is_admitted b id ≡ true → ids_without id (leftovers b) ≡ leftovers b
none_left b id adm = all_kept (λ x. not (id_eq x id)) (leftovers b) (all_from (λ x. not (id_eq x id)) (leftovers b)
    (λ i inside. not_from_false (id_eq i id) (which i (in_filtered (λ x. not (is_admitted b x)) i (active_ids b.book.messages ++ damaged_active b.book) inside).1 (id_eq i id) refl)))
  where
    which : (i : Id) → not (is_admitted b i) ≡ true → (t : Bool) → id_eq i id ≡ t → t ≡ false
    which i out false e = refl
    which i out true e = let bad : false ≡ true = sym (ap not (ap (is_admitted b) (id_eq-true i id e) ∙ adm)) ∙ out in absurd cc

-- ---- deferral

pub defer_law : (w : World) (c : Counts) (s : State) (id : Id) (t : ℕ) → IsOfLedger w c s.ledger → IsBeside s → may_defer w s.ledger id t ≡ true → IsChanged w s.ledger (entries.Defer id t) (forgotten id (moved id (places.Deferred t) s))
defer_law w c s id t held beside may =
    let b = s.ledger in
    let place = places.Deferred t in
    let ms = b.book.messages in
    let ds = damaged_active b.book in
    let book = move_message b.book id place in
    let l = without_one b id book s.slots in
    let two = and_parts (is_idle b id) (option_map_or (λ (m : Message). not (has_none (pending m)) && is_clean m && (t == due w b.now m)) (message_of b.book id) false) may in
    let it = some_from (λ (m : Message). not (has_none (pending m)) && is_clean m && (t == due w b.now m)) (message_of b.book id) two.1 in
    let rows : KeepsRows b l = record { waiting = refl; flights = refl; unsettled = refl; served = refl } in
    let count : (i : Id) → recipients_in l i ≡ recipients_in b i = count_moved b.book id place in
    let tidy : IsTidy l = tidy_still b l (bare_tidy w c b held) refl refl refl
    (still_unread b l id (idle_read b id two.0) (others_unread s id book beside.counted (λ i other. count i))) in
    record {
      ledger = left_tidy (after_defer b id t) l
          (ap (λ (rows : List Admitted). bare (record b { book = book; admitted = rows })) (without_is s id beside.counted) ∙ bare_from l (moved_messages w c b id place held) (held_past w c b held)) tidy;
      counted = record {
        admitted = refl;
        slots = counted_still s l (slots_without id s.slots) rows beside.counted (λ x inside. ((other_slot id x s.slots inside).0, count x.id));
      };
      leftovers = beside.leftovers
          ∙ sym (none_left b id (idle_admitted b id two.0))
          ∙ sym (filter_out id (λ i. not (is_admitted b i)) (λ i. not (is_admitted l i)) (still_out s id book beside.counted) (active_ids ms) ds (other_damaged b.book id it.0 (held_distinct w c b held) it.1))
          ∙ ap (λ (ids : List Id). filter (λ i. not (is_admitted l i)) (ids ++ ds)) (sym (moved_out id place refl ms));
      left = beside.left;
    }

-- ---- the way back

pub back_law : (w : World) (c : Counts) (s : State) (id : Id) → IsOfLedger w c s.ledger → IsBeside s → may_back s.ledger id ≡ true → IsChanged w s.ledger (entries.Back id) (not_left id (moved id places.Incoming s))
back_law w c s id held beside may =
    let b = s.ledger in
    let place = places.Incoming in
    let ms = b.book.messages in
    let ds = damaged_active b.book in
    let l = after_back b id in
    let two = and_parts (is_leftover b id && was_synced b id) (option_map_or (λ (m : Message). has_none (unmarked_logged m) && is_clean m && not (has_none (pending m))) (message_of b.book id) false) may in
    let it = some_from (λ (m : Message). has_none (unmarked_logged m) && is_clean m && not (has_none (pending m))) (message_of b.book id) two.1 in
    let rows : KeepsRows b l = record { waiting = refl; flights = refl; unsettled = refl; served = refl } in
    let count : (i : Id) → recipients_in l i ≡ recipients_in b i = count_moved b.book id place in
    let tidy : IsTidy l = tidy_still b l (bare_tidy w c b held) refl refl refl (λ i some. ap (λ n. not (n == 0)) (unread_same b l i refl (λ a there. count a.id)) ∙ some) in
    record {
      ledger = left_tidy l l (bare_from l (moved_messages w c b id place held) (held_past w c b held)) tidy;
      counted = record {
        admitted = beside.counted.admitted;
        slots = counted_still s l s.slots rows beside.counted (λ x inside. (inside, count x.id));
      };
      leftovers = ap (ids_without id) beside.leftovers
          ∙ sym (filter_out id (λ i. not (is_admitted b i)) (λ i. not (is_admitted b i)) (λ i other. refl) (active_ids ms) ds (other_damaged b.book id it.0 (held_distinct w c b held) it.1))
          ∙ ap (λ (ids : List Id). filter (λ i. not (is_admitted b i)) (ids ++ ds)) (sym (moved_out id place refl ms));
      left = beside.left;
    }

-- ---- removal

pub remove_law : (w : World) (c : Counts) (s : State) (id : Id) → IsOfLedger w c s.ledger → IsBeside s → may_remove s.ledger id ≡ true → IsChanged w s.ledger (entries.Remove id) (not_left id (forgotten id (removed id s)))
remove_law w c s id held beside may =
    let b = s.ledger in
    let ms = b.book.messages in
    let ds = damaged_active b.book in
    let book = remove_message b.book id in
    let l = without_one b id book s.slots in
    let it = some_from (λ (m : Message). is_active m.place && is_at_rest b id && is_done m && (not (wants_bounce m) || has_bounce b id)) (message_of b.book id) may in
    let m = it.0 in
    let three = and_parts (is_active m.place && is_at_rest b id && is_done m) (not (wants_bounce m) || has_bounce b id) it.2 in
    let two = and_parts (is_active m.place && is_at_rest b id) (is_done m) three.0 in
    let rest = (and_parts (is_active m.place) (is_at_rest b id) two.0).1 in
    let rows : KeepsRows b l = record { waiting = refl; flights = refl; unsettled = refl; served = refl } in
    let count : (i : Id) → id_eq i id ≡ false → recipients_in l i ≡ recipients_in b i = λ i other. count_left b id i other (other_left b.book id i (held_distinct w c b held) other) in
    let tidy : IsTidy l = tidy_still b l (bare_tidy w c b held) refl refl refl (still_unread b l id (rest_read b id rest) (others_unread s id book beside.counted count)) in
    record {
      ledger = left_tidy (after_remove b id) l
          (ap (λ (rows : List Admitted). bare (record b { book = book; admitted = rows })) (without_is s id beside.counted) ∙ bare_from l (removed_messages w c b id held) (held_past w c b held)) tidy;
      counted = record {
        admitted = refl;
        slots = counted_still s l (slots_without id s.slots) rows beside.counted (λ x inside. let one = other_slot id x s.slots inside in (one.0, count x.id one.1));
      };
      leftovers = ap (ids_without id) beside.leftovers
          ∙ sym (filter_out id (λ i. not (is_admitted b i)) (λ i. not (is_admitted l i)) (still_out s id book beside.counted) (active_ids ms) ds (other_damaged b.book id m (held_distinct w c b held) it.1))
          ∙ ap (λ (ids : List Id). filter (λ i. not (is_admitted l i)) (ids ++ ds)) (sym (removed_out id ms));
      left = beside.left;
    }
