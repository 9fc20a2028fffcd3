-- What a rule gives by what is kept beside a ledger is what it gives by the ledger.
use Rattle.std.proofs.Common.{◌≡◌, ℕ, ◌+◌, ◌-◌, ◌<◌, ◌≤◌, Bool, true, false, List, [], ◌∷◌, length, map, refl, sym, ap, ◌∙◌, arith, cond, Option, Some, None, option_map, not, min, inl, inr}
use Rattle.std.specs.Option.{option_map_or, option_or}
use Rattle.std.specs.Prelude.{find, option_and_then, slice_get}
use Rattle.q_ledger.proofs.BesideLaws.{back_same, bounce_same, defer_same, remove_same}
use Rattle.q_ledger.proofs.SlotLaws.{found_recounted, found_row, idle_same, read_same, sync_wanted_same}
use Rattle.q_ledger.proofs.ListLaws.{find-passes, find-same}
use Rattle.q_ledger.specs.Beside.{IsBeside, IsCounted, recounted}
use Rattle.q_ledger.specs.Deciding.{bounces_in, clear_in, clear_marked_in, clearing_in, finish_in, finishing_in, load_in, load_of_slot, removes_in, backs_in, sync_in}
use Rattle.q_ledger.specs.Held.{is_idle_slot, may_read_in, slot_in, wants_sync_in}
use Rattle.q_ledger.specs.Slots.{row_of_slot}
use Rattle.q_ledger.specs.State.{State}
use Rattle.q_ledger.specs.Worlds.{Given, world_of}
use Rattle.q_ledger.specs.declared.admitted.Slot.{Slot}
use Rattle.q_laws.proofs.Batched.{pending_in}
use Rattle.q_laws.proofs.Distinct.{find_named}
use Rattle.q_laws.proofs.Members.{IsIn}
use Rattle.q_laws.proofs.Places.{got_in}
use Rattle.q_model.proofs.IdLaws.{id_eq-true}
use Rattle.q_model.specs.Batches.{load_end, pending_from}
use Rattle.q_model.specs.Book.{Book, message_of}
use Rattle.q_model.specs.Bounces.{may_bounce}
use Rattle.q_model.specs.Ids.{are_distinct, id_before, id_eq}
use Rattle.q_model.specs.Leaving.{may_corrupt, may_defer, may_remove}
use Rattle.q_model.specs.Ledger.{Ledger}
use Rattle.q_model.specs.Leftovers.{next_leftover, was_synced}
use Rattle.q_model.specs.Lists.{first_of, least}
use Rattle.q_model.specs.Loads.{may_read}
use Rattle.q_model.specs.Memory.{free, is_idle}
use Rattle.q_model.specs.Message.{Message}
use Rattle.q_model.specs.Next.{clear_damaged, clear_leftover, clear_marked, finish, finish_message, finishing_rule, leftover_decision, leftover_rule, load_of, load_rule, mark_logged, sync_rule, wants_sync}
use Rattle.q_model.specs.Settings.{World}
use Rattle.q_model.specs.Times.{due}
use Rattle.q_model.specs.declared.entry.Entry.{Entry}
use Rattle.q_model.specs.declared.entry.Entry.TheVariants as entries
use Rattle.q_model.specs.declared.id.Id.{Id}
use Rattle.q_model.specs.declared.rows.Admitted.{Admitted}

-- the message that is found by an id has it
pub message_named : (b : Book) (id : Id) (m : Message) → message_of b id ≡ Some m → m.id ≡ id
message_named b id m h = id_eq-true m.id id (find-passes (λ x. id_eq x.id id) b.messages m h)

-- ---- marks are synced

given_row : {A : Type 0} (f : Admitted → A) (o : Option Slot) → option_map (λ x. f (row_of_slot x)) o ≡ option_map f (option_map row_of_slot o)
given_row f None = refl
given_row f (Some x) = refl

pub sync_rule_same : (w : World) (s : State) → IsBeside s → sync_in w s ≡ sync_rule w s.ledger
sync_rule_same w s k =
    ap (option_map (λ (x : Slot). entries.Sync x.id)) (find-same (wants_sync_in w s) (λ x. wants_sync w s.ledger (row_of_slot x)) (sync_wanted_same w s k.counted) s.slots)
    ∙ given_row (λ a. entries.Sync a.id) (find (λ x. wants_sync w s.ledger (row_of_slot x)) s.slots)
    ∙ sym (ap (option_map (λ (a : Admitted). entries.Sync a.id)) (found_row s k.counted (wants_sync w s.ledger)))

-- ---- a message is finished

pub finish_same : (g : Given) (s : State) → IsBeside s → (m : Message) → finish_in g s m ≡ finish_message (world_of g) s.ledger m.id m
finish_same g s k m =
    let w = world_of g in
    let l = s.ledger in
    let t = due w l.now m in
    ap (λ b. first_of ((b, entries.Defer m.id t) ∷ (bounces_in s m.id, entries.Bounce m.id) ∷ (removes_in s m.id, entries.Remove m.id) ∷ [])) (defer_same g s k m.id t)
    ∙ ap (λ b. first_of ((may_defer w l m.id t, entries.Defer m.id t) ∷ (b, entries.Bounce m.id) ∷ (removes_in s m.id, entries.Remove m.id) ∷ [])) (bounce_same s k m.id)
    ∙ ap (λ b. first_of ((may_defer w l m.id t, entries.Defer m.id t) ∷ (may_bounce l m.id, entries.Bounce m.id) ∷ (b, entries.Remove m.id) ∷ [])) (remove_same s k m.id)

finished_by : (g : Given) (s : State) → IsBeside s → (id : Id) (o : Option Message) → ((m : Message) → o ≡ Some m → m.id ≡ id) →
    option_and_then (finish_in g s) o ≡ option_and_then (finish_message (world_of g) s.ledger id) o
finished_by g s k id None named = refl
finished_by g s k id (Some m) named = finish_same g s k m ∙ ap (λ i. finish_message (world_of g) s.ledger i m) (named m refl)

finish_id : (g : Given) (s : State) → IsBeside s → (id : Id) → option_and_then (finish_in g s) (message_of s.ledger.book id) ≡ finish (world_of g) s.ledger id
finish_id g s k id = finished_by g s k id (message_of s.ledger.book id) (message_named s.ledger.book id)

chosen_same : {A B : Type 0} (f g : A → Option B) → ((x : A) → f x ≡ g x) → (o : Option A) → option_and_then f o ≡ option_and_then g o
chosen_same f g h None = refl
chosen_same f g h (Some x) = h x

then_row : {B : Type 0} (f : Admitted → Option B) (o : Option Slot) → option_and_then (λ x. f (row_of_slot x)) o ≡ option_and_then f (option_map row_of_slot o)
then_row f None = refl
then_row f (Some x) = refl

-- tests that answer alike of each element find the same
found_alike : {X : Type 0} (p q : X → Bool) (xs : List X) → ((x : X) → IsIn x xs → p x ≡ q x) → find p xs ≡ find q xs
found_alike p q [] h = refl
found_alike p q (x ∷ xs) h = ap (λ b. cond b (Some x) (find p xs)) (h x (inl refl)) ∙ ap (cond (q x) (Some x)) (found_alike p q xs (λ y inside. h y (inr inside)))

names_same : (xs : List Slot) → map (λ (a : Admitted). a.id) (map row_of_slot xs) ≡ map (λ (x : Slot). x.id) xs
names_same [] = refl
names_same (x ∷ xs) = ap (λ ids. x.id ∷ ids) (names_same xs)

-- a message in memory is idle by its own counts where it is by its id
idle_slot_same : (s : State) → IsCounted s → are_distinct (map (λ (a : Admitted). a.id) s.ledger.admitted) ≡ true → (x : Slot) → IsIn x s.slots → is_idle_slot x ≡ is_idle s.ledger x.id
idle_slot_same s k apart x inside =
    let ids : map (λ (a : Admitted). a.id) s.ledger.admitted ≡ map (λ (y : Slot). y.id) s.slots = ap (map (λ (a : Admitted). a.id)) k.admitted ∙ names_same s.slots in
    let mine : slot_in s x.id ≡ Some x = find_named (λ (y : Slot). y.id) x s.slots (sym (ap are_distinct ids) ∙ apart) inside in
    sym (ap (λ o. option_map_or is_idle_slot o false) mine) ∙ idle_same s k x.id

pub finishing_same : (g : Given) (s : State) → IsBeside s → are_distinct (map (λ (a : Admitted). a.id) s.ledger.admitted) ≡ true → finishing_in g s ≡ finishing_rule (world_of g) s.ledger
finishing_same g s k apart =
    let w = world_of g in
    let l = s.ledger in
    ap (option_and_then (λ (x : Slot). option_and_then (finish_in g s) (message_of l.book x.id)))
    (found_alike is_idle_slot (λ x. is_idle l x.id) s.slots (idle_slot_same s k.counted apart))
    ∙ chosen_same (λ (x : Slot). option_and_then (finish_in g s) (message_of l.book x.id)) (λ x. finish w l x.id) (λ x. finish_id g s k x.id) (find (λ x. is_idle l x.id) s.slots)
    ∙ then_row (λ a. finish w l a.id) (find (λ x. is_idle l x.id) s.slots)
    ∙ sym (ap (option_and_then (λ (a : Admitted). finish w l a.id)) (found_row s k.counted (λ a. is_idle l a.id)))

-- ---- a leftover is cleared

clear_marked_same : (s : State) → IsBeside s → (m : Message) → clear_marked_in s m ≡ clear_marked s.ledger m
clear_marked_same s k m =
    let l = s.ledger in
    ap (λ b. first_of ((not (was_synced l m.id), entries.Sync m.id) ∷ (b, entries.Bounce m.id) ∷ (removes_in s m.id, entries.Remove m.id) ∷ (backs_in s m.id, entries.Back m.id) ∷ [])) (bounce_same s k m.id)
    ∙ ap (λ b. first_of ((not (was_synced l m.id), entries.Sync m.id) ∷ (may_bounce l m.id, entries.Bounce m.id) ∷ (b, entries.Remove m.id) ∷ (backs_in s m.id, entries.Back m.id) ∷ [])) (remove_same s k m.id)
    ∙ ap (λ b. first_of ((not (was_synced l m.id), entries.Sync m.id) ∷ (may_bounce l m.id, entries.Bounce m.id) ∷ (may_remove l m.id, entries.Remove m.id) ∷ (b, entries.Back m.id) ∷ [])) (back_same s k m.id)

clear_same : (w : World) (s : State) → IsBeside s → (m : Message) → clear_in s m ≡ clear_leftover w s.ledger m
clear_same w s k m = ap (option_or (mark_logged m)) (clear_marked_same s k m)

cleared_by : (w : World) (s : State) → IsBeside s → (other : Option Entry) → None ≡ other → (o : Option Message) → option_and_then (clear_in s) o ≡ option_map_or (clear_leftover w s.ledger) o other
cleared_by w s k other e None = e
cleared_by w s k other e (Some m) = clear_same w s k m

-- a file that isn't damaged doesn't go to corrupt
not_damaged : (w : World) (l : Ledger) (id : Id) → may_corrupt w l id ≡ false → None ≡ clear_damaged w l id
not_damaged w l id h = sym (ap (λ b. first_of ((b, entries.Corrupt id) ∷ [])) h)

pub clearing_same : (w : World) (s : State) → IsBeside s → ((id : Id) → may_corrupt w s.ledger id ≡ false) → clearing_in s ≡ leftover_rule w s.ledger
clearing_same w s k sound =
    ap (λ ids. option_and_then (λ (id : Id). option_and_then (clear_in s) (message_of s.ledger.book id)) (least id_before ids)) k.leftovers
    ∙ chosen_same (λ (id : Id). option_and_then (clear_in s) (message_of s.ledger.book id)) (leftover_decision w s.ledger)
    (λ id. cleared_by w s k (clear_damaged w s.ledger id) (not_damaged w s.ledger id (sound id)) (message_of s.ledger.book id))
    (next_leftover s.ledger)

-- ---- a message reads

end_by : (m : Message) (from room : ℕ) (o : Option ℕ) → slice_get (pending_from m from) (room - 1) ≡ o → option_map_or (λ p. p + 1) o (length m.recipients) ≤ length m.recipients
end_by m from room None e = omega arith
end_by m from room (Some p) e = let one = pending_in m from p (got_in p (pending_from m from) (room - 1) e) in let below : p < length m.recipients = one.1 in omega (arith, below)

-- a load ends within the recipients
pub end_within : (m : Message) (from room : ℕ) → load_end m from room ≤ length m.recipients
end_within m from room = end_by m from room (slice_get (pending_from m from) (room - 1)) refl

less_of : (a b : ℕ) → a ≤ b → min a b ≡ a
less_of a b h = omega (arith, h)

read_by : (w : World) (l : Ledger) (x : Slot) (o : Option Message) →
    option_map (λ (m : Message). entries.Load x.id x.unread (min (load_end m x.unread (free w l)) (option_map_or (λ n. length n.recipients) o 0))) o
    ≡ option_and_then (λ (m : Message). Some (entries.Load x.id x.unread (load_end m x.unread (free w l)))) o
read_by w l x None = refl
read_by w l x (Some m) = ap (λ n. Some (entries.Load x.id x.unread n)) (less_of (load_end m x.unread (free w l)) (length m.recipients) (end_within m x.unread (free w l)))

loaded_by : (w : World) (s : State) (o : Option Slot) → option_and_then (load_of_slot w s) (option_map (recounted s.ledger) o) ≡ option_and_then (load_of w s.ledger) (option_map row_of_slot o)
loaded_by w s None = refl
loaded_by w s (Some x) = read_by w s.ledger x (message_of s.ledger.book x.id)

pub load_rule_same : (w : World) (s : State) → IsBeside s → load_in w s ≡ load_rule w s.ledger
load_rule_same w s k =
    let l = s.ledger in
    let reads : Slot → Bool = λ x. may_read_in w s x (free w l) in
    let there = find (λ x. may_read w l (row_of_slot x)) s.slots in
    ap (option_and_then (load_of_slot w s)) (found_recounted s k.counted reads
    ∙ ap (option_map (recounted l)) (find-same (λ x. reads (recounted l x)) (λ x. may_read w l (row_of_slot x)) (read_same w s k.counted) s.slots))
    ∙ loaded_by w s there
    ∙ sym (ap (option_and_then (load_of w l)) (found_row s k.counted (may_read w l)))
