-- Where the counts of messages in memory are those of the lists, what they say is what the definitions say.
use Rattle.std.proofs.Common.{◌≡◌, ℕ, zero, suc, ◌+◌, ◌-◌, Bool, true, false, List, [], ◌∷◌, length, refl, sym, ap, ◌∙◌, arith, zero-add, Option, Some, None, option_map, not}
use Rattle.std.proofs.lemmas.Bool.{ne_eqb}
use Rattle.std.proofs.lemmas.List.Sums.{sum_by-cons}
use Rattle.std.specs.List.{list_any}
use Rattle.std.specs.Option.{option_map_or}
use Rattle.std.specs.Prelude.{◌&&◌, ◌==◌, ◌||◌, cond, count_by, find, is_some, min, nat_le, nat_lt}
use Rattle.q_ledger.proofs.ListLaws.{find-map, find-passes}
use Rattle.q_ledger.specs.Beside.{IsCounted, recipients_in, recounted, rows_in}
use Rattle.q_ledger.specs.Held.{is_idle_in, is_idle_slot, may_read_in, rest_in, slot_in, unread_in, wants_sync_in}
use Rattle.q_ledger.specs.Slots.{row_of_slot}
use Rattle.q_ledger.specs.State.{State}
use Rattle.q_ledger.specs.declared.admitted.Slot.{Slot}
use Rattle.q_model.proofs.IdLaws.{id_eq-true}
use Rattle.q_model.specs.Accounts.{job_left}
use Rattle.q_model.specs.Book.{message_of}
use Rattle.q_model.specs.Ids.{id_eq}
use Rattle.q_model.specs.Ledger.{Ledger}
use Rattle.q_model.specs.Loads.{may_read}
use Rattle.q_model.specs.Memory.{admitted_of, free, has_rows, has_waiting, is_idle, unread_count, unread_of}
use Rattle.q_model.specs.Message.{Message}
use Rattle.q_model.specs.Next.{marks_of, wants_sync}
use Rattle.q_model.specs.Settings.{World}
use Rattle.q_model.specs.declared.id.Id.{Id}
use Rattle.q_model.specs.declared.rows.Admitted.{Admitted}

-- ---- what is found of a message

-- a search finds a message with the counts of the lists
pub found_recounted : (s : State) → IsCounted s → (p : Slot → Bool) → find p s.slots ≡ option_map (recounted s.ledger) (find (λ x. p (recounted s.ledger x)) s.slots)
found_recounted s k p = ap (find p) k.slots ∙ find-map p (recounted s.ledger) s.slots

-- a search of the ledger finds the same
pub found_row : (s : State) → IsCounted s → (q : Admitted → Bool) → find q s.ledger.admitted ≡ option_map row_of_slot (find (λ x. q (row_of_slot x)) s.slots)
found_row s k q = ap (find q) k.admitted ∙ find-map q row_of_slot s.slots

pub slot_recounted : (s : State) → IsCounted s → (id : Id) → slot_in s id ≡ option_map (recounted s.ledger) (slot_in s id)
slot_recounted s k id = found_recounted s k (λ x. id_eq x.id id)

pub slot_row : (s : State) → IsCounted s → (id : Id) → admitted_of s.ledger id ≡ option_map row_of_slot (slot_in s id)
slot_row s k id = found_row s k (λ a. id_eq a.id id)

-- ---- what is unread, and what a job has left

minus_by : (o : Option Message) (n : ℕ) → option_map_or (λ m. length m.recipients) o 0 - n ≡ option_map_or (λ m. length m.recipients - n) o 0
minus_by None n = omega arith
minus_by (Some m) n = refl

-- what is left by the counts is what the ledger says
pub left_same : (l : Ledger) (x : Slot) → recipients_in l x.id - x.unread ≡ unread_count l (row_of_slot x)
left_same l x = minus_by (message_of l.book x.id) x.unread

unread_by : (l : Ledger) (o : Option Slot) → option_map_or (λ x. x.recipients - x.unread) (option_map (recounted l) o) 0 ≡ option_map_or (λ a. unread_count l a) (option_map row_of_slot o) 0
unread_by l None = refl
unread_by l (Some x) = left_same l x

pub unread_same : (s : State) → IsCounted s → (id : Id) → unread_in s id ≡ unread_of s.ledger id
unread_same s k id =
    ap (λ o. option_map_or (λ x. x.recipients - x.unread) o 0) (slot_recounted s k id)
    ∙ unread_by s.ledger (slot_in s id)
    ∙ sym (ap (λ o. option_map_or (λ a. unread_count s.ledger a) o 0) (slot_row s k id))

pub rest_same : (s : State) → IsCounted s → (id : Id) (transport : ℕ) → rest_in s id transport ≡ job_left s.ledger id transport
rest_same s k id transport =
    ap (λ n. count_by (λ r. id_eq r.id id && (r.site.transport == transport)) s.ledger.waiting + n) (unread_same s k id)

-- ---- which are idle

counted_one : (n : ℕ) (b any : Bool) → (n == 0) ≡ not any → (cond b 1 0 + n == 0) ≡ not (b || any)
counted_one n true any h = ne_eqb (1 + n) 0 (λ e. omega (arith, e))
counted_one n false any h = ap (λ m. m == 0) (zero-add n) ∙ h

-- where none passes, none is counted
pub none_counted : {X : Type 0} (p : X → Bool) (xs : List X) → (count_by p xs == 0) ≡ not (list_any p xs)
none_counted p [] = refl
none_counted p (x ∷ xs) =
    ap (λ n. n == 0) (sum_by-cons (λ y. cond (p y) 1 0) x xs)
    ∙ counted_one (count_by p xs) (p x) (list_any p xs) (none_counted p xs)

no_sum : (a b : ℕ) (p q : Bool) → (a == 0) ≡ not p → (b == 0) ≡ not q → (a + b == 0) ≡ not (p || q)
no_sum zero b false q h k = ap (λ n. n == 0) (zero-add b) ∙ k
no_sum zero b true q h k = cc
no_sum (suc a) b true q h k = ne_eqb (suc a + b) 0 (λ e. omega (arith, e))
no_sum (suc a) b false q h k = let bad : (suc a == 0) ≡ false = ne_eqb (suc a) 0 (λ e. omega (arith, e)) in cc

-- a message has no rows where none are counted
no_rows : (l : Ledger) (id : Id) → (rows_in l id == 0) ≡ not (has_rows l id)
no_rows l id =
    no_sum _ _ _ _
    (no_sum _ _ _ _ (none_counted (λ r. id_eq r.id id) l.waiting) (none_counted (λ f. id_eq f.row.id id) l.flights))
    (none_counted (λ u. id_eq u.id id) l.unsettled)

found_some : {X : Type 0} (b : Bool) (x : X) (o : Option X) (any : Bool) → any ≡ is_some o → (b || any) ≡ is_some (cond b (Some x) o)
found_some true x o any h = refl
found_some false x o any h = h

any_found : {X : Type 0} (p : X → Bool) (xs : List X) → list_any p xs ≡ is_some (find p xs)
any_found p [] = refl
any_found p (x ∷ xs) = found_some (p x) x (find p xs) (list_any p xs) (any_found p xs)

idle_by : (l : Ledger) (id : Id) (o : Option Slot) → ((x : Slot) → o ≡ Some x → x.id ≡ id) →
    option_map_or is_idle_slot (option_map (recounted l) o) false
    ≡ (is_some (option_map row_of_slot o) && (option_map_or (λ a. unread_count l a) (option_map row_of_slot o) 0 == 0) && not (has_rows l id))
idle_by l id None named = refl
idle_by l id (Some x) named =
    ap (λ n. (n == 0) && (rows_in l x.id == 0)) (left_same l x)
    ∙ ap (λ b. (unread_count l (row_of_slot x) == 0) && b) (ap (λ i. rows_in l i == 0) (named x refl) ∙ no_rows l id)

pub idle_same : (s : State) → IsCounted s → (id : Id) → is_idle_in s id ≡ is_idle s.ledger id
idle_same s k id =
    ap (λ o. option_map_or is_idle_slot o false) (slot_recounted s k id)
    ∙ idle_by s.ledger id (slot_in s id) (λ x found. id_eq-true x.id id (find-passes (λ y. id_eq y.id id) s.slots x found))
    ∙ sym (ap (λ b. b && (unread_of s.ledger id == 0) && not (has_rows s.ledger id)) (any_found (λ a. id_eq a.id id) s.ledger.admitted)
    ∙ ap (λ o. is_some o && (option_map_or (λ a. unread_count s.ledger a) o 0 == 0) && not (has_rows s.ledger id)) (slot_row s k id))

-- ---- which may read, and whose marks are synced

pub read_same : (w : World) (s : State) → IsCounted s → (x : Slot) → may_read_in w s (recounted s.ledger x) (free w s.ledger) ≡ may_read w s.ledger (row_of_slot x)
read_same w s k x =
    ap (λ n. nat_lt 0 n && not (has_waiting s.ledger x.id) && nat_le (min w.settings.recipient_minimum n) (free w s.ledger)) (left_same s.ledger x)

pub sync_wanted_same : (w : World) (s : State) → IsCounted s → (x : Slot) → wants_sync_in w s x ≡ wants_sync w s.ledger (row_of_slot x)
sync_wanted_same w s k x =
    ap (λ b. nat_le w.settings.mark_sync_limit (marks_of s.ledger x.id) || (nat_lt 0 (marks_of s.ledger x.id) && b)) (idle_same s k x.id)
