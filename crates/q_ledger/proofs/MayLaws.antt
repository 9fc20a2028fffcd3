-- What a row says by what is kept beside a ledger and of jobs is what it says by the ledger and the counts.
use Rattle.std.proofs.Common.{◌≡◌, ℕ, ◌+◌, ◌<◌, ◌^◌, Bool, true, false, refl, sym, ap, ◌∙◌, Option, Some, None, option_map, not, lt-ltb}
use Rattle.std.specs.Option.{option_map_or}
use Rattle.std.specs.Prelude.{◌&&◌, ◌==◌, ◌||◌, nat_lt}
use Rattle.q_bare.specs.CountedRows.{is_best_by, may_life_by, may_preempt_by}
use Rattle.q_bare.specs.Counts.{Counts}
use Rattle.q_ledger.proofs.CandidateLaws.{best_same}
use Rattle.q_ledger.proofs.SlotLaws.{read_same, rest_same, slot_recounted, slot_row}
use Rattle.q_ledger.specs.Beside.{AreAccounts, IsCounted, recounted}
use Rattle.q_ledger.specs.Deciding.{loads_in, reads_on_in}
use Rattle.q_ledger.specs.Held.{rest_in, slot_in}
use Rattle.q_ledger.specs.Preempting.{best_in}
use Rattle.q_ledger.specs.Slots.{row_of_slot}
use Rattle.q_ledger.specs.State.{State}
use Rattle.q_ledger.specs.Worlds.{Given, world_of}
use Rattle.q_ledger.specs.declared.accounts.Accounts.{Accounts}
use Rattle.q_ledger.specs.declared.admitted.Slot.{Slot}
use Rattle.q_model.specs.Batches.{load_end}
use Rattle.q_model.specs.Book.{message_of}
use Rattle.q_model.specs.Ids.{id_eq}
use Rattle.q_model.specs.Ledger.{Ledger}
use Rattle.q_model.specs.Lives.{mode_eq}
use Rattle.q_model.specs.Loads.{may_load, may_load_of, reads_on}
use Rattle.q_model.specs.Memory.{free}
use Rattle.q_model.specs.Message.{Message}
use Rattle.q_model.specs.Preemptions.{is_current}
use Rattle.q_model.specs.Settings.{World}
use Rattle.q_model.specs.declared.event.Mode.{Mode}
use Rattle.q_model.specs.declared.id.Id.{Id}

-- ---- a life begins

next_kept : (next few same begun : Bool) → few ≡ true → begun ≡ true → (next && same) ≡ (next && few && (not begun || same))
next_kept true true same true h k = refl
next_kept false few same begun h k = refl
next_kept true false same begun h k = absurd cc
next_kept true true same false h k = absurd cc

pub life_same : (c : Counts) (l : Ledger) (generation : ℕ) (mode : Mode) → generation < 2 ^ 32 → c.begun ≡ true →
    ((generation == l.book.generation + 1) && mode_eq mode l.mode) ≡ may_life_by c l generation mode
life_same c l generation mode few begun =
    next_kept (generation == l.book.generation + 1) (nat_lt generation (2 ^ 32)) (mode_eq mode l.mode) c.begun (lt-ltb generation (2 ^ 32) few) begun

-- ---- a message reads

asked_same : (f g : Message → Bool) → ((m : Message) → f m ≡ g m) → (o : Option Message) → option_map_or f o false ≡ option_map_or g o false
asked_same f g h None = refl
asked_same f g h (Some m) = h m

load_by : (w : World) (s : State) → IsCounted s → (id : Id) (from to : ℕ) (o : Option Slot) →
    option_map_or (λ x. option_map_or (reads_on_in w s x from to) (message_of s.ledger.book id) false) (option_map (recounted s.ledger) o) false
    ≡ option_map_or (may_load_of w s.ledger id from to) (option_map row_of_slot o) false
load_by w s k id from to None = refl
load_by w s k id from to (Some x) =
    asked_same (reads_on_in w s (recounted s.ledger x) from to) (reads_on w s.ledger (row_of_slot x) from to)
    (λ m. ap (λ b. b && (from == x.unread) && (to == load_end m from (free w s.ledger))) (read_same w s k x))
    (message_of s.ledger.book id)

pub load_same : (w : World) (s : State) → IsCounted s → (id : Id) (from to : ℕ) → loads_in w s id from to ≡ may_load w s.ledger id from to
load_same w s k id from to =
    ap (λ o. option_map_or (λ x. option_map_or (reads_on_in w s x from to) (message_of s.ledger.book id) false) o false) (slot_recounted s k id)
    ∙ load_by w s k id from to (slot_in s id)
    ∙ sym (ap (λ o. option_map_or (may_load_of w s.ledger id from to) o false) (slot_row s k id))

-- ---- a job preempts

is_named : (id : Id) (o : Option Slot) → option_map_or (λ x. id_eq x.id id) o false ≡ option_map_or (λ b. id_eq b id) (option_map (λ (x : Slot). x.id) o) false
is_named id None = refl
is_named id (Some x) = refl

pub preempt_same : (g : Given) (s : State) (a : Accounts) (c : Counts) → IsCounted s → AreAccounts a c → (child parent : Id) (transport need : ℕ) →
    (is_current (world_of g) s.ledger transport parent && option_map_or (λ x. id_eq x.id child) (best_in g s a transport parent) false && (need == rest_in s child transport))
    ≡ may_preempt_by c (world_of g) s.ledger child parent transport need
preempt_same g s a c k h child parent transport need =
    let w = world_of g in
    let current = is_current w s.ledger transport parent in
    ap (λ b. current && b && (need == rest_in s child transport)) (is_named child (best_in g s a transport parent) ∙ ap (λ o. option_map_or (λ b. id_eq b child) o false) (best_same g s a c k h transport parent))
    ∙ ap (λ n. current && is_best_by c w s.ledger transport parent child && (need == n)) (rest_same s k child transport)
