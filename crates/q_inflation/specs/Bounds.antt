-- How many deliveries preemption may put before a job.
use Rattle.std.specs.Prelude.{◌*◌, ◌++◌, ◌-◌, ◌≡◌, ◌≤◌, length, List, Some, true, ℕ, ◌∷◌}
use Rattle.q_laws.specs.Consistency.{IsUsable}
use Rattle.q_laws.specs.Traces.{AreAllowed}
use Rattle.q_model.specs.declared.entry.Entry.{Entry}
use Rattle.q_model.specs.declared.event.LifeEvent.{LifeEvent}
use Rattle.q_model.specs.declared.event.Mode.{Mode}
use Rattle.q_model.specs.declared.id.Id.{Id}
use Rattle.q_model.specs.Book.{all_ids, Book, message_of}
use Rattle.q_model.specs.Ids.{are_distinct}
use Rattle.q_model.specs.Ledger.{Ledger, opening}
use Rattle.q_model.specs.Message.{Message}
use Rattle.q_model.specs.Orderly.{is_orderly}
use Rattle.q_model.specs.PreemptingStarts.{preempting_starts}
use Rattle.q_model.specs.Run.{run_of}
use Rattle.q_model.specs.Settings.{World}
use Rattle.q_model.specs.Step.{after_all}
use Rattle.q_model.specs.declared.entry.Entry.TheVariants as entries
use Rattle.q_model.specs.declared.event.LifeEvent.TheVariants as items

-- a call: its parameters and table, its mode, the book that it begins with, and its input
pub record Call : Type 0 where
  pub world : World
  pub mode : Mode
  pub book : Book
  pub items : List LifeEvent

-- the entries of its run
abbrev pub call_entries : Call → List Entry
call_entries call = run_of call.world call.mode call.book call.items

-- the ledger after the first of them
abbrev pub ledger_after : Call → List Entry → Ledger
ledger_after call es = after_all call.world (opening call.mode call.book) es

-- a call whose book is orderly and has no id twice, and whose input fits
pub record IsCall (call : Call) : Type 0 where
  pub usable : IsUsable call.world
  pub distinct : are_distinct (all_ids call.book) ≡ true
  pub orderly : is_orderly call.book ≡ true
  pub fits : AreAllowed call.world (opening call.mode call.book) (items.Begin ∷ call.items)

-- A message at a moment of the run: the entries before the one by which it comes into memory, those
-- since, and those that are still to come.
pub record IsInMemory
    (call : Call) (m : Message) (id : Id) (before since : List Entry) : Type 0 where
  pub later : List Entry
  pub entries : call_entries call ≡ before ++ (entries.Admit id ∷ (since ++ later))
  pub message : message_of (ledger_after call before).book id ≡ Some m

-- The deliveries that went before its job at a transport since, of jobs that preempted it, directly
-- or through others, times the slot cost less one, are at most its recipients.
abbrev pub IsBounded : Call → Message → Id → List Entry → Type 0
IsBounded call m id since = (transport : ℕ) →
    preempting_starts id transport since * (call.world.settings.slot_cost - 1) ≤ length m.recipients

-- Where a slot costs nothing, no job preempts its job: none goes before it so.
abbrev pub IsFirstAtNoCost : Call → Message → Id → List Entry → Type 0
IsFirstAtNoCost call m id since =
    call.world.settings.slot_cost ≡ 0 → (transport : ℕ) → preempting_starts id transport since ≡ 0

-- so of each message in memory, at each moment of each run
abbrev pub AtEachMoment : (Call → Message → Id → List Entry → Type 0) → Type 0
AtEachMoment P = (call : Call) (m : Message) (id : Id) (before since : List Entry) →
    IsCall call → IsInMemory call m id before since → P call m id since
