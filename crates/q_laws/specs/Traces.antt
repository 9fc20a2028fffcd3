-- The entries that a ledger may have one after another: each comes from outside and is allowed, or
-- is the next decision.
use Rattle.std.specs.Prelude.{◌&&◌, ◌≡◌, ◌≤◌, ◌⊎◌, [], Bool, false, length, List, Some, true, ◌∷◌}
use Rattle.q_model.specs.declared.entry.Entry.{Entry}
use Rattle.q_model.specs.declared.event.LifeEvent.{LifeEvent}
use Rattle.q_model.specs.Ledger.{Ledger}
use Rattle.q_model.specs.Memory.{in_memory}
use Rattle.q_model.specs.Next.{next}
use Rattle.q_model.specs.Run.{entry_of, turn}
use Rattle.q_model.specs.Settings.{World}
use Rattle.q_model.specs.Step.{after, after_all, allowed}
use Rattle.q_model.specs.declared.entry.Entry.TheVariants as entries

-- the entry comes from outside; all others are decisions
abbrev pub is_outside : Entry → Bool
is_outside (entries.Life generation mode) = true
is_outside (entries.At t) = true
is_outside (entries.Arrive id sender to content) = true
is_outside (entries.Reply number state outcomes) = true
is_outside (entries.Trigger kind) = true
is_outside entries.End = true
is_outside _ = false

-- the entry neither begins nor ends a life, and leaves the clock
abbrev pub is_inner : Entry → Bool
is_inner (entries.Life generation mode) = false
is_inner (entries.At t) = false
is_inner entries.End = false
is_inner _ = true

-- the entry comes from outside and is allowed, or is the next decision
abbrev pub IsEntryOf : World → Ledger → Entry → Type 0
IsEntryOf w l e = ((is_outside e && allowed w l e) ≡ true) ⊎ (next w l ≡ Some e)

-- each is an entry of the ledger after those before it
abbrev pub AreEntriesOf : World → Ledger → List Entry → Type 0
AreEntriesOf w l [] = Unit {0}
AreEntriesOf w l (e ∷ es) = IsEntryOf w l e × AreEntriesOf w (after w l e) es

-- each item's own entry is allowed after the turns of those before it
abbrev pub AreAllowed : World → Ledger → List LifeEvent → Type 0
AreAllowed w l [] = Unit {0}
AreAllowed w l (item ∷ items) = (allowed w l (entry_of l item) ≡ true)
    × AreAllowed w (after_all w l (turn w l item)) items

-- the messages and the recipients in memory are no more than their limits (postconf(5):
-- qmgr_message_active_limit, qmgr_message_recipient_limit)
pub record IsWithinLimits (w : World) (l : Ledger) : Type 0 where
  pub messages : length l.admitted ≤ w.settings.active_limit
  pub recipients : in_memory l ≤ w.settings.recipient_limit
