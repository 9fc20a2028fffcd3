-- What comes from outside, as entries.
use Rattle.std.specs.Prelude.{◌≡◌, ◌≤◌, Bool, List, Option, true, ℕ}
use Rattle.std.specs.List.{list_all}
use Rattle.q_model.specs.FailureLog.{is_log_code}
use Rattle.q_model.specs.declared.outcome.Outcome.{Outcome}
use Rattle.q_model.specs.declared.outcome.Outcome.TheVariants as outcomes
use Rattle.q_model.specs.Values.{Receiver}
use Rattle.q_model.specs.declared.entry.Entry.{Entry}
use Rattle.q_model.specs.Ledger.{Ledger}
use Rattle.q_model.specs.Settings.{World}
use Rattle.q_model.specs.Step.{after, allowed}
use Rattle.q_core.specs.Agrees.{Agrees}
use Rattle.q_core.specs.declared.state.Core.{Core}
use Rattle.q_model.specs.declared.entry.Entry.TheVariants as entries
use Rattle.q_core.specs.declared.event.Heard.{Heard}
use Rattle.q_core.specs.declared.event.Heard.TheVariants.{At, Mail, Reply, Trigger}

-- the entry of an event; that of a mail has its texts besides
abbrev pub IsHeard : Heard → Entry → Type 0
IsHeard (At moment) e = e ≡ entries.At moment
IsHeard (Mail id) e = (sender : Option (List ℕ)) × (to : List Receiver) × (content : List ℕ)
    × (e ≡ entries.Arrive id sender to content)
IsHeard (Reply number site outcomes) e = e ≡ entries.Reply number site outcomes.now
IsHeard (Trigger kind) e = e ≡ entries.Trigger kind

-- the core agrees with the ledger after the event's entry, where that is allowed
abbrev pub Hears : World → Ledger → Heard → Core → Type 0
Hears w l heard c = (e : Entry) → IsHeard heard e → allowed w l e ≡ true → Agrees w c (after w l e)

-- a moment in input
abbrev pub IsInTime : Heard → Type 0
IsInTime (At moment) = moment ≤ 999990000000
IsInTime (Mail id) = Unit {0}
IsInTime (Reply number site outcomes) = Unit {0}
IsInTime (Trigger kind) = Unit {0}

-- a moment came in this life: the event is one, or one came before
abbrev pub is_timed_by : Heard → Bool → Bool
is_timed_by (At moment) timed = true
is_timed_by (Mail id) timed = timed
is_timed_by (Reply number site outcomes) timed = timed
is_timed_by (Trigger kind) timed = timed

-- the code of an outcome is one that a log can hold
abbrev pub has_log_code : Outcome → Bool
has_log_code outcomes.Ok = true
has_log_code (outcomes.Later code) = is_log_code code
has_log_code (outcomes.Never code) = is_log_code code

-- so are those of a reply
abbrev pub HasLogCodes : Heard → Type 0
HasLogCodes (At moment) = Unit {0}
HasLogCodes (Mail id) = Unit {0}
HasLogCodes (Reply number site os) = list_all has_log_code os.now ≡ true
HasLogCodes (Trigger kind) = Unit {0}
