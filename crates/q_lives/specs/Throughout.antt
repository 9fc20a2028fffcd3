-- What holds of each entry of each life: limits, windows, delays and accounts, and that a message leaves
-- wholly done.
use Rattle.std.specs.Option.{option_map_or}
use Rattle.std.specs.Prelude.{◌*◌, ◌+◌, ◌-◌, ◌≡◌, ◌≤◌, [], List, Some, ℕ, ◌∷◌}
use Rattle.q_laws.specs.Resting.{GoesOneByOne, KeepsApart}
use Rattle.q_laws.specs.SitesConsistency.{IsOpen}
use Rattle.q_laws.specs.Traces.{IsWithinLimits}
use Rattle.q_model.specs.declared.entry.Entry.{Entry}
use Rattle.q_model.specs.declared.id.Id.{Id}
use Rattle.q_model.specs.Accounts.{charged, job_left, starts_of}
use Rattle.q_model.specs.Book.{Book, message_of}
use Rattle.q_model.specs.Deliveries.{busy}
use Rattle.q_model.specs.Ledger.{Ledger, opening}
use Rattle.q_model.specs.Message.{Message, pending}
use Rattle.q_model.specs.Settings.{World}
use Rattle.q_model.specs.SiteRecords.{record_of}
use Rattle.q_model.specs.Step.{after}
use Rattle.q_model.specs.Values.{Site}
use Rattle.q_lives.specs.Lives.{Life, life_entries}
use Rattle.q_model.specs.declared.entry.Entry.TheVariants as entries

-- so of each entry, by the ledger before it
abbrev pub AtEach : (World → Ledger → Entry → Type 0) → World → Ledger → List Entry → Type 0
AtEach P w l [] = Unit {0}
AtEach P w l (e ∷ es) = P w l e × AtEach P w (after w l e) es

-- so of each entry of a life on a book
abbrev pub AtEachOf : (World → Ledger → Entry → Type 0) → Book → Life → Type 0
AtEachOf P book life = AtEach P life.world (opening life.mode book) (life_entries book life)

-- so of each entry of each life
abbrev pub Throughout : (World → Ledger → Entry → Type 0) → Book → List Life → Type 0
Throughout P book [] = Unit {0}
Throughout P book (life ∷ lives) = AtEachOf P book life × Throughout P life.left lives

-- the window of a site, 0 where nothing is known of it
abbrev pub window_of : Ledger → Site → ℕ
window_of l site = option_map_or (λ r. r.window) (record_of l site) 0

-- the deliveries in flight at a site are no more than the site's window
abbrev pub IsWithinWindow : Ledger → Site → Type 0
IsWithinWindow l site = busy l site ≤ window_of l site

-- just after a start its site is within its window; replies may narrow the window later
abbrev pub FitsWindow : World → Ledger → Entry → Type 0
FitsWindow w l (entries.Start number id site positions) =
    IsWithinWindow (after w l (entries.Start number id site positions)) site
FitsWindow w l _ = Unit {0}

-- behind the reply to a delivery the next one to its site begins the delay later, in the same life, unless
-- the site was forgotten
abbrev pub DeliversApart : World → Ledger → Entry → Type 0
DeliversApart w l e = KeepsApart w l

-- after the entry at most one delivery to each site is in flight, where there is a delay between them
abbrev pub DeliversOneByOne : World → Ledger → Entry → Type 0
DeliversOneByOne w l e = IsOpen w → GoesOneByOne w (after w l e)

-- what a job was charged so far, in deliveries
abbrev pub owed : World → Ledger → Id → ℕ → ℕ
owed w l id transport = w.settings.slot_cost * charged l id transport

-- what a job started so far and has left, in deliveries
abbrev pub whole_of : Ledger → Id → ℕ → ℕ
whole_of l id transport = starts_of l id transport + job_left l id transport

-- A preemption is paid for by the parent's account, which is what it started less what it was
-- charged. With a loan it bears the need less its discount; with what is left it bears the whole
-- need; and the job isn't too short. What is subtracted stands on the left here.
pub record IsPaid (w : World) (l : Ledger) (child parent : Id) (transport need : ℕ) : Type 0 where
  pub whole_need : need ≡ job_left l child transport
  pub loan :
      need * (100 - w.settings.slot_discount) * w.settings.slot_cost
      + 100 * owed w l parent transport
      ≤ 100 * (starts_of l parent transport + w.settings.slot_loan * w.settings.slot_cost)
  pub whole :
      w.settings.slot_cost * need + owed w l parent transport ≤ whole_of l parent transport
  pub minimum : w.settings.slot_cost * w.settings.minimum_slots ≤ whole_of l parent transport

-- each preemption is paid for by the account of the job that it is charged to
abbrev pub FitsAccount : World → Ledger → Entry → Type 0
FitsAccount w l (entries.Preempt child parent transport need) =
    IsPaid w l child parent transport need
FitsAccount w l _ = Unit {0}

-- after the entry the messages and the recipients in memory are within their limits
abbrev pub KeepsLimits : World → Ledger → Entry → Type 0
KeepsLimits w l e = IsWithinLimits w (after w l e)

-- a message that leaves is wholly done: no recipient of it is pending
abbrev pub LeavesDone : World → Ledger → Entry → Type 0
LeavesDone w l (entries.Remove id) = (m : Message) → message_of l.book id ≡ Some m → pending m ≡ []
LeavesDone w l _ = Unit {0}
