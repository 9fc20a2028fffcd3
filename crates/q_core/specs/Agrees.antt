-- When the core agrees with a ledger: what it holds is what the ledger's parts say.
use Rattle.q_model.specs.Marking.{marks_leftover}
use Rattle.q_model.specs.declared.entry.Entry.{Entry}
use Rattle.q_model.specs.declared.entry.Entry.TheVariants as entries
use Rattle.q_model.specs.declared.event.Mode.{Mode}
use Rattle.q_model.specs.Book.{Book, all_ids, message_of}
use Rattle.q_model.specs.Ledger.{Ledger}
use Rattle.q_model.specs.Orderly.{is_orderly}
use Rattle.q_model.specs.Settings.{Settings, World}
use Rattle.q_model.specs.Step.{after, allowed, may}
use Rattle.std.specs.List.{enumerate_from, list_any}
use Rattle.std.specs.Option.{option_map_or}
use Rattle.std.specs.Prelude.{◌≡◌, ◌≤◌, Bool, count_by, false, is_none, length, List, map, not, Option, slice_get, Some, true, ℕ}
use Rattle.q_model.specs.declared.id.Id.{Id}
use Rattle.q_model.specs.declared.rows.Admitted.{Admitted}
use Rattle.q_model.specs.declared.rows.DeferredName.{DeferredName}
use Rattle.q_model.specs.declared.rows.Request.{Request}
use Rattle.q_model.specs.declared.rows.Scan.{Scan}
use Rattle.q_model.specs.Accounts.{charged, starts_of}
use Rattle.q_model.specs.Admissions.{cause_gone}
use Rattle.q_model.specs.Finishing.{has_bounce}
use Rattle.q_model.specs.Ids.{are_distinct, id_eq}
use Rattle.q_model.specs.Leftovers.{is_leftover, next_leftover, was_synced}
use Rattle.q_model.specs.Lists.{has_none}
use Rattle.q_model.specs.Marks.{is_marked}
use Rattle.q_model.specs.Memory.{in_memory}
use Rattle.q_model.specs.Message.{Message, pending, unmarked_logged, written_marks}
use Rattle.q_model.specs.Past.{is_living, starts}
use Rattle.q_model.specs.Alternation.{deferred_next, incoming_next}
use Rattle.q_laws.specs.Laws.{opened_ledger}
use Rattle.q_laws.specs.Consistency.{IsConsistent}
use Rattle.q_laws.specs.SitesConsistency.{IsSitesConsistent}
use Rattle.q_core.specs.Scanning.{scan_after}
use Rattle.q_core.specs.declared.decision.FileFacts.{FileFacts}
use Rattle.q_core.specs.declared.decision.Found.{Found}
use Rattle.q_jobs.specs.declared.job.Job.{Job}
use Rattle.q_pool.specs.declared.slot.Slot.{Slot}
use Rattle.q_core.specs.declared.state.Core.{Core}
use Rattle.q_core.specs.declared.state.Seen.{Seen}
use Rattle.q_core.specs.declared.decision.Found.TheVariants.{Damaged, Nothing, Whole}
use Rattle.q_core.specs.declared.state.Seen.TheVariants.{Known, Unknown}

-- the row of a message in memory, by whether its bounce stands and by the message
abbrev pub slot_from : Admitted → Bool → Option Message → Slot
slot_from a bounced o = record {
  id = a.id;
  arrival = option_map_or (λ m. m.arrival) o 0;
  null_sender = option_map_or (λ m. is_none m.sender) o false;
  recipients = option_map_or (λ m. length m.recipients) o 0;
  unread = a.unread;
  marks = option_map_or (λ m. length (written_marks m)) o 0;
  pending = option_map_or (λ m. length (pending m)) o 0;
  logged = option_map_or (λ m. not (has_none (unmarked_logged m))) o false;
  failed = option_map_or (λ m. not (has_none m.failures)) o false;
  bounced = bounced;
  damaged = false;
}

-- each of its numbers is counted in the book
abbrev pub slot_of : Ledger → Admitted → Slot
slot_of l a = slot_from a (has_bounce l a.id) (message_of l.book a.id)

-- the job of an id at a transport, with its account
abbrev pub job_of : Ledger → ℕ → Id → Job
job_of l transport id = record {
  id = id;
  starts = starts_of l id transport;
  charged =
      charged l id transport;
}

-- the jobs of a line
abbrev pub jobs_of : Ledger → (ℕ × List Id) → List Job
jobs_of l line = map (job_of l line.0) line.1

-- how many recipients are marked
abbrev pub count_of_marked : Message → ℕ
count_of_marked m = count_by (λ r. is_marked r.mark) m.recipients

-- what a look tells of a message
abbrev pub file_of : Ledger → Id → Message → FileFacts
file_of l id m = record {
  arrival = m.arrival;
  null_sender = is_none m.sender;
  recipients = length m.recipients;
  marked = count_of_marked m;
  failures = length m.failures;
  unmarked = slice_get (unmarked_logged m) 0;
  bounced = has_bounce l id;
  alone = cause_gone l.book id;
}

-- what a look tells of an id
abbrev pub found_at : Ledger → ℕ → Id → Found
found_at l due id = option_map_or (λ m. Whole id due (file_of l id m)) (message_of l.book id)
    (Damaged id due (cause_gone l.book id))

-- what a look tells where it comes to a name of deferred, or to none
abbrev pub found_next : Ledger → Option DeferredName → Found
found_next l o = option_map_or (λ (n : DeferredName). found_at l n.due n.id) o Nothing

-- the true answers to the three looks
abbrev pub found_active : Ledger → Found
found_active l = option_map_or (λ id. found_at l 0 id) (next_leftover l) Nothing

abbrev pub found_incoming : Ledger → Found
found_incoming l = option_map_or (λ id. found_at l 0 id) (incoming_next l) Nothing

abbrev pub found_deferred : Ledger → Found
found_deferred l = found_next l (deferred_next l)

-- what a look has shown is still true
abbrev pub IsSeen : Seen → Found → Type 0
IsSeen Unknown found = Unit {0}
IsSeen (Known seen) found = seen ≡ found

-- what a look at deferred has shown is still true, and the scan is the ledger's
abbrev pub IsSeenScan : Seen → Option Scan → Option Request → Ledger → Type 0
IsSeenScan Unknown scan asked l = Unit {0}
IsSeenScan (Known found) scan asked l = (scan ≡ l.scan) × (asked ≡ l.asked)
    × (found ≡ found_deferred l)

-- What the core's scan and request come to be by the book are the ledger's. Where deferred was
-- looked at,
-- they are so already.
pub record IsScan (c : Core) (l : Ledger) : Type 0 where
  pub goes_on : scan_after l.book l.now c.scan c.asked ≡ (l.scan, l.asked)
  pub seen : IsSeenScan c.deferred c.scan c.asked l

-- Of each message that an earlier life left the core knows whether it was synced in this one. It
-- forgets the others.
abbrev pub AreSyncedAlike : List Id → Ledger → Type 0
AreSyncedAlike ids l = (id : Id) → is_leftover l id ≡ true → list_any (id_eq id) ids ≡ was_synced l id

-- all but the scan
pub record AgreesButScan (w : World) (c : Core) (l : Ledger) : Type 0 where
  pub settings : c.params ≡ w.settings
  pub count : c.transports ≡ length l.lines
  pub transports : length l.lines ≡ length w.table.transports
  pub mode : c.mode ≡ l.mode
  pub clock : c.clock.seconds ≡ l.now
  pub timed : c.timed ≡ l.timed
  pub next_run : c.next_run ≡ l.next_run
  pub ignores : c.ignores ≡ l.ignores
  pub deferred_follows : c.deferred_follows ≡ l.deferred_follows
  pub admitted : c.admitted ≡ map (slot_of l) l.admitted
  pub waiting : c.waiting ≡ l.waiting
  pub flights : c.flights ≡ l.flights
  pub memory : c.in_memory ≡ in_memory l
  pub served : c.served ≡ l.served
  pub unsettled : c.unsettled ≡ l.unsettled
  pub lines : c.lines ≡ map (jobs_of l) (enumerate_from 0 l.lines)
  pub sites : c.sites ≡ l.sites
  pub synced : AreSyncedAlike c.synced l
  pub starts : c.starts ≡ starts l
  pub active : IsSeen c.active (found_active l)
  pub incoming : IsSeen c.incoming (found_incoming l)

-- what the core holds is what the ledger says
pub record Matches (w : World) (c : Core) (l : Ledger) : Type 0 where
  pub parts : AgreesButScan w c l
  pub scan : IsScan c l

-- the core agrees with the ledger of a life that goes on, of which all fits together
pub record Agrees (w : World) (c : Core) (l : Ledger) : Type 0 where
  pub matches : Matches w c l
  pub consistent : IsConsistent w l
  pub sites : IsSitesConsistent w l
  pub living : is_living l ≡ true
  pub moment : l.now ≤ 999990000000

-- for each such ledger with these settings and so many transports
abbrev pub ForFirst : Settings → ℕ → Mode → (World → Book → Ledger → Type 0) → Type 0
ForFirst params transports mode says = (w : World) → (book : Book) → params ≡ w.settings →
    transports ≡ length w.table.transports → says w book (opened_ledger w mode book)

-- the core agrees with the ledger, where its book is orderly and has no id twice
abbrev pub AgreesIfOrderly : World → Core → Book → Ledger → Type 0
AgreesIfOrderly w c book l = are_distinct (all_ids book) ≡ true → is_orderly book ≡ true
    → Agrees w c l

-- the core agrees with the ledger, where that fits together
abbrev pub AgreesIfConsistent : World → Core → Ledger → Type 0
AgreesIfConsistent w c l = IsConsistent w l → IsSitesConsistent w l → Agrees w c l

-- for each ledger with which the core agrees
abbrev pub ForLedgers : Core → (World → Ledger → Type 0) → Type 0
ForLedgers c says = (w : World) → (l : Ledger) → Agrees w c l → says w l

-- Where a ledger may have the entry, the core becomes what the ledger is after it.
abbrev pub Follows : Core → Core → Entry → Type 0
Follows old new e = ForLedgers old (λ w l. may w l e ≡ true → Matches w new (after w l e))

-- the same where a rule has the entry
abbrev pub FollowsRule : Core → Core → (World → Ledger → Option Entry) → Entry → Type 0
FollowsRule old new rule e = ForLedgers old (λ w l. rule w l ≡ Some e → Matches w new (after w l e))

-- the same where the ledger allows the entry
abbrev pub FollowsAllowed : Core → Core → Entry → Type 0
FollowsAllowed old new e = ForLedgers old (λ w l. allowed w l e ≡ true
    → Matches w new (after w l e))

-- after the mark of a failure that an earlier life left, the core is what the ledger is
abbrev pub MarksLeftovers : World → Ledger → Core → Type 0
MarksLeftovers w l new = (id : Id) → (position : ℕ) → marks_leftover l id position ≡ true
    → Matches w new
    (after w l (entries.Mark id position))
