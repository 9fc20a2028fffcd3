-- Where an entry is allowed, and the ledger after it.
use Rattle.std.specs.List.{enumerate_from, list_any}
use Rattle.std.specs.Prelude.{◌&&◌, ◌==◌, [], Bool, filter, List, map, not, true, ◌||◌, ℕ, ◌∷◌}
use Rattle.q_model.specs.declared.entry.Entry.{Entry}
use Rattle.q_model.specs.declared.id.Id.{Id}
use Rattle.q_model.specs.Admissions.{after_admit, may_admit}
use Rattle.q_model.specs.Arrivals.{after_arrive, may_arrive}
use Rattle.q_model.specs.Bounces.{after_bounce, may_bounce}
use Rattle.q_model.specs.Clock.{after_at, may_at}
use Rattle.q_model.specs.Sites.{site_eq}
use Rattle.q_model.specs.Ids.{id_eq}
use Rattle.q_model.specs.Leaving.{after_back, after_corrupt, after_defer, after_remove, may_back, may_corrupt, may_defer, may_remove}
use Rattle.q_model.specs.Ledger.{Ledger}
use Rattle.q_model.specs.Lives.{after_life, may_life}
use Rattle.q_model.specs.Loads.{after_load, may_load}
use Rattle.q_model.specs.Logs.{after_log, may_log}
use Rattle.q_model.specs.Marking.{after_mark, may_mark}
use Rattle.q_model.specs.Memory.{unread_of}
use Rattle.q_model.specs.Past.{has_entries, is_life, is_living}
use Rattle.q_model.specs.Preemptions.{after_preempt, may_preempt}
use Rattle.q_model.specs.Replies.{after_reply, may_reply}
use Rattle.q_model.specs.Scans.{tidy_scan}
use Rattle.q_model.specs.Settings.{World}
use Rattle.q_model.specs.Skips.{after_skip, may_skip}
use Rattle.q_model.specs.Starts.{after_start, may_start}
use Rattle.q_model.specs.Syncs.{after_sync, may_sync}
use Rattle.q_model.specs.Triggers.{after_trigger}
use Rattle.q_model.specs.UnusedSites.{tidied_sites}
use Rattle.q_model.specs.declared.entry.Entry.TheVariants as entries

-- the rows, one for each kind of entry
abbrev pub may : World → Ledger → Entry → Bool
may w l (entries.Life generation mode) = may_life l generation mode
may w l (entries.At t) = may_at l t
may w l (entries.Arrive id sender to content) = may_arrive l id
may w l (entries.Back id) = may_back l id
may w l (entries.Admit id) = may_admit w l id
may w l (entries.Load id from to) = may_load w l id from to
may w l (entries.Start number id site positions) = may_start w l number id site positions
may w l (entries.Preempt child parent transport need) = may_preempt w l child parent transport need
may w l (entries.Reply number state outcomes) = may_reply l number state outcomes
may w l (entries.Skip id site positions) = may_skip l id site positions
may w l (entries.Log id failure) = may_log l id failure
may w l (entries.Mark id position) = may_mark l id position
may w l (entries.Sync id) = may_sync l id
may w l (entries.Defer id due) = may_defer w l id due
may w l (entries.Bounce id) = may_bounce l id
may w l (entries.Remove id) = may_remove l id
may w l (entries.Corrupt id) = may_corrupt w l id
may w l (entries.Trigger kind) = l.timed
may w l entries.End = true

-- The first entry is `life`, and none comes after `end`.
unfoldable pub allowed : World → Ledger → Entry → Bool
allowed w l e = (is_living l || (is_life e && not (has_entries l))) && may w l e

-- what an entry changes, one row for each kind
abbrev pub change : World → Ledger → Entry → Ledger
change w l (entries.Life generation mode) = after_life w l generation mode
change w l (entries.At t) = after_at w l t
change w l (entries.Arrive id sender to content) = after_arrive l id sender to content
change w l (entries.Back id) = after_back l id
change w l (entries.Admit id) = after_admit l id
change w l (entries.Load id from to) = after_load w l id from to
change w l (entries.Start number id site positions) = after_start l number id site positions
change w l (entries.Preempt child parent transport need) = after_preempt l child parent transport
change w l (entries.Reply number state outcomes) = after_reply w l number state outcomes
change w l (entries.Skip id site positions) = after_skip w l id site positions
change w l (entries.Log id failure) = after_log l id failure
change w l (entries.Mark id position) = after_mark l id position
change w l (entries.Sync id) = after_sync l id
change w l (entries.Defer id due) = after_defer l id due
change w l (entries.Bounce id) = after_bounce l id
change w l (entries.Remove id) = after_remove l id
change w l (entries.Corrupt id) = after_corrupt l id
change w l (entries.Trigger kind) = after_trigger w l kind
change w l entries.End = l

-- an id stays in a line while it has something unread, or waits there
abbrev pub stays : Ledger → ℕ → Id → Bool
stays l transport id =
    not (unread_of l id == 0) || list_any (λ r. id_eq r.id id && (r.site.transport == transport)) l.waiting

-- a line without those who have left it
abbrev pub tidy_line : Ledger → (ℕ × List Id) → List Id
tidy_line l line = filter (stays l line.0) line.1

-- The ledger tidied after an entry: lines, served rows and site records of what is left, and a scan that goes on
abbrev pub tidied : World → Ledger → Ledger → Ledger
tidied w before l =
    let s = tidy_scan l in
    record s {
      lines = map (tidy_line l) (enumerate_from 0 l.lines);
      served = filter (λ s. list_any (λ r. id_eq r.id s.id && site_eq r.site s.site) l.waiting) l.served;
      sites = tidied_sites w before l;
    }

-- the entry is of the past
abbrev pub noted : Entry → Ledger → Ledger
noted e l = record l { past = e ∷ l.past }

-- the ledger after an entry
unfoldable pub after : World → Ledger → Entry → Ledger
after w l e = tidied w l (noted e (change w l e))

-- the ledger after these entries
unfoldable pub after_all : World → Ledger → List Entry → Ledger
after_all w l [] = l
after_all w l (e ∷ es) = after_all w (after w l e) es
