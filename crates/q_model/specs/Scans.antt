-- Scans of the deferred queue (qmgr(8), the triggers D and A; postconf(5): queue_run_delay).
use Rattle.std.specs.Option.{option_map_or}
use Rattle.std.specs.Prelude.{◌&&◌, ◌++◌, ◌==◌, Bool, false, filter, filter_map, if◌then◌else◌, List, nat_le, nat_lt, None, Option, option_and_then, option_map, Some, true, ◌||◌, ℕ}
use Rattle.q_model.specs.declared.id.Id.{Id}
use Rattle.q_model.specs.declared.rows.DeferredName.{DeferredName}
use Rattle.q_model.specs.declared.rows.Place.{Place}
use Rattle.q_model.specs.declared.rows.Request.{Request}
use Rattle.q_model.specs.declared.rows.Scan.{Scan}
use Rattle.q_model.specs.Book.{Book}
use Rattle.q_model.specs.Ids.{id_before}
use Rattle.q_model.specs.Ledger.{Ledger}
use Rattle.q_model.specs.Lists.{least}
use Rattle.q_model.specs.Places.{due_of}
use Rattle.q_model.specs.declared.rows.Request.TheVariants as requests

-- the order of names in deferred: by due time, and then by id
abbrev pub name_before : DeferredName → DeferredName → Bool
name_before a b = nat_lt a.due b.due || ((a.due == b.due) && id_before a.id b.id)

-- the name of a message in deferred
abbrev pub deferred_name : Place → Id → Option DeferredName
deferred_name place id = option_map (λ due. record { due = due; id = id }) (due_of place)

-- all names in deferred
abbrev pub deferred_names : Book → List DeferredName
deferred_names b = filter_map (λ m. deferred_name m.place m.id) b.messages
    ++ filter_map (λ d. deferred_name d.place d.id) b.damaged

-- the scan hasn't come to the name, and takes it
abbrev pub is_ahead : Scan → DeferredName → Bool
is_ahead s n = nat_le n.due s.until && (option_map_or (λ p. name_before p n) s.place true)

-- the next name of a scan
abbrev pub scan_next : Book → Scan → Option DeferredName
scan_next b s = least name_before (filter (is_ahead s) (deferred_names b))

-- a scan that opens now
abbrev pub new_scan : ℕ → Request → Scan
new_scan now requests.Due = record { place = None; until = now }
new_scan now requests.All = record { place = None; until = 999999999999 }

-- of two requests that are remembered the one for all wins
abbrev pub joined_request : Option Request → Request → Request
joined_request None request = request
joined_request (Some requests.Due) request = request
joined_request (Some requests.All) request = requests.All

-- the request is remembered
abbrev pub remember_scan : Ledger → Request → Ledger
remember_scan l request = record l { asked = Some (joined_request l.asked request); ignores = false }

-- a scan opens
abbrev pub open_scan : Ledger → Request → Ledger
open_scan l request = record l { scan = Some (new_scan l.now request); ignores = false }

-- asks for a scan, which ignores due times where the ledger says so
abbrev pub ask_scan : Ledger → Ledger
ask_scan l = let request : Request = if l.ignores then requests.All else requests.Due in
    option_map_or (λ s. remember_scan l request) l.scan (open_scan l request)

-- the scan, where it has a next message
abbrev pub live : Book → Scan → Option Scan
live b s = option_and_then (λ n. Some s) (scan_next b s)

-- a scan is over, and one that was asked for meanwhile opens
abbrev pub end_scan : Ledger → Option Request → Ledger
end_scan l None = record l { scan = None }
end_scan l (Some request) = record l { scan = live l.book (new_scan l.now request); asked = None }

-- it goes on while it has a next name
abbrev pub tidy_scan_at : Ledger → Option DeferredName → Ledger
tidy_scan_at l None = end_scan l l.asked
tidy_scan_at l (Some name) = l

-- the same by the scan
abbrev pub tidy_scan_of : Ledger → Option Scan → Ledger
tidy_scan_of l None = l
tidy_scan_of l (Some s) = tidy_scan_at l (scan_next l.book s)

-- A scan without a next message is over, and one that was asked for meanwhile opens.
abbrev pub tidy_scan : Ledger → Ledger
tidy_scan l = tidy_scan_of l l.scan
