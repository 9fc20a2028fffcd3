-- What is left of lines and served rows as a row of a message waits no more: only those of the message are
-- looked at.
use Rattle.std.specs.List.{enumerate_from, list_any}
use Rattle.std.specs.Prelude.{◌==◌, Bool, filter, if◌then◌else◌, List, map, not, ◌||◌, ◌&&◌, ℕ}
use Rattle.q_ledger.specs.Changed.{ids_without, with_ledger}
use Rattle.q_ledger.specs.Held.{unread_in}
use Rattle.q_ledger.specs.State.{State}
use Rattle.q_model.specs.Ids.{id_eq}
use Rattle.q_model.specs.Ledger.{Ledger}
use Rattle.q_model.specs.Sites.{site_eq}
use Rattle.q_model.specs.Values.{Served, Site}
use Rattle.q_model.specs.declared.id.Id.{Id}
use Rattle.q_model.specs.declared.rows.Row.{Row}

-- the message stays in the line of the transport: something of it is unread, or one of its rows waits there
abbrev pub stays_by : List Row → Bool → ℕ → Bool
stays_by rows unread transport = unread || list_any (λ r. r.site.transport == transport) rows

-- the line, without the message where it doesn't stay
abbrev pub line_by : List Row → Bool → Id → (ℕ × List Id) → List Id
line_by rows unread id line = if stays_by rows unread line.0 then line.1 else ids_without id line.1

-- the same of each line
abbrev pub lines_by : List Row → Bool → Id → List (List Id) → List (List Id)
lines_by rows unread id lines = map (line_by rows unread id) (enumerate_from 0 lines)

-- the rows of the message that wait
abbrev pub rows_of : Ledger → Id → List Row
rows_of l id = filter (λ r. id_eq r.id id) l.waiting

-- the message has left the lines in which it doesn't stay
abbrev pub with_lines_left : Id → State → State
with_lines_left id s = with_ledger s (record s.ledger {
  lines = lines_by (rows_of s.ledger id) (not (unread_in s id == 0)) id s.ledger.lines;
})

-- this served row
abbrev pub is_served_at : Id → Site → Served → Bool
is_served_at id site s = id_eq s.id id && site_eq s.site site

-- a row of the message waits at the site
abbrev pub waits_there : Ledger → Id → Site → Bool
waits_there l id site = list_any (λ r. id_eq r.id id && site_eq r.site site) l.waiting

-- the served rows, without this one where nothing waits there
abbrev pub served_left : Ledger → Id → Site → List Served
served_left l id site =
    if waits_there l id site then l.served else filter (λ s. not (is_served_at id site s)) l.served

-- the message counts as never served at the site, where it doesn't wait there
abbrev pub with_served_left : Id → Site → State → State
with_served_left id site s = with_ledger s (record s.ledger { served = served_left s.ledger id site })
