-- Entry `load`: recipients come into memory (postconf(5): qmgr_message_recipient_limit).
use Rattle.std.specs.List.{enumerate_from, list_any}
use Rattle.std.specs.Option.{option_map_or}
use Rattle.std.specs.Prelude.{◌&&◌, ◌++◌, ◌==◌, [], Bool, false, if◌then◌else◌, List, map, min, nat_le, nat_lt, not, ℕ, ◌∷◌}
use Rattle.q_model.specs.Message.{Message}
use Rattle.q_model.specs.declared.id.Id.{Id}
use Rattle.q_model.specs.declared.rows.Admitted.{Admitted}
use Rattle.q_model.specs.declared.rows.Row.{Row}
use Rattle.q_model.specs.Batches.{load_end, load_rows}
use Rattle.q_model.specs.Book.{message_of}
use Rattle.q_model.specs.Ids.{id_eq}
use Rattle.q_model.specs.Ledger.{Ledger}
use Rattle.q_model.specs.Memory.{admitted_of, free, has_waiting, unread_count}
use Rattle.q_model.specs.Settings.{World}
use Rattle.q_model.specs.SiteRecords.{with_record}

-- The message has something unread and nothing that waits, and there is room for all that is unread,
-- or for the recipient minimum.
abbrev pub may_read : World → Ledger → Admitted → Bool
may_read w l a = nat_lt 0 (unread_count l a) && not (has_waiting l a.id)
    && nat_le (min w.settings.recipient_minimum (unread_count l a)) (free w l)

-- the load is of the message's first unread position, and goes as far as there is room
abbrev pub reads_on : World → Ledger → Admitted → ℕ → ℕ → Message → Bool
reads_on w l a from to m = may_read w l a && (from == a.unread) && (to == load_end m from (free w l))

-- the message is in the book, and the load is its next
abbrev pub may_load_of : World → Ledger → Id → ℕ → ℕ → Admitted → Bool
may_load_of w l id from to a = option_map_or (reads_on w l a from to) (message_of l.book id) false

-- the load reads from the first unread position as far as there is room
abbrev pub may_load : World → Ledger → Id → ℕ → ℕ → Bool
may_load w l id from to = option_map_or (may_load_of w l id from to) (admitted_of l id) false

-- each site of these rows has a record
abbrev pub with_records : World → List Row → Ledger → Ledger
with_records w [] l = l
with_records w (r ∷ rs) l = with_records w rs (record l { sites = with_record w l.sites r.site })

-- each line, with its transport's number
abbrev pub joins : Id → List Row → (ℕ × List Id) → List Id
joins id rows line =
    if list_any (λ r. r.site.transport == line.0) rows && not (list_any (id_eq id) line.1) then line.1 ++ id ∷ []
    else line.1

-- the message joins the end of each line that it has come to wait in
abbrev pub join_lines : Id → List Row → List (List Id) → List (List Id)
join_lines id rows lines = map (joins id rows) (enumerate_from 0 lines)

-- the message is read up to this position
abbrev pub read_up_to : Id → ℕ → Admitted → Admitted
read_up_to id to a = if id_eq a.id id then record a { unread = to } else a

-- the ledger with these rows read
abbrev pub loaded : World → Ledger → Id → ℕ → List Row → Ledger
loaded w l id to rows =
    let sites_there = with_records w rows l in
    record sites_there {
      admitted = map (read_up_to id to) l.admitted;
      waiting = l.waiting ++ rows;
      lines = join_lines id rows l.lines;
    }

-- the message's next rows are read, up to this position
abbrev pub after_load : World → Ledger → Id → ℕ → ℕ → Ledger
after_load w l id from to = option_map_or (λ m. loaded w l id to (load_rows w m from to)) (message_of l.book id) l
