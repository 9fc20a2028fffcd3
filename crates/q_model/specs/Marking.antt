-- Entry `mark`: a recipient is marked as done in its queue file.
use Rattle.std.specs.List.{enumerate_from}
use Rattle.std.specs.Option.{option_map_or}
use Rattle.std.specs.Prelude.{◌&&◌, ◌==◌, Bool, drop, false, if◌then◌else◌, List, map, not, slice_get, true, ◌||◌, ℕ}
use Rattle.q_model.specs.declared.id.Id.{Id}
use Rattle.q_model.specs.declared.rows.Need.{Need}
use Rattle.q_model.specs.declared.rows.Unsettled.{Unsettled}
use Rattle.q_model.specs.Book.{message_of}
use Rattle.q_model.specs.BookChanges.{change_message}
use Rattle.q_model.specs.Ids.{id_eq}
use Rattle.q_model.specs.Ledger.{Ledger}
use Rattle.q_model.specs.Leftovers.{is_leftover}
use Rattle.q_model.specs.Marks.{is_marked}
use Rattle.q_model.specs.Message.{is_logged, Message, Recipient}
use Rattle.q_model.specs.declared.rows.Mark.TheVariants as marks
use Rattle.q_model.specs.declared.rows.Need.TheVariants as needs

-- the need is a mark
abbrev pub needs_mark : Need → Bool
needs_mark (needs.Log why code) = false
needs_mark needs.Mark = true

-- the position has no mark
abbrev pub is_unmarked_at : Message → ℕ → Bool
is_unmarked_at m position = option_map_or (λ r. not (is_marked r.mark)) (slice_get m.recipients position) false

-- the mark is what the first unsettled outcome needs
abbrev pub marks_first : Ledger → Id → ℕ → Bool
marks_first l id position =
    option_map_or (λ u. id_eq u.id id && (u.position == position) && needs_mark u.need)
    (slice_get l.unsettled 0) false

-- a leftover has the failure and lacks the mark
abbrev pub marks_leftover : Ledger → Id → ℕ → Bool
marks_leftover l id position =
    is_leftover l id
    && (option_map_or (λ m. is_logged m position && is_unmarked_at m position) (message_of l.book id) false)

-- the mark is needed in one of these two ways
abbrev pub may_mark : Ledger → Id → ℕ → Bool
may_mark l id position = marks_first l id position || marks_leftover l id position

-- the recipient at this position is marked
abbrev pub mark_one : ℕ → (ℕ × Recipient) → Recipient
mark_one position r = if r.0 == position then record r.1 { mark = marks.Written } else r.1

-- the message with one mark more
abbrev pub with_mark : ℕ → Message → Message
with_mark position m = record m { recipients = map (mark_one position) (enumerate_from 0 m.recipients) }

-- the outcome that needed the mark is settled
abbrev pub drop_unsettled : Ledger → Id → ℕ → List Unsettled
drop_unsettled l id position = if marks_first l id position then drop 1 l.unsettled else l.unsettled

-- the mark is written
abbrev pub after_mark : Ledger → Id → ℕ → Ledger
after_mark l id position =
    record l { book = change_message l.book id (with_mark position); unsettled = drop_unsettled l id position }
