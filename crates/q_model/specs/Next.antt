-- The next decision of a ledger: the first of eight rules that applies.
use Rattle.std.specs.List.{enumerate_from}
use Rattle.std.specs.Option.{option_map_or, option_or}
use Rattle.std.specs.Prelude.{◌&&◌, [], ◌^◌, Bool, find, if◌then◌else◌, length, List, nat_le, nat_lt, None, not, Option, option_and_then, option_map, slice_get, Some, ◌||◌, ℕ, ◌∷◌}
use Rattle.q_model.specs.declared.rows.Row.{Row}
use Rattle.q_model.specs.declared.entry.Entry.{Entry}
use Rattle.q_model.specs.declared.id.Id.{Id}
use Rattle.q_model.specs.declared.rows.Admitted.{Admitted}
use Rattle.q_model.specs.declared.rows.Need.{Need}
use Rattle.q_model.specs.declared.rows.Unsettled.{Unsettled}
use Rattle.q_model.specs.Admissions.{has_room, may_admit}
use Rattle.q_model.specs.Batches.{load_end}
use Rattle.q_model.specs.Book.{message_of}
use Rattle.q_model.specs.Bounces.{may_bounce}
use Rattle.q_model.specs.Choice.{choice}
use Rattle.q_model.specs.Leaving.{may_back, may_corrupt, may_defer, may_remove}
use Rattle.q_model.specs.Ledger.{Ledger}
use Rattle.q_model.specs.Leftovers.{next_leftover, was_synced}
use Rattle.q_model.specs.Lists.{first_of, first_some}
use Rattle.q_model.specs.Loads.{may_read}
use Rattle.q_model.specs.Memory.{free, is_idle}
use Rattle.q_model.specs.Message.{Message, unmarked_logged, written_marks}
use Rattle.q_model.specs.Past.{starts}
use Rattle.q_model.specs.Settings.{World}
use Rattle.q_model.specs.SiteRecords.{is_dead_site}
use Rattle.q_model.specs.Times.{due}
use Rattle.q_model.specs.Alternation.{pick, pick_id, Pick}
use Rattle.q_model.specs.declared.entry.Entry.TheVariants as entries
use Rattle.q_model.specs.declared.rows.Need.TheVariants as needs

-- the entry that a need asks for
abbrev pub needed : Id → ℕ → Need → Entry
needed id position (needs.Log why code) = entries.Log id (record { position = position; why = why; code = code })
needed id position needs.Mark = entries.Mark id position

-- the first unsettled outcome is logged or marked
abbrev pub settling_rule : Ledger → Option Entry
settling_rule l = option_map (λ (u : Unsettled). needed u.id u.position u.need) (slice_get l.unsettled 0)

-- how many marks of the message a crash may still lose
abbrev pub marks_of : Ledger → Id → ℕ
marks_of l id = option_map_or (λ m. length (written_marks m)) (message_of l.book id) 0

-- the message has mark_sync_limit such marks, or some and is idle
abbrev pub wants_sync : World → Ledger → Admitted → Bool
wants_sync w l a = nat_le w.settings.mark_sync_limit (marks_of l a.id)
    || (nat_lt 0 (marks_of l a.id) && is_idle l a.id)

-- the marks of the first such message are synced
abbrev pub sync_rule : World → Ledger → Option Entry
sync_rule w l = option_map (λ a. entries.Sync a.id) (find (wants_sync w l) l.admitted)

-- the row is put off
abbrev pub skip_of : Row → Entry
skip_of r = entries.Skip r.id r.site r.positions

-- the first row at a dead site is skipped
abbrev pub skip_rule : Ledger → Option Entry
skip_rule l = option_map skip_of (find (λ r. is_dead_site l r.site) l.waiting)

-- a message is deferred, else its bounce is stored, else it is removed
abbrev pub finish_message : World → Ledger → Id → Message → Option Entry
finish_message w l id m = first_of (
    (may_defer w l id (due w l.now m), entries.Defer id (due w l.now m))
    ∷ (may_bounce l id, entries.Bounce id)
    ∷ (may_remove l id, entries.Remove id)
    ∷ [])

-- the same by its id
abbrev pub finish : World → Ledger → Id → Option Entry
finish w l id = option_and_then (finish_message w l id) (message_of l.book id)

-- the first idle message is finished
abbrev pub finishing_rule : World → Ledger → Option Entry
finishing_rule w l = option_and_then (λ a. finish w l a.id) (find (λ a. is_idle l a.id) l.admitted)

-- a failure without its mark is marked
abbrev pub mark_logged : Message → Option Entry
mark_logged m = option_map (λ p. entries.Mark m.id p) (slice_get (unmarked_logged m) 0)

-- a leftover whose failures are marked is synced, then finished or moved back
abbrev pub clear_marked : Ledger → Message → Option Entry
clear_marked l m = first_of (
    (not (was_synced l m.id), entries.Sync m.id)
    ∷ (may_bounce l m.id, entries.Bounce m.id)
    ∷ (may_remove l m.id, entries.Remove m.id)
    ∷ (may_back l m.id, entries.Back m.id)
    ∷ [])

-- a leftover is marked, synced, finished or moved back
abbrev pub clear_leftover : World → Ledger → Message → Option Entry
clear_leftover w l m = option_or (mark_logged m) (clear_marked l m)

-- a damaged leftover goes to corrupt
abbrev pub clear_damaged : World → Ledger → Id → Option Entry
clear_damaged w l id = first_of ((may_corrupt w l id, entries.Corrupt id) ∷ [])

-- what is done with a leftover; a damaged one goes to corrupt
abbrev pub leftover_decision : World → Ledger → Id → Option Entry
leftover_decision w l id = option_map_or (clear_leftover w l) (message_of l.book id) (clear_damaged w l id)

-- the least leftover is cleared
abbrev pub leftover_rule : World → Ledger → Option Entry
leftover_rule w l = option_and_then (leftover_decision w l) (next_leftover l)

-- a file that is picked is admitted, or goes to corrupt
abbrev pub admit_or_corrupt : World → Ledger → Pick → Option Entry
admit_or_corrupt w l p = first_of (
    (may_admit w l (pick_id p), entries.Admit (pick_id p))
    ∷ (may_corrupt w l (pick_id p), entries.Corrupt (pick_id p))
    ∷ [])

-- the next file is admitted, or goes to corrupt
abbrev pub admission_rule : World → Ledger → Option Entry
admission_rule w l = if has_room w l then option_and_then (admit_or_corrupt w l) (pick l) else None

-- the load of a message, as far as there is room
abbrev pub load_entry : World → Ledger → Admitted → Message → Option Entry
load_entry w l a m = Some (entries.Load a.id a.unread (load_end m a.unread (free w l)))

-- the same by its row
abbrev pub load_of : World → Ledger → Admitted → Option Entry
load_of w l a = option_and_then (load_entry w l a) (message_of l.book a.id)

-- the first message that may read reads
abbrev pub load_rule : World → Ledger → Option Entry
load_rule w l = option_and_then (load_of w l) (find (may_read w l) l.admitted)

-- the choice of a line, by its transport
abbrev pub choice_of : World → Ledger → (ℕ × List Id) → Option Entry
choice_of w l line = choice w l line.0

-- the first transport that has a choice; 2^48 deliveries end a life
abbrev pub start_rule : World → Ledger → Option Entry
start_rule w l =
    if nat_lt (starts l) (2 ^ 48) then first_some (choice_of w l) (enumerate_from 0 l.lines) else None

-- the first rule that applies
abbrev pub first_rule : World → Ledger → Option Entry
first_rule w l =
    option_or (settling_rule l)
    (option_or (sync_rule w l)
    (option_or (skip_rule l)
    (option_or (finishing_rule w l)
    (option_or (leftover_rule w l)
    (option_or (admission_rule w l)
    (option_or (load_rule w l)
    (start_rule w l)))))))

-- before the first `at` of a life there is none
unfoldable pub next : World → Ledger → Option Entry
next w l = if l.timed then first_rule w l else None
