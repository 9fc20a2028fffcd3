-- Entries `defer`, `back`, `remove` and `corrupt`: a message leaves active, or a damaged file its queue.
use Rattle.std.specs.Option.{option_map_or}
use Rattle.std.specs.Prelude.{◌&&◌, ◌==◌, Bool, false, if◌then◌else◌, is_some, not, ◌||◌, ℕ}
use Rattle.q_model.specs.declared.id.Id.{Id}
use Rattle.q_model.specs.Admissions.{cause_gone, has_room}
use Rattle.q_model.specs.Book.{damaged_of, message_of}
use Rattle.q_model.specs.BookChanges.{move_damaged, move_message, remove_message}
use Rattle.q_model.specs.Finishing.{has_bounce, is_at_rest, is_clean, is_done, wants_bounce, without}
use Rattle.q_model.specs.Ledger.{Ledger}
use Rattle.q_model.specs.Leftovers.{is_leftover, is_next_leftover, was_synced}
use Rattle.q_model.specs.Lists.{has_none}
use Rattle.q_model.specs.Memory.{is_idle}
use Rattle.q_model.specs.Message.{pending, unmarked_logged}
use Rattle.q_model.specs.Places.{is_active}
use Rattle.q_model.specs.Settings.{World}
use Rattle.q_model.specs.Times.{due}
use Rattle.q_model.specs.Alternation.{is_pick, after_pick}
use Rattle.q_model.specs.declared.rows.Place.TheVariants as places

-- the message is idle, and some recipient is pending
abbrev pub may_defer : World → Ledger → Id → ℕ → Bool
may_defer w l id t =
    is_idle l id
    && (option_map_or (λ m. not (has_none (pending m)) && is_clean m && (t == due w l.now m))
    (message_of l.book id) false)

-- the message is in deferred until then
abbrev pub after_defer : Ledger → Id → ℕ → Ledger
after_defer l id t = record l { book = move_message l.book id (places.Deferred t); admitted = without id l.admitted }

-- a leftover that was synced has a pending recipient
abbrev pub may_back : Ledger → Id → Bool
may_back l id =
    is_leftover l id && was_synced l id
    && (option_map_or (λ m. has_none (unmarked_logged m) && is_clean m && not (has_none (pending m)))
    (message_of l.book id) false)

-- it is in incoming again
abbrev pub after_back : Ledger → Id → Ledger
after_back l id = record l { book = move_message l.book id places.Incoming }

-- the message is done, and its bounce stands if it wants one
abbrev pub may_remove : Ledger → Id → Bool
may_remove l id =
    option_map_or (λ m. is_active m.place && is_at_rest l id && is_done m && (not (wants_bounce m) || has_bounce l id))
    (message_of l.book id) false

-- the message is gone
abbrev pub after_remove : Ledger → Id → Ledger
after_remove l id = record l { book = remove_message l.book id; admitted = without id l.admitted }

-- the file is no queue file, and is the next leftover or the next to be picked
abbrev pub may_corrupt : World → Ledger → Id → Bool
may_corrupt w l id =
    is_some (damaged_of l.book id) && (is_next_leftover l id || (has_room w l && is_pick l id))
    && cause_gone l.book id

-- it is in corrupt
abbrev pub after_corrupt : Ledger → Id → Ledger
after_corrupt l id =
    let t : Ledger = if is_next_leftover l id then l else after_pick l in
    record t { book = move_damaged l.book id places.Corrupt }
