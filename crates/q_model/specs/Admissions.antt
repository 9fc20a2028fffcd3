-- Entry `admit`: a message comes into memory (qmgr(8): the active queue; postconf(5):
-- qmgr_message_active_limit, qmgr_message_recipient_minimum).
use Rattle.std.specs.Prelude.{◌&&◌, ◌++◌, [], Bool, false, is_some, length, nat_le, nat_lt, not, true, ◌∷◌}
use Rattle.q_model.specs.declared.event.Mode.{Mode}
use Rattle.q_model.specs.declared.event.Mode.TheVariants.{Deliver, Intake}
use Rattle.q_model.specs.declared.id.Id.{Id}
use Rattle.q_model.specs.Book.{Book, message_of, stands}
use Rattle.q_model.specs.BookChanges.{move_message}
use Rattle.q_model.specs.Ids.{cause_of}
use Rattle.q_model.specs.Ledger.{Ledger}
use Rattle.q_model.specs.Memory.{free}
use Rattle.q_model.specs.Settings.{World}
use Rattle.q_model.specs.Alternation.{is_pick, after_pick}
use Rattle.q_model.specs.declared.rows.Place.TheVariants as places

-- the life delivers
abbrev pub delivers : Mode → Bool
delivers Deliver = true
delivers Intake = false

-- another message may come into memory
abbrev pub has_room : World → Ledger → Bool
has_room w l =
    delivers l.mode && nat_lt (length l.admitted) w.settings.active_limit
    && nat_le w.settings.recipient_minimum (free w l)

-- a bounce stands alone: the message that it is of is gone
abbrev pub cause_gone : Book → Id → Bool
cause_gone b id = not (id.bounce && stands b (cause_of id))

-- there is room, and the message is next
abbrev pub may_admit : World → Ledger → Id → Bool
may_admit w l id = has_room w l && is_pick l id && is_some (message_of l.book id) && cause_gone l.book id

-- the message is in active, all of it unread
abbrev pub after_admit : Ledger → Id → Ledger
after_admit l id =
    let t = after_pick l in
    record t {
      book = move_message l.book id places.Active;
      admitted = l.admitted ++ record { id = id; unread = 0 } ∷ [];
    }
