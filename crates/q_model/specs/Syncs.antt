-- Entry `sync`: the marks of a message outlive a crash.
use Rattle.std.specs.Option.{option_map_or}
use Rattle.std.specs.Prelude.{◌&&◌, Bool, false, if◌then◌else◌, map, not, ◌||◌, ◌∷◌}
use Rattle.q_model.specs.declared.id.Id.{Id}
use Rattle.q_model.specs.Book.{message_of}
use Rattle.q_model.specs.BookChanges.{change_message}
use Rattle.q_model.specs.Ledger.{Ledger}
use Rattle.q_model.specs.Leftovers.{is_leftover}
use Rattle.q_model.specs.Lists.{has_none}
use Rattle.q_model.specs.Marks.{sync_mark}
use Rattle.q_model.specs.Message.{Message, Recipient, written_marks}
use Rattle.q_model.specs.Places.{is_active}

-- the message is in active, and has marks to sync or is a leftover
abbrev pub may_sync : Ledger → Id → Bool
may_sync l id =
    option_map_or (λ m. is_active m.place && (is_leftover l id || not (has_none (written_marks m))))
    (message_of l.book id) false

-- every mark is sure
abbrev pub sync_all : Message → Message
sync_all m = record m { recipients = map (λ (r : Recipient). record r { mark = sync_mark r.mark }) m.recipients }

-- the marks are synced; a leftover counts as synced in this life
abbrev pub after_sync : Ledger → Id → Ledger
after_sync l id =
    record l {
      book = change_message l.book id sync_all;
      synced = if is_leftover l id then id ∷ l.synced
          else l.synced;
    }
