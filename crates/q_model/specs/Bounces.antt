-- Entry `bounce`: the notice of a message is stored.
use Rattle.std.specs.Option.{option_map_or}
use Rattle.std.specs.Prelude.{◌&&◌, Bool, false, not}
use Rattle.q_model.specs.declared.id.Id.{Id}
use Rattle.q_model.specs.Book.{message_of}
use Rattle.q_model.specs.BookChanges.{add_message}
use Rattle.q_model.specs.Finishing.{has_bounce, is_at_rest, is_done, wants_bounce}
use Rattle.q_model.specs.Ledger.{Ledger}
use Rattle.q_model.specs.Notices.{bounce_message}
use Rattle.q_model.specs.Places.{is_active}

-- the message is done and wants a bounce that does not stand yet
abbrev pub may_bounce : Ledger → Id → Bool
may_bounce l id =
    option_map_or (λ m. is_active m.place && is_at_rest l id && is_done m && wants_bounce m && not (has_bounce l id))
    (message_of l.book id) false

-- the bounce stands in incoming
abbrev pub after_bounce : Ledger → Id → Ledger
after_bounce l id =
    option_map_or (λ m. record l { book = add_message l.book (bounce_message l.now m) }) (message_of l.book id) l
