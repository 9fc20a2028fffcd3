-- What a recount holds of a ledger: all but what decides nothing (contents, original addresses, versions of
-- queue files), and but the entries of the life, of which it has counts.
use Rattle.std.specs.Prelude.{[], map, None}
use Rattle.q_model.specs.Book.{Book}
use Rattle.q_model.specs.Ledger.{Ledger}
use Rattle.q_model.specs.Message.{Message, Recipient}
use Rattle.q_model.specs.QueueFile.{new_version}

-- the recipient without the address that the sender wrote
abbrev pub bare_recipient : Recipient → Recipient
bare_recipient r = record r { original = None }

-- the message without what decides nothing
abbrev pub bare_message : Message → Message
bare_message m = record m {
  version = new_version;
  content = [];
  recipients = map bare_recipient m.recipients;
}

-- the book of such messages
abbrev pub bare_book : Book → Book
bare_book b = record b { messages = map bare_message b.messages }

-- the ledger of such messages, without past entries
abbrev pub bare : Ledger → Ledger
bare l = record l { book = bare_book l.book; past = [] }
