-- What a queue file says to a session: all but the marks, which change while it is delivered.
use Rattle.std.specs.Option.{option_and_then, option_map}
use Rattle.std.specs.Prelude.{◌≡◌, Bool, IsTrue, length, List, map, Option, Some, ℕ}
use Rattle.q_host.specs.View.{View}
use Rattle.q_model.specs.QueueFile.{FileMessage, queue_file}
use Rattle.q_model.specs.QueueFileBytes.{content_at}
use Rattle.q_model.specs.Values.{FileHead, Spot}
use Rattle.q_smtp.specs.Dialogue.{Exchange, Transaction, dialogue}
use Rattle.q_smtp.specs.Replies.{reply_codes}

-- its content stands at this offset
pub record Mail : Type 0 where
  pub sender : Option (List ℕ)
  pub addresses : List (List ℕ)
  pub content_at : ℕ
  pub content : List ℕ

abbrev pub mail_of : FileMessage → Mail
mail_of m = record {
  sender = m.sender;
  addresses = map (λ r. r.address) m.recipients;
  content_at = content_at m;
  content = m.content;
}

-- Where the host tells its files, the file at the spot says this.
abbrev pub StandsAt : Bool → View → Spot → Mail → Type 0
StandsAt tells v spot mail = IsTrue tells → option_map mail_of (option_and_then queue_file (v.files spot.area spot.name)) ≡ Some mail

-- the head of a file that says this
pub record IsHeadOf (mail : Mail) (head : FileHead) : Type 0 where
  pub sender : head.head.sender ≡ mail.sender
  pub content_at : head.content_at ≡ mail.content_at
  pub content_len : head.content_len ≡ length mail.content

-- the message to some of its recipients
abbrev pub transaction_of : Mail → List (List ℕ) → Transaction
transaction_of mail to = record { sender = mail.sender; to = to; content = mail.content }

-- the dialogue by the bytes that a link gave
abbrev pub exchange_of : Mail → List (List ℕ) → List ℕ → Exchange
exchange_of mail to received = dialogue (transaction_of mail to) (reply_codes received)
