-- The deliveries of a call that came to their replies, each with its start, its message and its link.
use Rattle.std.specs.List.{filter_map}
use Rattle.std.specs.Prelude.{◌++◌, ◌∷◌, ◌≡◌, ◌≤◌, [], length, List, map, Option, Some, ℕ}
use Rattle.q_model.specs.declared.entry.Entry.{Entry}
use Rattle.q_model.specs.Book.{message_of}
use Rattle.q_model.specs.Ledger.{Ledger}
use Rattle.q_model.specs.Message.{Message, address_at}
use Rattle.q_model.specs.Settings.{World}
use Rattle.q_model.specs.Step.{after_all}
use Rattle.q_link.specs.Records.{Closed}
use Rattle.q_smtp.specs.Dialogue.{Exchange, Transaction, dialogue}
use Rattle.q_smtp.specs.Replies.{reply_codes}
use Rattle.q_drain.specs.Stories.{Story}
use Rattle.q_drain.specs.Told.{Begun, Ended, begun, ended, ended_of, moment_after}

-- A delivery that is over: what was told before its reply and from there on, its start, its message
-- and the moment at the reply, the reply, and the record of its link where it had one.
pub record Case : Type 0 where
  pub before : List Entry
  pub behind : List Entry
  pub start : Begun
  pub message : Message
  pub moment : ℕ
  pub reply : Ended
  pub link : Option Closed

-- what is sent to the recipients at its positions
abbrev pub transaction : Case → Transaction
transaction c = record {
  sender = c.message.sender;
  to = map (address_at c.message) c.start.positions;
  content = c.message.content;
}

-- the dialogue by the bytes that its link gave
abbrev pub exchange : Case → Closed → Exchange
exchange c r = dialogue (transaction c) (reply_codes r.received)

-- what follows begins with the reply, or nothing follows
abbrev pub IsNext : Ended → List Entry → Type 0
IsNext reply [] = Unit {0}
IsNext reply (e ∷ es) = ended_of e ≡ reply ∷ []

-- The case stands in the story behind these replies: its delivery was begun by a line before, and
-- delivers a message that stands then.
pub record IsPlace (w : World) (l : Ledger) (s : Story) (earlier : List Ended) (c : Case) : Type 0 where
  pub told : s.told ≡ c.before ++ c.behind
  pub replies : ended c.before ≡ earlier
  pub next : IsNext c.reply c.behind
  pub number : c.reply.number ≡ c.start.number
  pub begins : (more others : List Begun) × (begun c.before ≡ more ++ c.start ∷ others)
  pub message : message_of (after_all w l c.before).book c.start.id ≡ Some c.message
  pub moment : c.moment ≡ moment_after 0 c.before

-- so of each case, behind the replies of those before it
abbrev pub EachBehind : (List Ended → Case → Type 0) → List Ended → List Case → Type 0
EachBehind P earlier [] = Unit {0}
EachBehind P earlier (c ∷ cs) = P earlier c × EachBehind P (earlier ++ c.reply ∷ []) cs

abbrev pub replies_of : List Case → List Ended
replies_of cs = map (λ c. c.reply) cs

abbrev pub records_of : List Case → List Closed
records_of cs = filter_map (λ c. c.link) cs

-- The replies are those of the cases, in order, and the records those of their links. At most the
-- last one's reply wasn't told.
pub record AreCases (w : World) (l : Ledger) (s : Story) (cs : List Case) : Type 0 where
  pub untold : List Ended
  pub one : length untold ≤ 1
  pub replies : ended s.told ++ untold ≡ replies_of cs
  pub records : s.records ≡ records_of cs
  pub places : EachBehind (IsPlace w l s) [] cs
