-- What receiving and sending do to a link.
use Rattle.std.specs.Prelude.{◌+◌, ◌++◌, ◌≡◌, ◌≢◌, ◌≤◌, ◌⊎◌, [], List, Some, true, ℕ, ◌∷◌}
use Rattle.q_link.specs.Reads.{Rose}
use Rattle.q_link.specs.Views.{ForRead, ForWrite, Told, View}
use Rattle.q_reply.specs.Progress.{Holds}
use Rattle.q_reply.specs.declared.replies.Fed.{Fed}
use Rattle.q_reply.specs.declared.replies.Fed.TheVariants.{BadReply, More, Reply, TooLong}
use Rattle.q_smtp.specs.Replies.{Part, codes_from, nothing_yet}
use Rattle.q_session.specs.declared.inbox.Heard.{Heard}
use Rattle.q_session.specs.declared.inbox.Heard.TheVariants.{Code, Lost, NoReply, NotYet}
use Rattle.q_session.specs.declared.inbox.Inbox.{Inbox}
use Rattle.q_session.specs.declared.outbox.Sent.{Sent}
use Rattle.q_session.specs.declared.outbox.Sent.TheVariants as sent

-- the count of faults doesn't fall, and the link ends no sooner
pub record GoesOn (old new : View) : Type 0 where
  pub faults : old.faults ≤ new.faults
  pub ended : new.ended ≡ old.ended

-- where the link still tells, it told before, and this is between the two
abbrev pub Tells : (Told → Told → Type 0) → View → View → Type 0
Tells what old new = (t : Told) → new.told ≡ Some t → (before : Told) × (old.told ≡ Some before) × what before t

-- the same connection, which answered `NotYet` so many times more
pub record Answers (more : ℕ) (before after : Told) : Type 0 where
  pub hop : after.hop ≡ before.hop
  pub rests_before : after.rests_before ≡ before.rests_before
  pub not_yets : after.not_yets ≡ before.not_yets + more

-- how often a wait for a reply answers `NotYet`, and how often sending does
abbrev pub waits_of_heard : Heard → ℕ
waits_of_heard (Code code) = 0
waits_of_heard NotYet = 1
waits_of_heard NoReply = 0
waits_of_heard Lost = 0

abbrev pub waits_of_sent : Sent → ℕ
waits_of_sent sent.All = 0
waits_of_sent sent.NotYet = 1
waits_of_sent sent.Lost = 0

-- what waiting for a reply does to a link
abbrev pub Receives : Heard → View → View → Type 0
Receives (Code code) old new = GoesOn old new
Receives NotYet old new = GoesOn old new × (new.wait ≡ ForRead)
Receives NoReply old new = GoesOn old new
Receives Lost old new = (old.faults ≤ new.faults) × ((new.ended ≡ true) ⊎ (Rose old.faults new.faults × (new.ended ≡ old.ended)))

-- What was heard of the bytes that came, behind those that weren't used before: a reply ends within them, they go on with one, they are no reply, or no reply ended before the link was lost.
abbrev pub Hears : Part → List ℕ → Heard → Inbox → Type 0
Hears p bytes (Code code) new = (used : List ℕ) × (bytes ≡ used ++ new.unused.items)
    × ((more : List ℕ) → codes_from p (used ++ more) ≡ code ∷ codes_from nothing_yet more) × Holds nothing_yet new.replies
Hears p bytes NotYet new = (q : Part) × (new.unused.items ≡ [])
    × ((more : List ℕ) → codes_from p (bytes ++ more) ≡ codes_from q more) × Holds q new.replies
Hears p bytes NoReply new = (more : List ℕ) → codes_from p (bytes ++ more) ≡ 0 ∷ []
Hears p bytes Lost new = codes_from p bytes ≡ []

-- these bytes came
pub record Received (old : Inbox) (heard : Heard) (new : Inbox) (before after : Told) : Type 0 where
  pub bytes : List ℕ
  pub received : after.received ≡ before.received ++ bytes
  pub sent : after.sent ≡ before.sent
  pub answers : Answers (waits_of_heard heard) before after
  pub hears : (p : Part) → Holds p old.replies → Hears p (old.unused.items ++ bytes) heard new

-- what sending does to a link, with these bytes left
abbrev pub Sends : Sent → List ℕ → View → View → Type 0
Sends sent.All left old new = GoesOn old new × (left ≡ [])
Sends sent.NotYet left old new = GoesOn old new × (new.wait ≡ ForWrite) × (left ≢ [])
Sends sent.Lost left old new = GoesOn old new × Rose old.faults new.faults × (left ≢ [])

-- the front of some bytes was sent, and these are left
pub record Gave (whole left : List ℕ) (more : ℕ) (before after : Told) : Type 0 where
  pub front : List ℕ
  pub whole_is : whole ≡ front ++ left
  pub sent : after.sent ≡ before.sent ++ front
  pub received : after.received ≡ before.received
  pub answers : Answers more before after

-- what feeding bytes says of their codes, and of the bytes behind them
abbrev pub Feeds : Part → List ℕ → Fed → Inbox → Type 0
Feeds p bytes (Reply code count) new = (used : List ℕ) × (bytes ≡ used ++ new.unused.items)
    × ((more : List ℕ) → codes_from p (used ++ more) ≡ code ∷ codes_from nothing_yet more) × Holds nothing_yet new.replies
Feeds p bytes More new = (q : Part) × ((more : List ℕ) → codes_from p (bytes ++ more) ≡ codes_from q more) × Holds q new.replies
Feeds p bytes (BadReply byte) new = (more : List ℕ) → codes_from p (bytes ++ more) ≡ 0 ∷ []
Feeds p bytes TooLong new = (more : List ℕ) → codes_from p (bytes ++ more) ≡ 0 ∷ []
