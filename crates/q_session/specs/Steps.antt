-- What a step from one reply to the next comes to.
use Rattle.std.specs.Prelude.{◌++◌, ◌≡◌, ◌≢◌, ◌≤◌, ◌⊎◌, [], Bool, IsTrue, List, map, Some, true, ℕ}
use Rattle.q_link.specs.Reads.{Rose}
use Rattle.q_link.specs.Views.{ForRead, ForWrite, NoWait, Told, View}
use Rattle.q_model.specs.declared.outcome.Outcome.{Outcome}
use Rattle.q_smtp.specs.Codes.{outcome_by}
use Rattle.q_smtp.specs.Dialogue.{Broken, Exchange, Open, Settled}
use Rattle.q_session.specs.Deliveries.{Follows, IsAllSent, IsSound, Serves}
use Rattle.q_session.specs.Mails.{Mail, exchange_of}
use Rattle.q_session.specs.Outgoing.{pending}
use Rattle.q_session.specs.Traffic.{Answers, Tells, waits_of_sent}
use Rattle.q_session.specs.declared.outbox.Sent.{Sent}
use Rattle.q_session.specs.declared.outbox.Sent.TheVariants as sent
use Rattle.q_session.specs.declared.delivery.Delivery.{Delivery}
use Rattle.q_session.specs.declared.steps.Step.{Step}
use Rattle.q_session.specs.declared.steps.Step.TheVariants.{Lost, Onward, Settles, Waits}

-- the bytes begin with these
abbrev pub BeginsWith : List ℕ → List ℕ → Type 0
BeginsWith bytes front = (rest : List ℕ) × (bytes ≡ front ++ rest)

-- some of the bytes are left
abbrev pub IsShort : List ℕ → List ℕ → Type 0
IsShort bytes front = (rest : List ℕ) × (bytes ≡ front ++ rest) × (rest ≢ [])

-- A link that isn't ready: something due is unsent, or all is sent and another reply is awaited.
abbrev pub Awaits : Bool → Exchange → Told → View → Type 0
Awaits tells x t v =
    ((v.wait ≡ ForWrite) × (IsTrue tells → IsShort x.due t.sent))
    ⊎ ((v.wait ≡ ForRead) × (x.ending ≡ Open) × (IsTrue tells → x.due ≡ t.sent))

-- QUIT isn't due yet: another reply is awaited, or something that is due before it is unsent.
abbrev pub IsBeforeQuit : Exchange → List ℕ → Type 0
IsBeforeQuit x sent = (x.ending ≡ Open) ⊎ IsShort x.due sent

-- Why a delivery can't go on: the bytes say so, the link ended or failed before QUIT, or the host doesn't tell its files.
abbrev pub IsLost : Bool → Exchange → List ℕ → View → View → Type 0
IsLost tells x sent before v =
    (x.ending ≡ Broken)
    ⊎ ((IsBeforeQuit x sent × ((v.ended ≡ true) ⊎ Rose before.faults v.faults)) ⊎ (IsTrue tells → ⊥))

-- each recipient has its outcome, and all that was due was sent
abbrev pub IsSettled : Bool → Exchange → List Outcome → Told → Type 0
IsSettled tells x outcomes t = (x.ending ≡ Settled outcomes) × (IsTrue tells → t.sent ≡ x.due)

-- by what the link tells, a delivery that followed it has come to this
abbrev pub Becomes : Bool → Mail → Delivery → View → View → Told → Step → Type 0
Becomes tells mail d before v t Onward = Follows tells mail d t
Becomes tells mail d before v t Waits = Follows tells mail d t × Awaits tells (exchange_of mail d.to t.received) t v
Becomes tells mail d before v t Lost = IsLost tells (exchange_of mail d.to t.received) t.sent before v
    × (IsTrue tells → BeginsWith (exchange_of mail d.to t.received).due t.sent)
Becomes tells mail d before v t (Settles last) =
    IsSettled tells (exchange_of mail d.to t.received) (map (outcome_by last) d.dialogue.answers.items) t

-- a delivery goes on behind a reply
abbrev pub Acts : Bool → Mail → Delivery → Told → Step → Type 0
Acts tells mail d t Onward = Follows tells mail d t
Acts tells mail d t Waits = ⊥
Acts tells mail d t Lost = ((exchange_of mail d.to t.received).ending ≡ Broken)
    × (IsTrue tells → BeginsWith (exchange_of mail d.to t.received).due t.sent)
Acts tells mail d t (Settles last) =
    IsSettled tells (exchange_of mail d.to t.received) (map (outcome_by last) d.dialogue.answers.items) t

-- how often the link answered `NotYet` in a step
abbrev pub waits_of : Step → ℕ
waits_of Onward = 0
waits_of Waits = 1
waits_of Lost = 0
waits_of (Settles last) = 0

-- a link may end only where the delivery is lost
abbrev pub EndsBy : Step → View → View → Type 0
EndsBy Onward before v = v.ended ≡ before.ended
EndsBy Waits before v = (v.ended ≡ before.ended) × (v.wait ≢ NoWait)
EndsBy Lost before v = Unit {0}
EndsBy (Settles last) before v = v.ended ≡ before.ended

-- a delivery that goes on is sound
abbrev pub StaysSound : Delivery → Step → Type 0
StaysSound d Onward = IsSound d
StaysSound d Waits = IsSound d
StaysSound d Lost = Unit {0}
StaysSound d (Settles last) = Unit {0}

-- what a step does to a delivery and its link, where this is given of the mail
pub record Steps (tells : Bool) (given : Mail → Type 0) (old d : Delivery) (before v : View) (s : Step) : Type 0 where
  pub faults : before.faults ≤ v.faults
  pub ended : EndsBy s before v
  pub answers : Tells (Answers (waits_of s)) before v
  pub becomes : (mail : Mail) → given mail → Serves tells mail old before
      → (t : Told) → v.told ≡ Some t → Becomes tells mail d before v t s

-- sending was lost by a fault of the link, with something unsent, or on a host that doesn't tell its files
abbrev pub IsSendingLost : Bool → Delivery → View → View → Type 0
IsSendingLost tells d before v =
    (Rose before.faults v.faults × (pending d.outbox ≢ [])) ⊎ (IsTrue tells → ⊥)

-- what sending comes to
abbrev pub Comes : Bool → Delivery → View → View → Sent → Type 0
Comes tells d before v sent.All = IsAllSent d
Comes tells d before v sent.NotYet = (v.wait ≡ ForWrite) × (pending d.outbox ≢ [])
Comes tells d before v sent.Lost = Unit {0}

-- what sending all that is due does to a delivery and its link, where this is given of the mail
pub record SendsDue (tells : Bool) (given : Mail → Type 0) (old d : Delivery) (before v : View) (s : Sent) : Type 0 where
  pub comes : Comes tells d before v s
  pub answers : Tells (Answers (waits_of_sent s)) before v
  pub serves : (mail : Mail) → given mail → Serves tells mail old before → Serves tells mail d v
  pub lost : s ≡ sent.Lost → (mail : Mail) → given mail → Serves tells mail old before
      → (t : Told) → v.told ≡ Some t → IsSendingLost tells d before v

-- it is the same delivery, which has come further
pub record IsSame (old d : Delivery) : Type 0 where
  pub others : d ≡ record old { dialogue = d.dialogue; inbox = d.inbox; outbox = d.outbox; content = d.content }
  pub spot : d.content.spot ≡ old.content.spot

-- it is the same delivery, which has sent more
pub record IsSendingSame (old d : Delivery) : Type 0 where
  pub others : d ≡ record old { outbox = d.outbox; content = d.content }
  pub spot : d.content.spot ≡ old.content.spot
