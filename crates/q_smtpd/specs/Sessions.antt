-- What a session stands for, by what its link tells.
use Rattle.std.specs.Prelude.{◌++◌, ◌≡◌, [], Bool, false, if◌then◌else◌, length, List, Some, ℕ}
use Rattle.q_link.specs.Views.{Told, View}
use Rattle.q_smtpd.specs.Answers.{answer_line}
use Rattle.q_smtpd.specs.Hearings.{Holds}
use Rattle.q_smtpd.specs.Intakes.{due, place_of}
use Rattle.q_smtpd.specs.Pacing.{IsPaced}
use Rattle.q_smtpd.specs.declared.answer.Answer.TheVariants.{Accepted}
use Rattle.q_smtpd.specs.declared.hearing.Hearing.{Hearing}
use Rattle.q_smtpd.specs.declared.session.Session.{Session}

-- the reply to a message that wasn't taken yet
abbrev pub owed : Bool → List ℕ
owed untaken = if untaken then answer_line Accepted else []

-- It stands where the bytes that came lead to, and all replies to them were sent, are being sent, or wait for their message to be taken.
pub record Follows (s : Session) (t : Told) : Type 0 where
  pub holds : Holds (place_of t.received) s.hearing
  pub sent : t.sent ++ (s.outbox ++ owed s.untaken) ≡ due t.received
  pub count : s.count ≡ length t.received
  pub paced : IsPaced t.received t.sent

-- where the link tells, the session follows it
abbrev pub Serves : Session → View → Type 0
Serves s v = (t : Told) → v.told ≡ Some t → Follows s t

-- it begins at this moment
pub record IsNew (opened : ℕ) (s : Session) : Type 0 where
  pub heard : s.heard ≡ opened
  pub count : s.count ≡ 0
  pub untaken : s.untaken ≡ false
  pub over : s.over ≡ false

-- the message was taken, and its reply is the next
abbrev pub with_taken : Session → Session
with_taken s = record s { outbox = answer_line Accepted; untaken = false }

-- nothing came or went over the link
abbrev pub IsUnused : View → Type 0
IsUnused v = (t : Told) → v.told ≡ Some t → (t.received ≡ []) × (t.sent ≡ [])

-- it stands for the place behind some bytes
abbrev pub Stands : Hearing → Type 0
Stands h = (bytes : List ℕ) × Holds (place_of bytes) h
