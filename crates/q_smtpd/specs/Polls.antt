-- What a poll does, by what its link tells.
use Rattle.std.specs.Prelude.{◌+◌, ◌++◌, ◌≡◌, ◌≢◌, ◌≤◌, ◌<◌, ◌⊎◌, ◌^◌, [], Bool, false, List, take, true, ℕ, ◌∷◌}
use Rattle.q_link.specs.Reads.{Rose}
use Rattle.q_link.specs.Views.{ForRead, ForWrite, Told, View}
use Rattle.q_smtpd.specs.Answers.{timeout_line}
use Rattle.q_smtpd.specs.Fits.{IsFit}
use Rattle.q_smtpd.specs.Hearings.{taking}
use Rattle.q_smtpd.specs.Intakes.{due, mails, mails_of, replies_to}
use Rattle.q_smtpd.specs.Pacing.{IsPaced}
use Rattle.q_smtpd.specs.Places.{Mail, Reply}
use Rattle.q_smtpd.specs.Sessions.{Serves}
use Rattle.q_smtpd.specs.Traffic.{Tells}
use Rattle.q_smtpd.specs.declared.hearing.Stage.TheVariants.{Left}
use Rattle.q_smtpd.specs.declared.served.Served.TheVariants.{Message, Over, Working}
use Rattle.q_smtpd.specs.declared.served.Served.{Served}
use Rattle.q_smtpd.specs.declared.session.Session.{Session}

-- the messages that a poll gives
abbrev pub mails_in : Served → List Mail
mails_in Working = []
mails_in (Message sender to content) = record { sender = sender; to = to; content = content } ∷ []
mails_in Over = []

-- where a session followed its link, these messages came since, and no others
abbrev pub Brings : Session → View → View → List Mail → Type 0
Brings s old new given = Serves s old → Tells (λ before t. mails t.received ≡ mails before.received ++ given) old new

-- whether a message is to be taken
abbrev pub is_message : Served → Bool
is_message Working = false
is_message (Message sender to content) = true
is_message Over = false

-- whether the session is over
abbrev pub is_over : Served → Bool
is_over Working = false
is_over (Message sender to content) = false
is_over Over = true

-- how often the link answered `NotYet` in a poll
abbrev pub waits_of : Served → ℕ
waits_of Working = 1
waits_of (Message sender to content) = 0
waits_of Over = 0

-- A link that isn't ready: a reply is unsent, or all are sent and another byte is awaited.
abbrev pub IsNotReady : Session → View → Type 0
IsNotReady s v = ((v.wait ≡ ForWrite) × (s.outbox ≢ [])) ⊎ ((v.wait ≡ ForRead) × (s.outbox ≡ []) × (s.hearing.stage ≢ Left))

-- and fewer bytes came than are taken
abbrev pub IsAwaiting : Session → View → Type 0
IsAwaiting s v = (s.count < 2 ^ 40) × IsNotReady s v

-- Why a session is over: its client took leave and was answered, its link ended, all bytes came that are taken, or the link failed.
abbrev pub IsOver : Session → View → View → Type 0
IsOver s old v = ((s.hearing.stage ≡ Left) × (s.outbox ≡ []))
    ⊎ ((v.ended ≡ true) × (s.outbox ≡ []))
    ⊎ (2 ^ 40 ≤ s.count)
    ⊎ Rose old.faults v.faults

-- what a poll comes to
abbrev pub ComesTo : Served → Session → View → View → Type 0
ComesTo Working s old v = IsAwaiting s v × (v.ended ≡ old.ended)
ComesTo (Message sender to content) s old v = (s.outbox ≡ []) × (v.ended ≡ old.ended)
ComesTo Over s old v = IsOver s old v

-- a front of the last line was sent, by one write
pub record TimesOut (before after : Told) : Type 0 where
  pub received : after.received ≡ before.received
  pub sent : (k : ℕ) × (after.sent ≡ before.sent ++ take k timeout_line)
  pub rests_before : after.rests_before ≡ before.rests_before
  pub not_yets : (before.not_yets ≤ after.not_yets) × (after.not_yets ≤ before.not_yets + 1)

-- The last reply is the one that takes this message, and those before it take the messages that came before.
pub record CompletesAt (mail : Mail) (before t : Told) : Type 0 where
  pub front : List Reply
  pub replies_are : replies_to t.received ≡ front ++ taking mail ∷ []
  pub mails_are : mails_of front ≡ mails before.received

abbrev pub Completes : Served → Session → View → View → Type 0
Completes (Message sender to content) s old new =
    Serves s old → Tells (CompletesAt (record { sender = sender; to = to; content = content })) old new
Completes served s old new = Unit {0}

-- Memory ran out at a byte: what came before it was replied, and each message before it was given.
pub record StopsAt (before t : Told) : Type 0 where
  pub seen : List ℕ
  pub byte : ℕ
  pub received : t.received ≡ seen ++ byte ∷ []
  pub sent : t.sent ≡ due seen
  pub mails_are : mails seen ≡ mails before.received
  pub paced : IsPaced t.received t.sent

abbrev pub Stops : Session → View → View → Type 0
Stops old before v = Serves old before → Tells StopsAt before v

-- no byte came, or some did, the last of them at this moment
abbrev pub IsHeardBy : ℕ → Session → Session → Type 0
IsHeardBy now old s = ((s.count ≡ old.count) × (s.heard ≡ old.heard)) ⊎ ((old.count < s.count) × (s.heard ≡ now))

abbrev pub FitsServed : Served → Type 0
FitsServed (Message sender to content) = IsFit (record { sender = sender; to = to; content = content })
FitsServed served = Unit {0}
