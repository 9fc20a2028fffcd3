-- What a step does: all that is due is sent, and the next byte is read and acted on.
use Rattle.std.specs.Prelude.{◌++◌, ◌≡◌, ◌≤◌, [], Bool, false, length, List, Some, true, ℕ, ◌∷◌}
use Rattle.q_link.specs.Views.{Told, View}
use Rattle.q_link.specs.declared.usage.Usage.TheVariants.{Open}
use Rattle.q_smtpd.specs.Fits.{IsFit}
use Rattle.q_smtpd.specs.Hearings.{Holds, mail_of, taking}
use Rattle.q_smtpd.specs.Intakes.{bytes_of, due, mails_of, place_of}
use Rattle.q_smtpd.specs.Pacing.{IsPaced}
use Rattle.q_smtpd.specs.Places.{Came, Mail}
use Rattle.q_smtpd.specs.Polls.{Brings, IsAwaiting, IsOver, CompletesAt, IsHeardBy}
use Rattle.q_smtpd.specs.Sessions.{owed, Serves}
use Rattle.q_smtpd.specs.Traffic.{Answers, Tells}
use Rattle.q_smtpd.specs.Uses.{SparesStep, UsesStep}
use Rattle.q_smtpd.specs.declared.session.Session.{Session}
use Rattle.q_smtpd.specs.declared.session.Step.TheVariants as steps
use Rattle.q_smtpd.specs.declared.session.Step.{Step}

abbrev pub mails_of_step : Step → List Mail
mails_of_step steps.Onward = []
mails_of_step steps.Waits = []
mails_of_step (steps.Mail mail) = mail_of mail ∷ []
mails_of_step steps.Ends = []

abbrev pub waits_of_step : Step → ℕ
waits_of_step steps.Onward = 0
waits_of_step steps.Waits = 1
waits_of_step (steps.Mail mail) = 0
waits_of_step steps.Ends = 0

-- whether a message came that isn't taken yet
abbrev pub is_mail : Step → Bool
is_mail steps.Onward = false
is_mail steps.Waits = false
is_mail (steps.Mail mail) = true
is_mail steps.Ends = false

abbrev pub StepsTo : Step → Session → View → View → Type 0
StepsTo steps.Onward s old v = v.ended ≡ old.ended
StepsTo steps.Waits s old v = IsAwaiting s v × (v.ended ≡ old.ended)
StepsTo (steps.Mail mail) s old v = (s.outbox ≡ []) × (v.ended ≡ old.ended)
StepsTo steps.Ends s old v = IsOver s old v

-- behind a step it follows its link, with the reply to a message still owed
pub record FollowsStep (s : Session) (mail : Bool) (t : Told) : Type 0 where
  pub holds : Holds (place_of t.received) s.hearing
  pub sent : t.sent ++ (s.outbox ++ owed mail) ≡ due t.received
  pub count : s.count ≡ length t.received
  pub paced : IsPaced t.received t.sent

-- where a session followed its link, its last byte completes a message that a step gives
abbrev pub CompletesBy : Step → Session → View → View → Type 0
CompletesBy (steps.Mail mail) s old new = Serves s old → Tells (CompletesAt (mail_of mail)) old new
CompletesBy step s old new = Unit {0}

-- what a step does to a session that followed its link
pub record Steps (old : Session) (step : Step) (s : Session) (before v : View) : Type 0 where
  pub to : StepsTo step s before v
  pub faults : before.faults ≤ v.faults
  pub answers : Tells (Answers (waits_of_step step)) before v
  pub serves : Serves old before → (t : Told) → v.told ≡ Some t → FollowsStep s (is_mail step) t
  pub brings : Brings old before v (mails_of_step step)
  pub completes : CompletesBy step old before v
  pub uses : before.usage ≡ Open → UsesStep step v.usage
  pub spares : SparesStep step before.waits_left v.waits_left

-- The session goes on, or a message waits to be taken.
abbrev pub IsHeard : Step → Session → Type 0
IsHeard steps.Onward s = Unit {0}
IsHeard steps.Waits s = ⊥
IsHeard (steps.Mail mail) s = s.outbox ≡ []
IsHeard steps.Ends s = ⊥

-- a message that came is taken by the one reply
abbrev pub IsTakenBy : Came → Step → Type 0
IsTakenBy came (steps.Mail mail) = came.replies ≡ taking (mail_of mail) ∷ []
IsTakenBy came step = Unit {0}

-- what hearing a byte does to a session whose replies were all sent
pub record Acts (came : Came) (step : Step) (s : Session) : Type 0 where
  pub place : Holds came.place s.hearing
  pub replies : bytes_of came.replies ≡ s.outbox ++ owed (is_mail step)
  pub mails_are : mails_of came.replies ≡ mails_of_step step
  pub taken_by : IsTakenBy came step

-- what a step leaves of the counts and flags of a session
pub record Counts (now : ℕ) (old s : Session) : Type 0 where
  pub heard : IsHeardBy now old s
  pub count : old.count ≤ s.count
  pub untaken : s.untaken ≡ old.untaken
  pub over : s.over ≡ old.over

-- a message that came is within its limits
abbrev pub FitsStep : Step → Type 0
FitsStep (steps.Mail mail) = IsFit (mail_of mail)
FitsStep step = Unit {0}
