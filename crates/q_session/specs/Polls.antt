-- What a poll does to a session and its link, as callers see it.
use Rattle.std.specs.Prelude.{◌+◌, ◌++◌, ◌≡◌, ◌≢◌, ◌≤◌, ◌⊎◌, [], Bool, false, IsTrue, length, List, Some, take, ℕ}
use Rattle.q_host.specs.View.{View as HostView}
use Rattle.q_link.specs.Views.{NoWait, Told, View}
use Rattle.q_model.specs.Values.{Spot}
use Rattle.q_model.specs.declared.outcome.SiteState.{SiteState}
use Rattle.q_model.specs.declared.outcome.SiteState.TheVariants.{Down, Up}
use Rattle.q_smtp.specs.Codes.{put_off}
use Rattle.q_smtp.specs.Dialogue.{Exchange, quit_line}
use Rattle.q_smtp.specs.Replies.{reply_codes}
use Rattle.q_smtp.specs.WholeDialogues.{Says}
use Rattle.q_session.specs.Deliveries.{Serves}
use Rattle.q_session.specs.Mails.{Mail, StandsAt, exchange_of}
use Rattle.q_session.specs.Steps.{Awaits, BeginsWith, IsLost}
use Rattle.q_session.specs.Traffic.{Answers, Tells}
use Rattle.q_session.specs.declared.delivery.Delivery.{Delivery}
use Rattle.q_session.specs.declared.polled.Polled.{Polled}
use Rattle.q_session.specs.declared.polled.Polled.TheVariants.{Over, Working}

-- it is the same delivery
pub record Keeps (old new : Delivery) : Type 0 where
  pub spot : new.content.spot ≡ old.content.spot
  pub to : new.to ≡ old.to
  pub opened : new.opened ≡ old.opened

-- QUIT may have met a link that wasn't ready
abbrev pub AnswersQuit : Told → Told → Type 0
AnswersQuit before after = Answers 0 before after ⊎ Answers 1 before after

-- What a poll does to its link: it goes on exactly where the last call answered `NotYet`, that of QUIT aside.
abbrev pub Passes : Polled → View → View → Type 0
Passes Working old new = (new.wait ≢ NoWait) × (new.ended ≡ old.ended) × Tells (Answers 1) old new
Passes (Over Up) old new = (new.ended ≡ old.ended) × Tells AnswersQuit old new
Passes (Over Down) old new = Tells (Answers 0) old new

-- whatever its link and its host tell, each recipient has an outcome
abbrev pub Counts : Polled → Delivery → Type 0
Counts Working d = Unit {0}
Counts (Over Up) d = length d.outcomes ≡ length d.to
Counts (Over Down) d = d.outcomes ≡ put_off (length d.to)

-- all that is due was sent, and QUIT or some front of it
abbrev pub TakesLeave : Exchange → Told → Type 0
TakesLeave x t = (k : ℕ) × (t.sent ≡ x.due ++ take k quit_line)

-- Up: the replies are a whole list that says these outcomes, whatever came of QUIT. Down: the time is over, or the delivery is lost.
abbrev pub IsOver : Bool → SiteState → ℕ → Mail → Delivery → Told → View → View → Type 0
IsOver tells Up moment mail d t old new = Says (length d.to) (reply_codes t.received) d.outcomes
    × (IsTrue tells → TakesLeave (exchange_of mail d.to t.received) t)
IsOver tells Down moment mail d t old new =
    ((d.opened + 600 ≤ moment) ⊎ IsLost tells (exchange_of mail d.to t.received) t.sent old new)
    × (IsTrue tells → BeginsWith (exchange_of mail d.to t.received).due t.sent)

-- a session that begins
pub record IsNew (spot : Spot) (to : List (List ℕ)) (opened : ℕ) (d : Delivery) : Type 0 where
  pub spot_is : d.content.spot ≡ spot
  pub to_is : d.to ≡ to
  pub opened_is : d.opened ≡ opened
  pub outcomes : d.outcomes ≡ []
  pub over : d.over ≡ false

-- nothing came or went over the link
abbrev pub IsUnused : View → Type 0
IsUnused v = (t : Told) → v.told ≡ Some t → (t.received ≡ []) × (t.sent ≡ [])

-- a front of these bytes was sent by one write
pub record SendsOnce (bytes : List ℕ) (before after : Told) : Type 0 where
  pub received : after.received ≡ before.received
  pub sent : (k : ℕ) × (after.sent ≡ before.sent ++ take k bytes)
  pub answers : AnswersQuit before after

-- of each mail that stands at its spot, and that the session delivers over this link
abbrev pub OfMails : Bool → HostView → Delivery → View → (Mail → Type 0) → Type 0
OfMails tells host d v says =
    (mail : Mail) → StandsAt tells host d.content.spot mail → Serves tells mail d v → says mail

-- by what the link tells, it isn't ready
abbrev pub IsAwaiting : Bool → Mail → List (List ℕ) → View → Type 0
IsAwaiting tells mail to v =
    (t : Told) → v.told ≡ Some t → Awaits tells (exchange_of mail to t.received) t v

-- by what the link tells, the session is over
abbrev pub Ends : Bool → SiteState → ℕ → Mail → Delivery → View → View → Type 0
Ends tells site moment mail d old new =
    (t : Told) → new.told ≡ Some t → IsOver tells site moment mail d t old new
