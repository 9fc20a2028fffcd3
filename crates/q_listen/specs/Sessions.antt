-- What is done with the door, from its bind to the last link, as far as it came.
use Rattle.std.specs.Prelude.{◌+◌, ◌≡◌, ◌≤◌, [], Bool, List, Some, true, ℕ}
use Rattle.q_door.specs.Doors.{closed, ToldDoor}
use Rattle.q_link.specs.Views.{Told, View}
use Rattle.q_listen.specs.Links.{IsCutOff, IsServed}
use Rattle.q_listen.specs.Listens.{Case, greatest}
use Rattle.q_listen.specs.Serving.{Serving, Task}
use Rattle.q_listen.specs.Stories.{Story}
use Rattle.q_listen.specs.Told.{mails_told}
use Rattle.q_smtpd.specs.Intakes.{mails as mails_in}
use Rattle.q_smtpd.specs.Places.{Mail}
use Rattle.q_smtpd.specs.Sessions.{IsUnused, Serves}
use Rattle.q_smtpd.specs.declared.session.Session.{Session}

-- no port was taken yet
pub record IsUnbound (s : Story) : Type 0 where
  pub binds : s.binds ≡ 0
  pub ports : s.ports ≡ []
  pub accepts : s.accepts ≡ 0
  pub rests : s.rests ≡ 0
  pub records : s.records ≡ []
  pub moments : s.moments ≡ []
  pub mails : mails_told s.told ≡ []

-- so many links were served, and none is open
pub record IsBetween (k : Task) (s : Story) : Type 0 where
  pub cases : List Case
  pub heard : ℕ
  pub serving : Serving k cases [] heard 0 0 s

-- the next one was accepted, and nothing came or went over it
pub record IsAccepted (k : Task) (link : View) (s : Story) : Type 0 where
  pub cases : List Case
  pub heard : ℕ
  pub serving : Serving k cases [] heard 0 1 s
  pub unused : IsUnused link

-- These messages came in the session, which follows its link.
pub record IsFollowed (link : View) (i : Session) (mails : List Mail) : Type 0 where
  pub serves : Serves i link
  pub brought : (t : Told) → link.told ≡ Some t → mails_in t.received ≡ mails

-- its session is open, and all messages that came in it were told
pub record InSession (k : Task) (ahead : ℕ) (link : View) (i : Session) (s : Story) : Type 0 where
  pub cases : List Case
  pub mails : List Mail
  pub serving : Serving k cases mails i.heard ahead 1 s
  pub followed : IsFollowed link i mails

-- its session is over, by its last poll
pub record IsOver (k : Task) (link : View) (s : Story) : Type 0 where
  pub cases : List Case
  pub mails : List Mail
  pub late : Bool
  pub heard : ℕ
  pub serving : Serving k cases mails heard 1 1 s
  pub served : (t : Told) → (door : ToldDoor) → link.told ≡ Some t
      → IsServed (closed link t door) mails late
  pub past : late ≡ true → heard + 300 ≤ greatest s.moments

-- its session was given up
pub record IsGivenUp (k : Task) (link : View) (s : Story) : Type 0 where
  pub cases : List Case
  pub mails : List Mail
  pub heard : ℕ
  pub ahead : ℕ
  pub few : ahead ≤ 1
  pub serving : Serving k cases mails heard ahead 1 s
  pub cut : (t : Told) → (door : ToldDoor) → link.told ≡ Some t
      → IsCutOff (closed link t door) mails
