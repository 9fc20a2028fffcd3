-- What holds at the head of the loops: over the polls of a session, and over links.
use Rattle.std.specs.Prelude.{ℕ}
use Rattle.q_door.specs.Doors.{DoorView}
use Rattle.q_host.specs.View.{View}
use Rattle.q_link.specs.Views.{View as LinkView}
use Rattle.q_link.specs.WaitsLeft.{waits_sum}
use Rattle.q_listen.specs.Courses.{Start}
use Rattle.q_listen.specs.ListenEnds.{Outsides}
use Rattle.q_listen.specs.Phases.{GoesOn, IsCounted}
use Rattle.q_listen.specs.Serving.{Task}
use Rattle.q_listen.specs.Sessions.{InSession, IsAccepted, IsBetween}
use Rattle.q_listen.specs.declared.hearing.Life.{Life}
use Rattle.q_smtpd.specs.declared.session.Session.{Session}

-- before a poll, from the accept on
abbrev pub SessionGoes : {H : Type 0} → (H → View) → Outsides → View → View → Life → Life → LinkView → LinkView → Session → Type 0
SessionGoes {H} view z u v life next l m i = (o : Start H) → (k : Task)
    → GoesOn view o z.before u (IsAccepted k l) life → GoesOn view o z.behind v (InSession k 1 m i) next

abbrev pub SessionCounts : DoorView → LinkView → Life → DoorView → LinkView → Life → Type 0
SessionCounts d l life e m next = (first : DoorView)
    → IsCounted first d (waits_sum d.waits_left l.waits_left) life.given → IsCounted first e (waits_sum e.waits_left m.waits_left) next.given

-- so many links were served
abbrev pub LinksGo : {H : Type 0} → (H → View) → Outsides → View → View → Life → Life → ℕ → ℕ → Type 0
LinksGo {H} view z u v life next count served = (o : Start H) → (port : ℕ)
    → GoesOn view o z.before u (IsBetween (record { port = port; count = count; served = 0 })) life
    → GoesOn view o z.behind v (IsBetween (record { port = port; count = count; served = served })) next

abbrev pub LinksCount : DoorView → Life → DoorView → Life → Type 0
LinksCount d life e next = (first : DoorView) → IsCounted first d d.waits_left life.given → IsCounted first e e.waits_left next.given
