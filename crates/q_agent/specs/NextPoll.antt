-- What the next poll of an agent does.
use Rattle.std.specs.Prelude.{◌+◌, ◌<◌, ◌≡◌, ◌≤◌, Bool, length, List, None, Option, Some, ℕ}
use Rattle.q_host.specs.View.{View as HostView}
use Rattle.q_link.specs.Records.{Closes, HopsView}
use Rattle.q_link.specs.Views.{Told}
use Rattle.q_model.specs.declared.outcome.Outcome.{Outcome}
use Rattle.q_model.specs.declared.outcome.SiteState.{SiteState}
use Rattle.q_model.specs.declared.outcome.SiteState.TheVariants.{Down, Up}
use Rattle.q_smtp.specs.Codes.{put_off}
use Rattle.q_session.specs.Codes.{HaveReplyCodes}
use Rattle.q_session.specs.Deliveries.{Serves}
use Rattle.q_session.specs.Mails.{Mail, StandsAt, exchange_of}
use Rattle.q_session.specs.Polls.{IsOver, Keeps, Passes}
use Rattle.q_session.specs.Steps.{Awaits}
use Rattle.q_session.specs.Uses.{SparesPolled}
use Rattle.q_session.specs.declared.polled.Polled.{Polled}
use Rattle.q_session.specs.declared.polled.Polled.TheVariants.{Over, Working}
use Rattle.q_agent.specs.Sessions.{OpenSession, Work}
use Rattle.q_agent.specs.declared.report.Report.{Report}

-- 600 seconds behind its opening a session is down
abbrev pub IsTimely : Polled → ℕ → ℕ → Type 0
IsTimely Working opened now = now < opened + 600
IsTimely (Over Up) opened now = now < opened + 600
IsTimely (Over Down) opened now = Unit {0}

-- what a session that followed its link comes to, by what its link tells
abbrev pub ComesTo : Polled → Bool → ℕ → Mail → Work → Work → Type 0
ComesTo Working tells now mail old new = Serves tells mail new.session new.link
    × ((t : Told) → new.link.told ≡ Some t → Awaits tells (exchange_of mail old.session.to t.received) t new.link)
ComesTo (Over site) tells now mail old new =
    (t : Told) → new.link.told ≡ Some t → IsOver tells site now mail new.session t old.link new.link

-- a session was polled over its link
pub record IsPolled (tells : Bool) (host : HostView) (now : ℕ) (p : Polled) (old new : Work) : Type 0 where
  pub keeps : Keeps old.session new.session
  pub passes : Passes p old.link new.link
  pub faults : old.link.faults ≤ new.link.faults
  pub spares : SparesPolled p old.link.waits_left new.link.waits_left
  pub timely : IsTimely p old.session.opened now
  pub comes : (mail : Mail) → StandsAt tells host old.session.content.spot mail
      → Serves tells mail old.session old.link → ComesTo p tells now mail old new

abbrev pub GoesOn : Bool → HostView → ℕ → Option Work → Option Work → Type 0
GoesOn tells host now (Some w) (Some v) = IsPolled tells host now Working w v
GoesOn tells host now None new = ⊥
GoesOn tells host now (Some w) None = ⊥

-- the same delivery
pub record IsSameDelivery (old new : OpenSession) : Type 0 where
  pub number : new.number ≡ old.number
  pub recipients : new.recipients ≡ old.recipients

-- the same session, which goes on
pub record IsWorking (tells : Bool) (host : HostView) (now : ℕ) (old new : OpenSession) : Type 0 where
  pub same : IsSameDelivery old new
  pub work : GoesOn tells host now old.work new.work

-- The session is over, and the link that it had in the end was closed.
pub record Concludes (tells : Bool) (host : HostView) (now : ℕ) (w : Work) (site : SiteState) (outcomes : List Outcome) (old new : HopsView) : Type 0 where
  pub last : Work
  pub polled : IsPolled tells host now (Over site) w last
  pub outcomes_are : last.session.outcomes ≡ outcomes
  pub closes : Closes last.link old new

-- the session that is over was one without a link, or its link was closed
abbrev pub Ends : Bool → HostView → ℕ → Option Work → SiteState → List Outcome → HopsView → HopsView → Type 0
Ends tells host now None site outcomes old new = (site ≡ Down) × (new ≡ old)
Ends tells host now (Some w) site outcomes old new = Concludes tells host now w site outcomes old new

-- one outcome for each of so many recipients, who are put off where the site is down
abbrev pub Counts : SiteState → ℕ → List Outcome → Type 0
Counts Up n outcomes = length outcomes ≡ n
Counts Down n outcomes = outcomes ≡ put_off n

-- The report is that of this session.
pub record IsReportOf (tells : Bool) (host : HostView) (now : ℕ) (o : OpenSession) (r : Report) (old new : HopsView) : Type 0 where
  pub number : r.number ≡ o.number
  pub counts : Counts r.site o.recipients r.outcomes
  pub codes : HaveReplyCodes r.outcomes
  pub ends : Ends tells host now o.work r.site r.outcomes old new
