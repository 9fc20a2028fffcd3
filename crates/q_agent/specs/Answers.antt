-- What comes of the next poll.
use Rattle.std.specs.Prelude.{◌≡◌, Bool, None, Option, Some, ℕ}
use Rattle.q_host.specs.View.{View as HostView}
use Rattle.q_link.specs.Records.{HopsView}
use Rattle.q_session.specs.Mails.{Mail, StandsAt}
use Rattle.q_agent.specs.Sessions.{OpenSession, Sessions, Work, after_end, after_poll, replaced}
use Rattle.q_agent.specs.NextPoll.{IsReportOf, IsSameDelivery, IsWorking}
use Rattle.q_agent.specs.declared.report.Report.{Report}

-- the queue file of a session is there
abbrev pub HasFile : Bool → HostView → Option Work → Type 0
HasFile tells host None = Unit {0}
HasFile tells host (Some w) = (mail : Mail) × StandsAt tells host w.session.content.spot mail

abbrev pub IsStanding : Bool → HostView → OpenSession → Type 0
IsStanding tells host o = HasFile tells host o.work

-- Nothing is reported where no session is open, or the one that was polled goes on; else the report is that of the one that was polled, and it is over.
abbrev pub PollsNext : Bool → HostView → ℕ → HopsView → HopsView → Option OpenSession → Option Report → Sessions → Sessions → Type 0
PollsNext tells host now hops_old hops_new None None old new = (new ≡ old) × (hops_new ≡ hops_old)
PollsNext tells host now hops_old hops_new None (Some r) old new = ⊥
PollsNext tells host now hops_old hops_new (Some o) None old new =
    (p : OpenSession) × IsWorking tells host now o p × (new ≡ after_poll p old) × (hops_new ≡ hops_old)
PollsNext tells host now hops_old hops_new (Some o) (Some r) old new =
    IsReportOf tells host now o r hops_old hops_new × (new ≡ after_end o old)

-- What a poll that failed leaves: each delivery has its session still, and of the one that was to be polled nothing more is said.
abbrev pub Stopped : Option OpenSession → Sessions → Sessions → Type 0
Stopped None old new = new ≡ old
Stopped (Some o) old new = (p : OpenSession) × IsSameDelivery o p × (new ≡ record old { listed = replaced p old.listed })
