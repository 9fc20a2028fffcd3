-- What the steps of a poll come to.
use Rattle.std.specs.Prelude.{◌≡◌, Bool, Err, List, None, Ok, Option, Result, Some, ℕ}
use Rattle.q_host.specs.View.{View as HostView}
use Rattle.q_host.specs.declared.error.HostError.{HostError}
use Rattle.q_link.specs.Records.{Closes, HopsView}
use Rattle.q_model.specs.declared.outcome.Outcome.{Outcome}
use Rattle.q_model.specs.declared.outcome.SiteState.TheVariants.{Down}
use Rattle.q_smtp.specs.Codes.{put_off}
use Rattle.q_session.specs.Codes.{HasCodes}
use Rattle.q_session.specs.Polls.{Counts}
use Rattle.q_session.specs.declared.polled.Polled.{Polled}
use Rattle.q_session.specs.declared.polled.Polled.TheVariants.{Over, Working}
use Rattle.q_agent.specs.Sessions.{OpenSession, Work}
use Rattle.q_agent.specs.NextPoll.{IsPolled, IsReportOf, IsWorking}
use Rattle.q_agent.specs.declared.report.Report.{Report}

-- a session was polled, and has its outcomes where it is over, with codes of replies
pub record PollsWork (tells : Bool) (host : HostView) (now : ℕ) (p : Polled) (old new : Work) : Type 0 where
  pub polled : IsPolled tells host now p old new
  pub counts : Counts p new.session
  pub codes : HasCodes p new.session

-- without a link it is over
abbrev pub PollsOnce : Bool → HostView → ℕ → Polled → Option Work → Option Work → Type 0
PollsOnce tells host now p None None = p ≡ Over Down
PollsOnce tells host now p None (Some v) = ⊥
PollsOnce tells host now p (Some w) None = ⊥
PollsOnce tells host now p (Some w) (Some v) = PollsWork tells host now p w v

-- it isn't over
abbrev pub GoesOnBy : Result Polled HostError → Type 0 → Type 0
GoesOnBy (Ok Working) P = P
GoesOnBy (Ok (Over site)) P = Unit {0}
GoesOnBy (Err e) P = P

-- the outcomes of a session that was over, whose link was closed
abbrev pub Concluded : HopsView → HopsView → Option Work → ℕ → List Outcome → Type 0
Concluded old new None recipients outcomes = (outcomes ≡ put_off recipients) × (new ≡ old)
Concluded old new (Some w) recipients outcomes = (outcomes ≡ w.session.outcomes) × Closes w.link old new

-- it goes on, or is reported
abbrev pub Went : Bool → HostView → ℕ → HopsView → HopsView → Option Report → OpenSession → OpenSession → Type 0
Went tells host now hops_old hops_new None old new = IsWorking tells host now old new × (hops_new ≡ hops_old)
Went tells host now hops_old hops_new (Some r) old new = IsReportOf tells host now old r hops_old hops_new
