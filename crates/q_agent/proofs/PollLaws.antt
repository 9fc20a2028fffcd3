-- What a poll of a session comes to.
use Rattle.std.proofs.Common.{◌≡◌, ℕ, ◌+◌, ◌<◌, ◌≤◌, Bool, Option, Some, None, Result, Ok, Err, refl, sym, ap, subst, ◌∙◌, ⊎_elim, length, List}
use Rattle.std.proofs.lemmas.Bool.{cases_lt}
use Rattle.std.specs.Prelude.{IfOk}
use Rattle.q_host.specs.View.{View as HostView}
use Rattle.q_host.specs.declared.error.HostError.{HostError}
use Rattle.q_link.specs.Views.{Told}
use Rattle.q_model.specs.declared.outcome.SiteState.{SiteState}
use Rattle.q_model.specs.declared.outcome.SiteState.TheVariants.{Down, Up}
use Rattle.q_session.proofs.CodeLaws.{put_off_coded}
use Rattle.q_session.specs.Codes.{HasCodes, HaveReplyCodes}
use Rattle.q_session.specs.Deliveries.{Serves}
use Rattle.q_session.specs.Mails.{Mail, StandsAt, exchange_of}
use Rattle.q_session.specs.Polls.{Counts, IsOver, Keeps, Passes}
use Rattle.q_session.specs.Steps.{Awaits}
use Rattle.q_session.specs.Uses.{SparesPolled}
use Rattle.q_session.specs.declared.polled.Polled.{Polled}
use Rattle.q_session.specs.declared.polled.Polled.TheVariants.{Over, Working}
use Rattle.q_link.specs.Records.{HopsView}
use Rattle.q_model.specs.declared.outcome.Outcome.{Outcome}
use Rattle.q_smtp.specs.Codes.{put_off}
use Rattle.q_agent.specs.Polling.{Concluded, PollsOnce, PollsWork}
use Rattle.q_agent.specs.Sessions.{IsSoundWork, Work}
use Rattle.q_agent.specs.NextPoll.{Counts as CountsOutcomes, IsReportOf, IsTimely}

-- what is said of a poll, whatever it answered
pub record Polls (tells : Bool) (host : HostView) (now : ℕ) (w v : Work) (r : Result Polled HostError) : Type 0 where
  pub late : w.session.opened + 600 ≤ now → r ≡ Ok (Over Down)
  pub in_time : r ≡ Ok Working → now < w.session.opened + 600
  pub keeps : Keeps w.session v.session
  pub counts : IfOk r (λ (p : Polled). Counts p v.session)
  pub codes : IfOk r (λ (p : Polled). HasCodes p v.session)
  pub passes : IfOk r (λ (p : Polled). Passes p w.link v.link)
  pub faults : w.link.faults ≤ v.link.faults
  pub spares : IfOk r (λ (p : Polled). SparesPolled p w.link.waits_left v.link.waits_left)
  pub serves : r ≡ Ok Working → (mail : Mail) → StandsAt tells host w.session.content.spot mail → Serves tells mail w.session w.link → Serves tells mail v.session v.link
  pub awaits : r ≡ Ok Working → (mail : Mail) → StandsAt tells host w.session.content.spot mail → Serves tells mail w.session w.link → (t : Told) → v.link.told ≡ Some t
      → Awaits tells (exchange_of mail w.session.to t.received) t v.link
  pub over : (site : SiteState) → r ≡ Ok (Over site) → (mail : Mail) → StandsAt tells host w.session.content.spot mail → Serves tells mail w.session w.link → (t : Told) → v.link.told ≡ Some t
      → IsOver tells site now mail v.session t w.link v.link

-- a session that is up was in time
abbrev answer : Polled → Result Polled HostError
answer p = Ok p

timely : (site : SiteState) (opened now : ℕ) → (opened + 600 ≤ now → answer (Over site) ≡ answer (Over Down)) → IsTimely (Over site) opened now
timely Down opened now late = tt
timely Up opened now late = ⊎_elim (λ lt. lt) (λ ge. let never = late ge in absurd cc) (cases_lt now (opened + 600))

pub polls_work : (tells : Bool) (host : HostView) (now : ℕ) (w v : Work) (r : Result Polled HostError) → Polls tells host now w v r → IfOk r (λ (p : Polled). PollsWork tells host now p w v)
polls_work tells host now w v (Err e) p = tt
polls_work tells host now w v (Ok Working) p = record {
  polled = record {
    keeps = p.keeps;
    passes = p.passes;
    faults = p.faults;
    spares = p.spares;
    timely = p.in_time refl;
    comes = λ mail stands serves. (p.serves refl mail stands serves, p.awaits refl mail stands serves);
  };
  counts = p.counts;
  codes = p.codes;
}
polls_work tells host now w v (Ok (Over site)) p = record {
  polled = record {
    keeps = p.keeps;
    passes = p.passes;
    faults = p.faults;
    spares = p.spares;
    timely = timely site w.session.opened now p.late;
    comes = λ mail stands serves. p.over site refl mail stands serves;
  };
  counts = p.counts;
  codes = p.codes;
}

-- ---- the report of a session that is over

counted : (site : SiteState) (n : ℕ) (w v : Work) (outcomes : List Outcome) → length w.session.to ≡ n → Keeps w.session v.session → Counts (Over site) v.session → outcomes ≡ v.session.outcomes → CountsOutcomes site n outcomes
counted Up n w v outcomes all keeps counts same = ap length same ∙ counts ∙ ap length keeps.to ∙ all
counted Down n w v outcomes all keeps counts same = same ∙ counts ∙ ap put_off (ap length keeps.to ∙ all)

put_off_down : (site : SiteState) (n : ℕ) (outcomes : List Outcome) → site ≡ Down → outcomes ≡ put_off n → CountsOutcomes site n outcomes
put_off_down Up n outcomes down h = absurd cc
put_off_down Down n outcomes down h = h

pub report_by : (tells : Bool) (host : HostView) (now number n : ℕ) (old new : HopsView) (w v : Option Work) (site : SiteState) (outcomes : List Outcome)
    → IsSoundWork n w → PollsOnce tells host now (Over site) w v → Concluded old new v n outcomes
    → IsReportOf tells host now (record { number = number; recipients = n; work = w }) (record { number = number; site = site; outcomes = outcomes }) old new
report_by tells host now number n old new None None site outcomes sound polls done =
    let down : site ≡ Down = cc in
    record { number = refl; counts = put_off_down site n outcomes down done.0; codes = put_off_coded n outcomes done.0; ends = (down, done.1) }
report_by tells host now number n old new None (Some v) site outcomes sound polls done = absurd polls
report_by tells host now number n old new (Some w) None site outcomes sound polls done = absurd polls
report_by tells host now number n old new (Some w) (Some v) site outcomes sound polls done = record {
  number = refl;
  counts = counted site n w v outcomes sound.addresses polls.polled.keeps polls.counts done.0;
  codes = subst HaveReplyCodes (sym done.0) polls.codes;
  ends = record { last = v; polled = polls.polled; outcomes_are = sym done.0; closes = done.1 };
}
