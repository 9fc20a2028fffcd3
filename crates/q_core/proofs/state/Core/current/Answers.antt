use Rattle.std.proofs.Common.{rules, ◌≡◌, ◌∙◌, ap, false, find, sym, true}
use Rattle.std.specs.Prelude.{nat_lt}
use Rattle.q_core.proofs.AbleLaws.{current_known}
use Rattle.q_core.proofs.EarlyLaws.{no_process}
use Rattle.q_core.proofs.SuspendedLaws.{suspended_full}
use Rattle.q_core.specs.Choosing.{current_in}
use Rattle.q_core.specs.Starting.{flights_at}
use Rattle.q_core.specs.State.{State}
use Rattle.q_jobs.specs.declared.job.Job.{Job}
use Rattle.q_turns.specs.Turns.{is_able, line_at}
use Rattle.q_core.proofs.state.Core.current.Goals as goal

pub returns-then-not-has_process : goal.returns-then-not-has_process
returns-then-not-has_process c =
    let none : c.has_process.result ≡ false = search rules in
    sym (no_process c.args.self.now c.args.transport (sym c.has_process.ensures ∙ none))

-- no site that is suspended has space
pub current-requires : goal.current-requires
current-requires c = suspended_full c.self.inside.sites.items c.self.inside.schedule.suspended c.self.invariant.9

pub returns : goal.returns
returns c =
    let some : c.has_process.result ≡ true = search rules in
    let a = c.self.inside in
    let process = ap (λ (s : State). nat_lt (flights_at s c.args.transport) s.params.process_limit) c.self.view_is ∙ sym c.has_process.ensures ∙ some in
    c.current.ensures
    ∙ ap (λ n. find (λ (j : Job). is_able a.sites.items a.schedule.peers n j.id) (line_at n a.schedule.lines)) c.from.ensures
    ∙ current_known a c.self.invariant.2 c.self.invariant.3.counts c.stand_apart.ensures.apart c.stand_apart.ensures.jobs c.args.transport process
    ∙ ap (λ (s : State). current_in s c.args.transport) c.self.view_is
