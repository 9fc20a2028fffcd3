use Rattle.std.proofs.Common.{rules, ◌≡◌, ◌∙◌, ap, false, sym, true}
use Rattle.std.specs.Option.{is_some, option_copied}
use Rattle.std.specs.Prelude.{nat_lt}
use Rattle.q_core.proofs.AbleLaws.{able_known}
use Rattle.q_core.proofs.EarlyLaws.{no_start}
use Rattle.q_schedule.proofs.Owns.{any_least}
use Rattle.q_core.specs.Starting.{can_start_in, flights_at}
use Rattle.q_core.specs.State.{State}
use Rattle.q_rounds.specs.Rounds.{may_send, next_in, sent_before}
use Rattle.q_core.proofs.state.Core.can_start.Goals as goal

pub returns-then-not-has_process : goal.returns-then-not-has_process
returns-then-not-has_process c =
    let none : c.has_process.result ≡ false = search rules in
    sym (no_start c.args.self.now c.args.transport c.args.id (sym c.has_process.ensures ∙ none))

pub returns-in-Some : goal.returns-in-Some
returns-in-Some c =
    let some : c.has_process.result ≡ true = search rules in
    let a = c.self.inside in
    let t = c.args.transport in
    let id = c.args.id in
    let process = ap (λ (s : State). nat_lt (flights_at s t) s.params.process_limit) c.self.view_is ∙ sym c.has_process.ensures ∙ some in
    ap is_some (ap option_copied (sym c.in-Some.is) ∙ c.next.ensures ∙ ap (λ n. next_in a.sites.items n id a.schedule.peers) c.from.ensures)
    ∙ any_least sent_before (may_send a.sites.items t id) a.schedule.peers
    ∙ able_known a c.self.invariant.2 c.self.invariant.3.counts c.stand_apart.ensures.apart c.stand_apart.ensures.jobs t process id
    ∙ ap (λ (s : State). can_start_in s t id) c.self.view_is

pub returns-in-None : goal.returns-in-None
returns-in-None c =
    let some : c.has_process.result ≡ true = search rules in
    let a = c.self.inside in
    let t = c.args.transport in
    let id = c.args.id in
    let process = ap (λ (s : State). nat_lt (flights_at s t) s.params.process_limit) c.self.view_is ∙ sym c.has_process.ensures ∙ some in
    ap is_some (ap option_copied (sym c.in-None.is) ∙ c.next.ensures ∙ ap (λ n. next_in a.sites.items n id a.schedule.peers) c.from.ensures)
    ∙ any_least sent_before (may_send a.sites.items t id) a.schedule.peers
    ∙ able_known a c.self.invariant.2 c.self.invariant.3.counts c.stand_apart.ensures.apart c.stand_apart.ensures.jobs t process id
    ∙ ap (λ (s : State). can_start_in s t id) c.self.view_is
