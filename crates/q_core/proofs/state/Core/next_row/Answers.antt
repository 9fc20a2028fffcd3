use Rattle.std.proofs.Common.{rules, ◌≡◌, ◌∙◌, ap, false, sym, true}
use Rattle.std.specs.Option.{option_copied}
use Rattle.std.specs.Prelude.{nat_lt}
use Rattle.q_core.proofs.EarlyLaws.{no_next_row}
use Rattle.q_core.proofs.NextRows.{none_chosen, row_chosen}
use Rattle.q_core.specs.Starting.{flights_at, next_row_in, next_row_of}
use Rattle.q_core.specs.State.{State}
use Rattle.q_rounds.specs.Rounds.{next_in}
use Rattle.q_core.proofs.state.Core.next_row.Goals as goal

pub returns-then-not-has_process : goal.returns-then-not-has_process
returns-then-not-has_process c =
    let none : c.has_process.result ≡ false = search rules in
    sym (no_next_row c.args.self.now c.args.transport c.args.id (sym c.has_process.ensures ∙ none))

pub returns-then-has_passed : goal.returns-then-has_passed
returns-then-has_passed c =
    c.next_row_among.ensures ∙ ap (λ (s : State). next_row_of c.args.self.now c.args.transport c.args.id s.waiting) c.self.view_is

pub returns-in_default : goal.returns-in_default
returns-in_default c =
    let some : c.has_process.result ≡ true = search rules in
    let a = c.self.inside in
    let t = c.args.transport in
    let id = c.args.id in
    let process = ap (λ (s : State). nat_lt (flights_at s t) s.params.process_limit) c.self.view_is ∙ sym c.has_process.ensures ∙ some in
    let none = ap (λ n. next_in a.sites.items n id a.schedule.peers) (sym c.from.ensures) ∙ sym c.next.ensures ∙ ap option_copied c.in_default.is in
    sym (none_chosen a c.self.invariant.2 c.self.invariant.3 c.stand_apart.ensures.apart c.stand_apart.ensures.jobs t process id none)
    ∙ ap (λ (s : State). next_row_in s t id) c.self.view_is

pub returns : goal.returns
returns c =
    let some : c.has_process.result ≡ true = search rules in
    let a = c.self.inside in
    let t = c.args.transport in
    let id = c.args.id in
    let process = ap (λ (s : State). nat_lt (flights_at s t) s.params.process_limit) c.self.view_is ∙ sym c.has_process.ensures ∙ some in
    let next = ap (λ n. next_in a.sites.items n id a.schedule.peers) (sym c.from.ensures) ∙ sym c.next.ensures ∙ ap option_copied c.in-Some.is in
    c.first_row.ensures
    ∙ row_chosen a c.self.invariant.2 c.self.invariant.3 c.stand_apart.ensures.apart c.stand_apart.ensures.jobs t process id c.stand_apart.ensures.starts (sym c.has_passed.ensures ∙ c.if-has_passed.false) c.in-Some.peer.now next
    ∙ ap (λ (s : State). next_row_in s t id) c.self.view_is
