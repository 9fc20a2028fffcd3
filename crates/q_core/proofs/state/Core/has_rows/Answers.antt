use Rattle.std.proofs.Common.{◌∙◌, ap, sym}
use Rattle.std.specs.Option.{option_copied}
use Rattle.q_core.proofs.PoolTies.{rows_held, rows_left}
use Rattle.q_core.specs.Held.{has_rows_in}
use Rattle.q_core.specs.State.{State}
use Rattle.q_core.specs.View.{state_of}
use Rattle.q_core.proofs.state.Core.has_rows.Goals as goal

pub returns-in-Some : goal.returns-in-Some
returns-in-Some c =
    let t = c.self.invariant.0 in
    c.has_rows.ensures ∙ ap rows_left (ap option_copied (sym c.in-Some.is) ∙ c.get.ensures)
    ∙ sym (rows_held (state_of c.self.inside) c.self.inside.admitted.items t.waiting t.flights t.unsettled c.args.id) ∙ ap (λ (s : State). has_rows_in s c.args.id) c.self.view_is

pub returns-in-None : goal.returns-in-None
returns-in-None c =
    let t = c.self.invariant.0 in
    ap rows_left (ap option_copied (sym c.in-None.is) ∙ c.get.ensures)
    ∙ sym (rows_held (state_of c.self.inside) c.self.inside.admitted.items t.waiting t.flights t.unsettled c.args.id) ∙ ap (λ (s : State). has_rows_in s c.args.id) c.self.view_is
