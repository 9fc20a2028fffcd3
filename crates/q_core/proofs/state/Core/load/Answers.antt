use Rattle.std.proofs.Common.{◌≡◌, ◌∙◌, ap, false, sym, true}
use Rattle.q_core.specs.Loading.{fit_in}
use Rattle.q_core.proofs.state.Core.load.Goals as goal

pub returns-then-not-add_rows-clause-exact : goal.returns-then-not-add_rows-clause-exact
returns-then-not-add_rows-clause-exact c = λ rows is fits.
    let bad : true ≡ false = sym fits ∙ ap (fit_in c.args.self.now c.args.id) is ∙ sym c.add_rows.ensures.fits ∙ c.if-not-add_rows.true in cc
