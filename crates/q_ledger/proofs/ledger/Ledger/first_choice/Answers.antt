use Rattle.std.proofs.Common.{rules, ◌≡◌, ◌∙◌, sym, Some, None}
use Rattle.q_ledger.proofs.ChoiceLaws.{chosen_none, chosen_some}
use Rattle.q_ledger.specs.Choosing.{choice_in}
use Rattle.q_ledger.proofs.ledger.Ledger.first_choice.Goals as goal

pub returns-in-Some : goal.returns-in-Some
returns-in-Some c =
    let t = c.loop-transport.transport in
    let chosen : choice_in c.args.world.now c.args.self.now c.args.accounts.now t ≡ Some c.in-Some.entry = search rules in
    sym (chosen_some c.args.world.now c.args.self.now c.args.accounts.now t c.args.transports c.in-Some.entry c.loop-transport-test.true chosen) ∙ c.loop-transport.invariant

pub loop-transport-preserved : goal.loop-transport-preserved
loop-transport-preserved c =
    let t = c.loop-transport.transport in
    let none : choice_in c.args.world.now c.args.self.now c.args.accounts.now t ≡ None = search rules in
    sym (chosen_none c.args.world.now c.args.self.now c.args.accounts.now t c.args.transports c.loop-transport-test.true none) ∙ c.loop-transport.invariant
