use Rattle.std.proofs.Common.{◌-◌, ◌≤◌, arith, length, rules}
use Rattle.q_ledger.proofs.LeastLaws.{passing_back}
use Rattle.q_ledger.specs.Preempting.{is_better_slot, is_candidate_slot}
use Rattle.q_ledger.proofs.ledger.Ledger.best_among.Goals as goal

pub loop-i-preserved : goal.loop-i-preserved
loop-i-preserved c =
    let slots = c.args.slots.now in
    let within : c.loop-i.i - 1 ≤ length slots = omega (arith, c.loop-i.invariant.1) in (
      passing_back (is_better_slot c.args.self.now c.args.transport) (is_candidate_slot c.args.world.now c.args.self.now c.args.accounts.now c.args.transport c.args.behind.now c.args.parent) slots c.loop-i.i _ c.loop-i.best c.better_candidate-best.result
          c.loop-i-test.true c.loop-i.invariant.1 (search rules) c.loop-i.invariant.0 c.better_candidate-best.ensures,
      within,
    )
