use Rattle.std.proofs.Common.{arith}
use Rattle.q_rounds.proofs.Bounds.{few_rows}
use Rattle.q_rounds.proofs.rounds.Rounds.rows_left.Goals as goal

pub returns-clause-few : goal.returns-clause-few
returns-clause-few c =
    let a = c.self.inside in
    let few = few_rows a.peers a.rounds a.fresh a.tickets a.passed c.self.invariant c.stand_apart.ensures.apart c.args.id c.args.transport c.stand_apart.ensures.within c.stand_apart.ensures.few in
    omega (arith, few, c.rows_in.ensures)
