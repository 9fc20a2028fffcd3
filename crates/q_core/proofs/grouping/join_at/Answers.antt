use Rattle.std.proofs.Common.{ap, arith, length}
use Rattle.q_core.proofs.GroupLaws.{joined_few}
use Rattle.q_positions.specs.Rows.{Rows}
use Rattle.q_core.proofs.grouping.join_at.Goals as goal

pub returns-in-Some-clause-more : goal.returns-in-Some-clause-more
returns-in-Some-clause-more c =
    let more = ap (λ (x : Rows). length x.rows) c.join_row.ensures.rows in
    let few = joined_few c.args.rows.now.most c.args.id c.in-Some.site.now c.args.position c.args.rows.now.rows in
    omega (arith, more, few)
