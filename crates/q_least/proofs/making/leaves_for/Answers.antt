use Rattle.q_least.proofs.Made.{few_leaves}
use Rattle.q_least.proofs.making.leaves_for.Goals as goal

pub returns-clause-few : goal.returns-clause-few
returns-clause-few c =
    let next = c.next_power_of_two.ensures in
    few_leaves c.args.count c.next_power_of_two.result next.power next.upper_bound c.ranges.count.fits
