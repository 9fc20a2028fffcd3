use Rattle.std.proofs.Common.{ap, arith, length}
use Rattle.q_positions.proofs.Cells.{length_lists}
use Rattle.q_positions.specs.Lists.{Lists}
use Rattle.q_positions.proofs.lists.Lists.count.Goals as goal

pub returns : goal.returns
returns c =
    let a = c.self.inside in
    let same = ap (λ (v : Lists). length v.lists) c.self.view_is in
    let long = length_lists a.most a.cells.items a.lens.items in
    omega (arith, same, long, c.len.ensures, c.self.invariant.few)
