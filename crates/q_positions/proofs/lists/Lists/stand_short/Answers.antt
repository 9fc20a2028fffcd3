use Rattle.std.proofs.Common.{◌≤◌, length, subst}
use Rattle.std.specs.List.{AllByRecursion}
use Rattle.q_positions.proofs.Short.{lists_short}
use Rattle.q_positions.specs.Lists.{Lists}
use Rattle.q_positions.proofs.lists.Lists.stand_short.Goals as goal

pub returns : goal.returns
returns c =
    let a = c.self.inside in
    subst (λ (v : Lists). AllByRecursion (λ xs. length xs ≤ v.most) v.lists) c.self.view_is (lists_short a.most a.cells.items a.lens.items c.self.invariant.within)
