use Rattle.std.proofs.Common.{ap, arith, position, ◌∙◌}
use Rattle.q_least.specs.Keys.{is_within}
use Rattle.q_least.specs.Trees.{leaf_keys}
use Rattle.q_least.proofs.Numbers.{numbers_of, position_of_numbers}
use Rattle.q_least.proofs.least.Least.first_within.Goals as goal

pub returns : goal.returns
returns c =
    let inside = c.self.inside in
    let tree = inside.tree.items in
    let found = c.first_leaf_within.ensures in
    position_of_numbers inside.count c.args.bound (leaf_keys inside.leaves tree) c.first_leaf_within.result (numbers_of inside.count inside.leaves tree c.self.invariant) (omega (arith, c.ranges.bound.fits)) found.none found.some
    ∙ ap (position (is_within c.args.bound)) c.self.view_is
