use Rattle.std.proofs.Common.{List, subst, ℕ}
use Rattle.q_least.specs.Keys.{IsLeastAt}
use Rattle.q_least.specs.Trees.{leaf_keys}
use Rattle.q_least.proofs.Numbers.{least_of_numbers, numbers_of}
use Rattle.q_least.proofs.least.Least.least.Goals as goal

pub returns : goal.returns
returns c =
    let inside = c.self.inside in
    let tree = inside.tree.items in
    subst (λ (keys : List ℕ). IsLeastAt keys c.least_leaf.result) c.self.view_is
    (least_of_numbers inside.count (leaf_keys inside.leaves tree) c.least_leaf.result (numbers_of inside.count inside.leaves tree c.self.invariant) c.least_leaf.ensures)
