use Rattle.std.proofs.Common.{subst}
use Rattle.std.proofs.lemmas.Option.{get_or_from_slice_get}
use Rattle.q_least.proofs.Rooted.{least_at}
use Rattle.q_least.specs.Keys.{IsLeastAt}
use Rattle.q_least.specs.Trees.{leaf_keys, nothing}
use Rattle.q_least.specs.declared.tree.Keyed.{Keyed}
use Rattle.q_least.proofs.tree.least_leaf.Goals as goal

pub returns : goal.returns
returns c =
    let n = c.args.leaves in
    let tree = c.args.tree.now.items in
    subst (λ (root : Keyed). IsLeastAt (leaf_keys n tree) root.number) (get_or_from_slice_get tree 1 c.keyed_at.result nothing c.keyed_at.ensures) (least_at n tree c.requires)
