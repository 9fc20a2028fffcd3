use Rattle.std.proofs.Common.{ap, map, ◌∙◌}
use Rattle.q_least.proofs.Made.{leaf_keys-set}
use Rattle.q_least.specs.declared.tree.Keyed.{Keyed}
use Rattle.q_least.proofs.tree.set_leaf.Goals as goal

pub returns-clause-leaves : goal.returns-clause-leaves
returns-clause-leaves c =
    ap (map (λ (x : Keyed). x.key)) c.mend.ensures.leaves ∙ leaf_keys-set c.args.leaves c.args.leaf c.args.tree.now.items _
