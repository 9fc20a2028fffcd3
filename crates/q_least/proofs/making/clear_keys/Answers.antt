use Rattle.std.proofs.Common.{ap, map, ◌∙◌}
use Rattle.q_least.specs.declared.tree.Keyed.{Keyed}
use Rattle.q_least.proofs.Mended.{numbered_as_leaves}
use Rattle.q_least.proofs.making.clear_keys.Goals as goal

pub returns-clause-tree : goal.returns-clause-tree
returns-clause-tree c = record {
  some = c.requires.some;
  few = c.requires.few;
  len = c.lessen_all.ensures.len;
  lesser = c.lessen_all.ensures.lesser;
  numbered = numbered_as_leaves c.args.leaves c.number_leaves.new.tree.items c.lessen_all.new.tree.items c.lessen_all.ensures.leaves c.number_leaves.ensures.numbered;
}

pub returns-clause-keys : goal.returns-clause-keys
returns-clause-keys c = ap (map (λ (x : Keyed). x.key)) c.lessen_all.ensures.leaves ∙ c.number_leaves.ensures.keys
