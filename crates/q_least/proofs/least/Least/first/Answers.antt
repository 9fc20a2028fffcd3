use Rattle.std.proofs.Common.{◌≤◌, All, List, refl, subst, ℕ}
use Rattle.std.proofs.lemmas.List.Elements.{All-take}
use Rattle.q_least.specs.Keys.{no_key}
use Rattle.q_least.specs.Trees.{leaf_keys}
use Rattle.q_least.proofs.NoKeys.{none_has, one_has}
use Rattle.q_least.proofs.least.Least.first.Goals as goal

pub returns-then-key-clause-none : goal.returns-then-key-clause-none
returns-then-key-clause-none c = (
  λ _. none_has c.args.self.now c.least-number.result c.key.result
      (subst (λ (keys : List ℕ). All (λ k. k ≤ no_key) keys) c.self.view_is (All-take (λ k. k ≤ no_key) c.self.inside.count (leaf_keys c.self.inside.leaves c.self.inside.tree.items) c.self.invariant.keys))
      c.least-number.ensures c.key.ensures c.if-key.true,
  λ _. refl,
)

pub returns-clause-none : goal.returns-clause-none
returns-clause-none c = (
  λ h. absurd cc,
  λ none. absurd (one_has c.args.self.now c.least-number.result c.key.result c.key.ensures c.if-key.false none),
)
