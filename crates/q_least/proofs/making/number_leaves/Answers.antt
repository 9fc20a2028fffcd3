use Rattle.std.proofs.Common.{ap, arith, drop, refl, replicate, set, List, ◌+◌, ◌++◌, ◌≡◌, ◌∙◌, ℕ}
use Rattle.std.proofs.lemmas.List.{length-set}
use Rattle.q_least.specs.Keys.{no_key}
use Rattle.q_least.specs.Trees.{leaf_keys}
use Rattle.q_least.proofs.Made.{all_set, leaf_keys-set, length-leaf_keys, numbered_more, set_more}
use Rattle.q_least.proofs.making.number_leaves.Goals as goal

pub loop-number-preserved : goal.loop-number-preserved
loop-number-preserved c =
    let n = c.args.leaves in
    let i = c.loop-number.number in
    let tree = c.loop-number.tree.items in
    let inv = c.loop-number.invariant in
    let first = c.args.tree.now.items in
    record {
      len = length-set tree (n + i) _ ∙ inv.len;
      keys = leaf_keys-set n i tree _ ∙ ap (λ (ks : List ℕ). set ks i no_key) inv.keys ∙ set_more i no_key (leaf_keys n first) (omega (arith, length-leaf_keys n first c.requires.len, c.loop-number-test.true));
      numbered = numbered_more n i tree _ (omega (arith, inv.len, c.loop-number-test.true)) refl inv.numbered;
    }

pub returns-clause-keys : goal.returns-clause-keys
returns-clause-keys c =
    let n = c.args.leaves in
    let keys = leaf_keys n c.args.tree.now.items in
    let all : c.loop-number.number ≡ n = omega (arith, c.loop-number-test.false, c.loop-number.auto.number-end) in
    c.loop-number.invariant.keys ∙ ap (λ (i : ℕ). replicate i no_key ++ drop i keys) all ∙ all_set n no_key keys (length-leaf_keys n c.args.tree.now.items c.requires.len)
