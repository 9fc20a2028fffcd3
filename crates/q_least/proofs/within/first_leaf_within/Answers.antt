use Rattle.std.proofs.Common.{ap, arith, subst, sym}
use Rattle.std.proofs.lemmas.Option.{get_or_from_slice_get}
use Rattle.q_least.proofs.Descent.{a_place, all_above, at_root, first_at_leaf, IsAbove, to_child}
use Rattle.q_least.specs.Trees.{IsFirstWithin, leaf_keys, nothing}
use Rattle.q_least.specs.declared.tree.Keyed.{Keyed}
use Rattle.q_least.proofs.within.first_leaf_within.Goals as goal

pub returns-then-keyed_at-bound-clause-none : goal.returns-then-keyed_at-bound-clause-none
returns-then-keyed_at-bound-clause-none c =
    let tree = c.args.tree.now.items in
    let root = ap (λ (x : Keyed). x.key) (get_or_from_slice_get tree 1 c.keyed_at.result nothing c.keyed_at.ensures) in
    all_above c.args.bound c.args.leaves tree c.requires.tree (omega (arith, root, c.if-keyed_at-bound.true))

pub loop-place-init : goal.loop-place-init
loop-place-init c =
    let tree = c.args.tree.now.items in
    let root = ap (λ (x : Keyed). x.key) (get_or_from_slice_get tree 1 c.keyed_at.result nothing c.keyed_at.ensures) in
    record {
      above = at_root c.args.bound c.args.leaves c.requires.power.0 tree c.requires.power.1 (omega (arith, root, c.if-keyed_at-bound.false));
      inside = omega (arith, c.requires.tree.some);
    }

pub loop-place-preserved : goal.loop-place-preserved
loop-place-preserved c =
    let tree = c.args.tree.now.items in
    let n = c.args.leaves in
    let below = to_child c.args.bound n c.loop-place.place tree c.requires.tree.lesser c.loop-place-test.true c.loop-place.invariant.above in
    let above = subst (IsAbove c.args.bound n tree) (sym c.child_within-place.ensures) below in
    record { above = above; inside = a_place c.args.bound n c.child_within-place.result tree above }

pub returns-clause-some : goal.returns-clause-some
returns-clause-some c =
    let tree = c.args.tree.now.items in
    let place = c.loop-place.place in
    let there = ap (λ (x : Keyed). x.number) (get_or_from_slice_get tree place c.keyed_at-2.result nothing c.keyed_at-2.ensures) in
    subst (IsFirstWithin c.args.bound (leaf_keys c.args.leaves tree)) there
    (first_at_leaf c.args.bound c.args.leaves place tree c.requires.tree (omega (arith, c.loop-place-test.false)) c.loop-place.invariant.above)
