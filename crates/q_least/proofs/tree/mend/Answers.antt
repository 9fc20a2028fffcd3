use Rattle.std.proofs.Common.{◌∙◌, ◌/◌, ap, arith, drop, length}
use Rattle.std.proofs.lemmas.List.{length-set}
use Rattle.q_least.proofs.Mended.{drop-set_before, mended, numbered_before}
use Rattle.q_least.proofs.tree.mend.Goals as goal

pub loop-place-preserved : goal.loop-place-preserved
loop-place-preserved c =
    let n = c.args.leaves in
    let q = c.loop-place.place / 2 in
    let tree = c.loop-place.tree.items in
    let inv = c.loop-place.invariant in
    record {
      some = omega (arith, c.loop-place-test.true);
      within = omega (arith, inv.within);
      len = ap length c.lessen.ensures ∙ length-set tree q _ ∙ inv.len;
      lesser = rw c.lessen.ensures (mended n q tree (omega (arith, c.loop-place-test.true)) (omega (arith, inv.within)) inv.len inv.lesser);
      numbered = rw c.lessen.ensures (numbered_before n q tree _ (omega (arith, inv.within)) inv.numbered);
      leaves = ap (drop n) c.lessen.ensures ∙ drop-set_before n q tree _ (omega (arith, inv.within)) ∙ inv.leaves;
    }
