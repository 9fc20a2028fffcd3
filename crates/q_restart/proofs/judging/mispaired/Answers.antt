use Rattle.std.proofs.Common.{◌∙◌, sym}
use Rattle.q_restart.specs.Damages.{is_mispaired}
use Rattle.q_restart.proofs.Placing.{find-here, find-none, mispaired-is}
use Rattle.q_restart.proofs.judging.mispaired.Goals as goal

pub returns-then-is_mispaired : goal.returns-then-is_mispaired
returns-then-is_mispaired c =
    let walk = c.args.walk.now in
    sym (find-here walk c.loop-standing.standing-index _ c.loop-standing-test.true (is_mispaired walk)
    (sym (c.is_mispaired.ensures ∙ mispaired-is walk c.args.places.now _ c.requires) ∙ c.if-is_mispaired.true) c.loop-standing.invariant.none)

pub loop-standing-preserved : goal.loop-standing-preserved
loop-standing-preserved c =
    let walk = c.args.walk.now in
    record {
      none = find-none walk c.loop-standing.standing-index _ c.loop-standing-test.true (is_mispaired walk)
          (sym (c.is_mispaired.ensures ∙ mispaired-is walk c.args.places.now _ c.requires) ∙ c.if-is_mispaired.false) c.loop-standing.invariant.none;
    }
