use Rattle.std.proofs.Common.{arith}
use Rattle.q_model.proofs.PaddedLaws.{lower_more}
use Rattle.q_model.proofs.padded.lower_all.Goals as goal

pub loop-i-preserved : goal.loop-i-preserved
loop-i-preserved c = lower_more c.args.bytes.now _ _ _ (omega (arith, c.loop-i-test.true, c.requires)) c.loop-i.invariant c.lower.ensures
