use Rattle.std.proofs.Common.{◌≡◌, None, take}
use Rattle.std.specs.Prelude.{find}
use Rattle.q_restart.specs.Damages.{is_mispaired}
use Rattle.q_restart.proofs.judging.mispaired.Given as goal

abbrev pub invariant-loop-standing : goal.invariant-loop-standing
invariant-loop-standing l = record { none : find (is_mispaired l.walk) (take l.standing-index l.walk) ≡ None }
