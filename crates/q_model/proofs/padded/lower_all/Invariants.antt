use Rattle.std.proofs.Common.{◌≡◌, ◌++◌, take, drop, map}
use Rattle.q_model.specs.Texts.{lower}
use Rattle.q_model.proofs.padded.lower_all.Given as goal

abbrev pub invariant-loop-i : goal.invariant-loop-i
invariant-loop-i l = l.bytes ≡ map lower (take l.i l.initial.bytes) ++ drop l.i l.initial.bytes
