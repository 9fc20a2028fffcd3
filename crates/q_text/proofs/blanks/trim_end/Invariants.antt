use Rattle.std.proofs.Common.{◌≡◌, length}
use Rattle.q_text.specs.Blanks.{trimmed_end}
use Rattle.q_text.proofs.blanks.trim_end.Given as goal

abbrev pub invariant-loop-rest : goal.invariant-loop-rest
invariant-loop-rest l = trimmed_end l.rest ≡ trimmed_end l.text

abbrev pub decreases-loop-rest : goal.decreases-loop-rest
decreases-loop-rest l = length l.rest
