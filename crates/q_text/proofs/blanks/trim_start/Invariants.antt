use Rattle.std.proofs.Common.{◌≡◌, length}
use Rattle.q_text.specs.Blanks.{trimmed_start}
use Rattle.q_text.proofs.blanks.trim_start.Given as goal

abbrev pub invariant-loop-rest : goal.invariant-loop-rest
invariant-loop-rest l = trimmed_start l.rest ≡ trimmed_start l.text

abbrev pub decreases-loop-rest : goal.decreases-loop-rest
decreases-loop-rest l = length l.rest
