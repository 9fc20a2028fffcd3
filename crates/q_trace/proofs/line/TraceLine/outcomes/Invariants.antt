use Rattle.std.proofs.Common.{◌≡◌, ◌++◌, map, take}
use Rattle.std.specs.Prelude.{flat_map}
use Rattle.q_model.specs.Text.{outcome_text, spaced}
use Rattle.q_trace.proofs.line.TraceLine.outcomes.Given as goal

abbrev pub invariant-loop-outcome : goal.invariant-loop-outcome
invariant-loop-outcome l = l.self ≡ l.initial.self ++ flat_map spaced (map outcome_text (take l.outcome-index l.outcomes))
