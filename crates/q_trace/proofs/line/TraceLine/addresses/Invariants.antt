use Rattle.std.proofs.Common.{◌≡◌, ◌++◌, map, take}
use Rattle.std.specs.Prelude.{flat_map}
use Rattle.q_model.specs.Text.{spaced}
use Rattle.q_trace.proofs.line.TraceLine.addresses.Given as goal

abbrev pub invariant-loop-receiver : goal.invariant-loop-receiver
invariant-loop-receiver l = l.self ≡ l.initial.self ++ flat_map spaced (map (λ r. r.address) (take l.receiver-index l.addresses))
