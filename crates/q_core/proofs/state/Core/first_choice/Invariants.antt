use Rattle.std.proofs.Common.{◌≡◌, ◌-◌}
use Rattle.q_core.specs.Choosing.{choices_from}
use Rattle.q_core.proofs.state.Core.first_choice.Given as goal

abbrev pub invariant-loop-transport : goal.invariant-loop-transport
invariant-loop-transport l = choices_from l.fn.self l.transport (l.fn.self.transports - l.transport) ≡ choices_from l.fn.self 0 l.fn.self.transports
