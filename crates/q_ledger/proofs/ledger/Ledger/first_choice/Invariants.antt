use Rattle.std.proofs.Common.{◌≡◌, ◌-◌}
use Rattle.q_ledger.specs.Choosing.{choices_from}
use Rattle.q_ledger.proofs.ledger.Ledger.first_choice.Given as goal

abbrev pub invariant-loop-transport : goal.invariant-loop-transport
invariant-loop-transport l =
    choices_from l.world l.fn.self l.accounts l.transport (l.transports - l.transport) ≡ choices_from l.world l.fn.self l.accounts 0 l.transports
