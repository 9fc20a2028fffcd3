use Rattle.std.proofs.Common.{◌≡◌, ◌++◌, map, take, drop}
use Rattle.q_ledger.specs.Windows.{heard_at}
use Rattle.q_ledger.proofs.windows.hear_state.Given as goal

abbrev pub invariant-loop-noted : goal.invariant-loop-noted
invariant-loop-noted l = l.sites ≡ map (heard_at l.params l.site l.busy l.clock.seconds l.state) (take l.noted-index l.initial.sites) ++ drop l.noted-index l.initial.sites
