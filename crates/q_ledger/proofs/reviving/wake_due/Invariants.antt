use Rattle.std.proofs.Common.{◌≡◌, ◌++◌, map, take, drop}
use Rattle.q_ledger.specs.Woken.{woken_at}
use Rattle.q_ledger.proofs.reviving.wake_due.Given as goal

abbrev pub invariant-loop-noted : goal.invariant-loop-noted
invariant-loop-noted l = l.sites ≡ map (woken_at l.params l.flights l.moment) (take l.noted-index l.initial.sites) ++ drop l.noted-index l.initial.sites
