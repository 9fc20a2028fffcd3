use Rattle.std.proofs.Common.{◌≡◌, ◌++◌, map, take, drop}
use Rattle.q_ledger.specs.Woken.{revived_if_dead}
use Rattle.q_ledger.proofs.reviving.revive_all.Given as goal

abbrev pub invariant-loop-noted : goal.invariant-loop-noted
invariant-loop-noted l = l.sites ≡ map (revived_if_dead l.params l.flights) (take l.noted-index l.initial.sites) ++ drop l.noted-index l.initial.sites
