use Rattle.std.proofs.Common.{◌≡◌, [], take}
use Rattle.q_ledger.specs.Loading.{new_sites}
use Rattle.q_ledger.proofs.joining.new_sites.Given as goal

abbrev pub invariant-loop-i : goal.invariant-loop-i
invariant-loop-i l = l.fresh.items ≡ new_sites l.params l.records [] (take l.i l.rows)
