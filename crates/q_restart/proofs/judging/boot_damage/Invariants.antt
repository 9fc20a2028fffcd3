use Rattle.std.proofs.Common.{◌≡◌, None, take}
use Rattle.std.specs.Prelude.{find}
use Rattle.q_restart.proofs.BootNames.{is_other}
use Rattle.q_restart.proofs.judging.boot_damage.Given as goal

abbrev pub invariant-loop-name : goal.invariant-loop-name
invariant-loop-name l = record { none : find is_other (take l.name-index l.names) ≡ None }
