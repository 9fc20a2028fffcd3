use Rattle.std.proofs.Common.{◌≡◌, None, take}
use Rattle.std.specs.Prelude.{find, map}
use Rattle.q_logfile.specs.Flags.{flag_at}
use Rattle.q_look.proofs.failed.first_set.Given as goal

-- none so far
abbrev pub invariant-loop-i : goal.invariant-loop-i
invariant-loop-i l = record { none : find (flag_at l.set) (take l.i (map (λ t. t.position) l.batch.items)) ≡ None }
