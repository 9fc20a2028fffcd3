use Rattle.std.proofs.Common.{◌≡◌, take, vec_capacity}
use Rattle.q_register.specs.Places.{members_of}
use Rattle.q_register.proofs.together.keep_all.Given as goal

abbrev pub invariant-loop-i : goal.invariant-loop-i
invariant-loop-i g l = record { kept : l.kept.items ≡ members_of (take l.i l.places); capacity : vec_capacity l.kept ≡ vec_capacity l.initial.kept }
