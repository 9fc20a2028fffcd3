use Rattle.std.proofs.Common.{take}
use Rattle.q_look.specs.FirstNames.{HasNone}
use Rattle.q_look.proofs.names.first_of.Given as goal

abbrev pub invariant-loop-name : goal.invariant-loop-name
invariant-loop-name g l = record { none : HasNone (g.W.Wanted.names l.wanted) (take l.name-index l.names) }
