use Rattle.std.proofs.Common.{take}
use Rattle.q_restart.specs.Walks.{AddsStandings}
use Rattle.q_restart.proofs.standing.add_standings.Given as goal

abbrev pub invariant-loop-name : goal.invariant-loop-name
invariant-loop-name l = record { adds : AddsStandings l.area (take l.name-index l.names) l.fn.walk.items l.walk.items }
