use Rattle.std.proofs.Common.{◌*◌}
use Rattle.q_turns.proofs.Choosing.{heads_left, sends, WalksAt}
use Rattle.q_turns.proofs.turns.Turns.current.Given as goal

abbrev pub invariant-loop-at : goal.invariant-loop-at
invariant-loop-at l = WalksAt (l.transport * 2) l.self-inside.heads (sends l.sites.items l.self-inside.peers.items) l.at

abbrev pub decreases-loop-at : goal.decreases-loop-at
decreases-loop-at l = heads_left (l.transport * 2) l.self-inside.heads l.at
