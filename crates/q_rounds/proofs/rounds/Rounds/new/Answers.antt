use Rattle.q_rounds.proofs.Bounds.{sound_empty}
use Rattle.q_rounds.proofs.Steps.{sound_from}
use Rattle.q_rounds.proofs.rounds.Rounds.new.Goals as goal

pub invariant_of-result : goal.invariant_of-result
invariant_of-result c =
    sound_from _ c.in_ok-peers.peers _ c.in_ok-rounds.rounds _ c.in_ok-fresh.fresh _ c.in_ok-tickets.tickets 0 c.in_ok-peers.ensures c.in_ok-rounds.ensures c.in_ok-fresh.ensures c.in_ok-tickets.ensures (sound_empty c.args.room)
