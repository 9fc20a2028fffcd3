use Rattle.q_ranks.proofs.Standing.{sound_without}
use Rattle.q_ranks.proofs.ranked.Ranked.remove.Goals as goal

pub invariant_of-self : goal.invariant_of-self
invariant_of-self c =
    let a = c.self.inside in
    rw c.remove.ensures (sound_without a.order a.ranks.items a.numbers c.self.invariant c.args.number)
