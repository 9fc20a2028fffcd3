use Rattle.std.proofs.Common.{subst}
use Rattle.q_chains.specs.Laid.{lists_in}
use Rattle.q_chains.specs.Lists.{StandOnce}
use Rattle.q_chains.proofs.Once.{laid_once}
use Rattle.q_chains.proofs.chains.Chains.stand_once.Goals as goal

pub returns : goal.returns
returns c =
    let a = c.self.inside in
    subst StandOnce c.self.view_is (laid_once a.next.items a.before.items a.numbers (lists_in a.next.items a.numbers) c.self.invariant)
