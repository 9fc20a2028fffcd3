use Rattle.std.proofs.Common.{◌≡◌, subst, true}
use Rattle.std.specs.List.{AllByRecursion}
use Rattle.q_keyed.specs.Numbered.{Items, values_of}
use Rattle.q_rounds.specs.declared.peer.Peer.{Peer}
use Rattle.q_rounds.specs.Rounds.{AreStartsApart, waits}
use Rattle.q_rounds.proofs.ItemSets.{all_wait, starts_apart}
use Rattle.q_rounds.proofs.rounds.Rounds.stand_apart.Goals as goal

pub returns-clause-starts : goal.returns-clause-starts
returns-clause-starts c =
    let a = c.self.inside in
    subst (λ (v : Items Peer). AreStartsApart (values_of v.items)) c.self.view_is (starts_apart a.peers.items c.stand_apart.ensures.apart c.self.invariant.starts)

pub returns-clause-wait : goal.returns-clause-wait
returns-clause-wait c =
    let a = c.self.inside in
    subst (λ (v : Items Peer). AllByRecursion (λ p. waits p ≡ true) (values_of v.items)) c.self.view_is (all_wait a.peers.room a.peers.items c.stand_apart.ensures.apart c.self.invariant.fit)
