use Rattle.std.proofs.Common.{◌≤◌, length, subst}
use Rattle.q_peers.specs.Numbered.{AreApart, AreShort, Items}
use Rattle.q_peers.proofs.Short.{items_short}
use Rattle.q_peers.proofs.Standing.{apart, within}
use Rattle.std.specs.Prelude.{[], get_or}
use Rattle.q_peers.proofs.waiting.Waiting.stand_apart.Goals as goal

pub returns-clause-apart : goal.returns-clause-apart
returns-clause-apart c =
    let a = c.self.inside in
    subst (λ (v : Items). AreApart v.items) c.self.view_is (apart a.rows.rows a.order a.by_peer a.by_site a.live a.room c.self.invariant c.stand_once.ensures)

pub returns-clause-within : goal.returns-clause-within
returns-clause-within c =
    let a = c.self.inside in
    subst (λ (v : Items). length v.items ≤ v.room) c.self.view_is (within a.rows.rows a.order a.by_peer a.by_site a.live a.room c.self.invariant)

pub returns-clause-short : goal.returns-clause-short
returns-clause-short c =
    let a = c.self.inside in
    subst (λ (v : Items). AreShort v.most v.items) c.self.view_is (items_short a.rows.most a.rows.rows (get_or a.order.lists 0 []) c.stand_short.ensures)
