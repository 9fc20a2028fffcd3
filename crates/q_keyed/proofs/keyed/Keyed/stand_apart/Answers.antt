use Rattle.std.proofs.Common.{◌≤◌, length, subst}
use Rattle.q_keyed.specs.Numbered.{AreApart, AreKeysApart, Items}
use Rattle.q_keyed.proofs.Standing.{apart, keys, within}
use Rattle.q_keyed.proofs.keyed.Keyed.stand_apart.Goals as goal

pub returns-clause-apart : goal.returns-clause-apart
returns-clause-apart g c =
    let a = c.self.inside in
    subst (λ (v : Items g.row.T.Denot). AreApart v.items) c.self.view_is (apart g.T.HasKey.eq g.T.HasKey.key_of g.T.HasKey.hash g.met.T.HasKey.is_same g.met.T.HasKey.is_own a.items.items a.order a.by_key a.live a.room c.self.invariant.0 c.stand_once.ensures)

pub returns-clause-within : goal.returns-clause-within
returns-clause-within g c =
    let a = c.self.inside in
    subst (λ (v : Items g.row.T.Denot). length v.items ≤ v.room) c.self.view_is (within g.T.HasKey.eq g.T.HasKey.key_of g.T.HasKey.hash g.met.T.HasKey.is_same g.met.T.HasKey.is_own a.items.items a.order a.by_key a.live a.room c.self.invariant.0)

pub returns-clause-keys : goal.returns-clause-keys
returns-clause-keys g c =
    let a = c.self.inside in
    subst (λ (v : Items g.row.T.Denot). AreKeysApart g.T.HasKey.eq g.T.HasKey.key_of v.items) c.self.view_is (keys g.T.HasKey.eq g.T.HasKey.key_of g.T.HasKey.hash g.met.T.HasKey.is_same g.met.T.HasKey.is_own a.items.items a.order a.by_key a.live a.room c.self.invariant.0 c.stand_once.ensures)
