use Rattle.std.proofs.Common.{ap, sym, ◌≡◌}
use Rattle.q_register.specs.declared.member.Member.{Member}
use Rattle.q_register.proofs.Placing.{placed_put}
use Rattle.q_register.proofs.Standing.{map_none, map_sole}
use Rattle.q_register.proofs.places.put.Goals as goal

pub returns-in_default-clause-members : goal.returns-in_default-clause-members
returns-in_default-clause-members g c = sym (map_none g.K.PartialEq.eq c.args.key.now c.args.value c.args.rank c.args.places.now.items c.in_default.ensures.none)

pub returns-clause-placed : goal.returns-clause-placed
returns-clause-placed g c =
    let f = c.in-Some.found in
    let found = c.in-Some.ensures.some in
    let x = c.changed_to.result in
    let key : x.key ≡ f.member.key = ap (λ (e : Member g.row.K.Denot g.row.T.Denot). e.key) c.changed_to.ensures in
    let rank : x.rank ≡ c.args.rank = ap (λ (e : Member g.row.K.Denot g.row.T.Denot). e.rank) c.changed_to.ensures in
    rw c.set.ensures (rw (sym rank) (placed_put g.K.PartialEq.eq g.met.K.Eq.laws c.args.places.now.items c.args.index.now c.args.ranks.now c.args.key.now f x c.requires found key))

pub returns-clause-members : goal.returns-clause-members
returns-clause-members g c =
    let f = c.in-Some.found in
    let found = c.in-Some.ensures.some in
    rw c.changed_to.ensures (map_sole g.K.PartialEq.eq c.args.key.now c.args.value c.args.rank c.args.places.now.items f.place f.member found.stands found.key found.sole)
