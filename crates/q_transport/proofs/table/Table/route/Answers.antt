use Rattle.std.proofs.Common.{ap, arith, length, ◌∙◌}
use Rattle.q_model.specs.Texts.{is_hop}
use Rattle.q_transport.specs.Names.{smtp}
use Rattle.q_transport.proofs.ContentLaws.{decided_target, with_name_longer}
use Rattle.q_transport.proofs.table.Table.route.Goals as goal
use Rattle.q_transport.proofs.table.Table.route.Goals.{in-Some-hop, in-None}

pub returns-clause-within : goal.returns-clause-within
returns-clause-within c =
    let target = decided_target c.self.inside.entries c.args.address.now _ c.in-Some.target.now c.self.invariant.entries c.in-Some.ensures.exact in
    let named = ap (λ t. length t.names) c.self.view_is in
    omega (arith, target.0, named, with_name_longer c.args.self.now.names smtp)

pub returns-clause-hop : goal.returns-clause-hop
returns-clause-hop c =
    let target = decided_target c.self.inside.entries c.args.address.now _ c.in-Some.target.now c.self.invariant.entries c.in-Some.ensures.exact in
    elim c.match-target.branch [
      | in-Some-hop w ↦ ap is_hop w.hop-is ∙ (rw w.in-Some-hop.is at target.1)
      | in-None w ↦ ap is_hop w.hop-is ∙ c.deciding.ensures.form
    ]
