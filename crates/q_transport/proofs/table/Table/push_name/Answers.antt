use Rattle.std.proofs.Common.{ap, arith, length}
use Rattle.q_transport.proofs.ContentLaws.{with_new_name}
use Rattle.q_transport.proofs.table.Table.push_name.Goals as goal

pub invariant_of-self-2 : goal.invariant_of-self-2
invariant_of-self-2 c =
    let few = ap (λ t. length t.names) c.self.view_is in
    let new = rw (← c.self.view_is) at c.requires.new in
    rw c.in_ok-push.ensures.items (with_new_name _ _ c.args.name c.self.invariant (omega (arith, c.requires.few, few)) c.requires.form new)
