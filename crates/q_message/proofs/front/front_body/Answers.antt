use Rattle.std.proofs.Common.{sym, arith}
use Rattle.q_message.proofs.front.front_body.Goals as goal
use Rattle.q_message.proofs.FrontLaws.{front_found, front_none}

pub returns-in_default : goal.returns-in_default
returns-in_default c = sym (front_none c.args.kind c.args.bytes.now (λ i. omega (arith, c.type_inv.bytes i)) (λ body rest lawful is. c.in_default.not-Ok _ (c.get.ensures.again c.args.kind body rest lawful is)))

pub returns : goal.returns
returns c = front_found c.args.kind c.args.bytes.now c.in-Ok.record c.in-Ok.ensures.found c.if-record-kind.false
