use Rattle.std.proofs.Common.{◌∙◌, ◌+◌, ◌-◌, sym, arith}
use Rattle.q_tcp_hops.proofs.AheadLaws.{given}
use Rattle.q_tcp_hops.proofs.ahead.Ahead.give.Goals as goal

pub returns-clause-given : goal.returns-clause-given
returns-clause-given c =
    let a = c.self.inside in
    let m = c.min-count.result in
    sym c.self.view_is
    ∙ given a.bytes c.copy_front.new.buf a.from a.to m (a.from + m - a.from) (omega arith) (omega (arith, c.min-count.ensures)) (omega (arith, c.self.invariant.1, c.self.told)) c.copy_front.ensures
