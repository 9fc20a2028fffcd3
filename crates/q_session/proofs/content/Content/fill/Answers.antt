use Rattle.std.proofs.Common.{Ok, ap, arith}
use Rattle.q_session.proofs.ContentFills.{end_alone_fills, last_fills}
use Rattle.q_session.proofs.content.Content.fill.Goals as goal

pub returns-then-self-eq0-clause-filled : goal.returns-then-self-eq0-clause-filled
returns-then-self-eq0-clause-filled g c = λ e tells mail stands placed.
    end_alone_fills mail c.args.self.now c.end.new.self c.clear.new.self c.end.new.outbox (omega (arith, c.if-self-eq0.true)) placed c.end.ensures.content c.clear.ensures c.end.ensures.bytes

pub returns-clause-filled : goal.returns-clause-filled
returns-clause-filled g c = λ e tells mail stands placed.
    let put = c.in_ok-put_piece.ensures in
    last_fills mail c.args.self.now c.put_piece.new.self c.end-2.new.self c.put_piece.new.outbox c.end-2.new.outbox (put.filled (ap Ok c.if-not-branch.false) tells mail stands placed)
    put.busy (omega (arith, c.if-self-gt0.false)) c.end-2.ensures.content c.end-2.ensures.bytes
