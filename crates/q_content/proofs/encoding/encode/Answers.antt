use Rattle.std.proofs.Common.{arith}
use Rattle.std.proofs.lemmas.List.{take_rest}
use Rattle.q_content.proofs.FrontLaws.{few_sent, more_sent, none_sent, room_left}
use Rattle.q_content.proofs.encoding.encode.Goals as goal

pub loop-from-init : goal.loop-from-init
loop-from-init c = none_sent c.args.line c.args.piece.now c.args.out.now

pub send_some-sent-requires-clause-room : goal.send_some-sent-requires-clause-room
send_some-sent-requires-clause-room c = omega (arith, room_left c.loop-from.invariant _ (take_rest c.args.piece.now c.loop-from.from))

pub loop-from-preserved : goal.loop-from-preserved
loop-from-preserved c =
    let sent = c.send_some-sent in
    more_sent c.loop-from.invariant _ sent.new.out sent.result.line sent.result.taken sent.result.count
    (take_rest c.args.piece.now c.loop-from.from) sent.ensures.within sent.ensures.line sent.ensures.count sent.ensures.bytes

pub returns-clause-few : goal.returns-clause-few
returns-clause-few c = few_sent c.loop-from.invariant
