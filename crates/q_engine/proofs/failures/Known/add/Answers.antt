use Rattle.std.proofs.Common.{◌<◌, arith, false, length, true}
use Rattle.q_logfile.proofs.FlagLaws.{flag_read}
use Rattle.q_engine.proofs.FailureFlags.{known_again, known_more}
use Rattle.q_engine.proofs.failures.Known.add.Goals as goal

pub returns-then-index : goal.returns-then-index
returns-then-index c n records h =
    let flags = c.args.self.now.flags.items in
    let here : c.args.failure.position < length flags = omega arith in
    known_again n records flags c.args.self.now.failures c.args.failure h here (flag_read flags c.args.failure.position c.index.result.now true here c.index.ensures c.if-index.true)

pub returns : goal.returns
returns c n records h =
    let flags = c.args.self.now.flags.items in
    let here : c.args.failure.position < length flags = omega arith in
    rw c.in_ok-push.ensures.ok (known_more n records flags c.args.self.now.failures c.args.failure h here (flag_read flags c.args.failure.position c.index.result.now false here c.index.ensures c.if-index.false))
