use Rattle.std.proofs.Common.{◌≡◌, ◌∙◌, ap, arith, length, sym, take, take_all}
use Rattle.q_logfile.proofs.WritingLaws.{are_failures, do_fit}
use Rattle.q_logfile.proofs.writing.log_bytes.Goals as goal

pub returns-clause-lawful : goal.returns-clause-lawful
returns-clause-lawful c =
    let all : take c.loop-failure.failure-index c.args.failures.now ≡ c.args.failures.now = take_all c.loop-failure.failure-index c.args.failures.now (omega (arith, ap length c.as_slice-failure-items.ensures)) in
    are_failures c.args.failures.now c.requires (ap do_fit (sym all) ∙ c.loop-failure.invariant.fit)
