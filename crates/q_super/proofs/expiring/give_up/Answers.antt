use Rattle.std.proofs.Common.{◌≢◌, ap, arith, Err, get_or, subst}
use Rattle.q_books.specs.HostStands.{TellsCrashes}
use Rattle.q_host.specs.declared.error.HostError.{HostError}
use Rattle.q_host.specs.declared.error.HostError.TheVariants.{Tell}
use Rattle.q_model.specs.ToolSteps.{after_step, fails}
use Rattle.q_super.specs.Deeds.{failing}
use Rattle.q_super.specs.Plays.{after_deeds, HaltsDeeds}
use Rattle.q_super.proofs.GivenUp.{adds_next, before, failed_all, failed_halts, failed_more, failed_none}
use Rattle.q_super.proofs.ToldMoves.{same_default, same_error}
use Rattle.q_super.proofs.expiring.give_up.Goals as goal

pub loop-position-init : goal.loop-position-init
loop-position-init g c =
    let u = g.H.Host.view c.args.host.now in
    let lawful : TellsCrashes u = (record { only = g.met.H.Host.only_now c.args.host.now; told = g.met.H.Host.told_stays c.args.host.now }) in
    record {
      front = λ t b h may. failed_none b c.args.id c.args.positions.now u lawful h may;
      disk_later = omega arith;
      tell_later = omega arith;
    }

pub returns-in_err-store_failure-clause-err : goal.returns-in_err-store_failure-clause-err
returns-in_err-store_failure-clause-err g c error is t b h may =
    let id = c.args.id in
    let ps = c.args.positions.now in
    let i = c.loop-position.position-index in
    let p = get_or ps i 0 in
    let within = c.loop-position-test.true in
    let here = same_default ps i 0 p within in
    let u = g.H.Host.view c.args.host.now in
    let v = g.H.Host.view c.loop-position.host in
    let w = g.H.Host.view c.store_failure.new.host in
    let inner = c.in_err-store_failure.field-0.0 in
    let same = same_error c.from_residual.result inner error c.from_residual.ensures.1 is in
    let so = c.loop-position.invariant.front t b h may in
    let k = after_deeds b (before b id ps i p within here u v so) in
    let other : inner ≢ Tell = λ told. c.in_err-store_failure.ensures.cause.no_tell (ap (λ (e : HostError). Err e) told) in
    let tries = c.in_err-store_failure.ensures.err t k (after_step k (fails id p)) so.plays.stands (adds_next b id ps i p within here u v so) in
    subst (λ (e : HostError). HaltsDeeds b (failing id ps) e u w) same (failed_halts b id ps i p within here u v so inner w other tries)

pub loop-position-preserved : goal.loop-position-preserved
loop-position-preserved g c =
    let id = c.args.id in
    let ps = c.args.positions.now in
    let i = c.loop-position.position-index in
    let p = get_or ps i 0 in
    let within = c.loop-position-test.true in
    let here = same_default ps i 0 p within in
    let u = g.H.Host.view c.args.host.now in
    let v = g.H.Host.view c.loop-position.host in
    let w = g.H.Host.view c.store_failure.new.host in
    record {
      front = λ t b h may.
          let so = c.loop-position.invariant.front t b h may in
          let k = after_deeds b (before b id ps i p within here u v so) in
          failed_more b id ps i p within here u v so w (c.in_ok-store_failure.ensures.ok t k (after_step k (fails id p)) so.plays.stands (adds_next b id ps i p within here u v so));
      disk_later = omega (arith, c.loop-position.invariant.disk_later, c.in_ok-store_failure.ensures.cause.disk_later);
      tell_later = omega (arith, c.loop-position.invariant.tell_later, c.in_ok-store_failure.ensures.cause.tell_later);
    }

pub returns-clause-ok : goal.returns-clause-ok
returns-clause-ok g c t b h may =
    failed_all b c.args.id c.args.positions.now c.loop-position.position-index (g.H.Host.view c.args.host.now) (g.H.Host.view c.loop-position.host) c.loop-position-test.false (c.loop-position.invariant.front t b h may)
