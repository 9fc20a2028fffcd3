use Rattle.std.proofs.Common.{◌∙◌, arith, subst, Option}
use Rattle.std.specs.Prelude.{IfSome}
use Rattle.q_engine.specs.TakenOver.{IsTakenOver}
use Rattle.q_model.specs.Step.{after_all}
use Rattle.q_engine.specs.Stands.{IsNextEntry}
use Rattle.q_core.specs.declared.decision.Decision.{Decision}
use Rattle.q_engine.proofs.DecisionLoops.{halts_at, halts_looking, went_all, went_cut, went_more, went_none}
use Rattle.q_engine.proofs.Stopping.{disk_stopped, host_readable, ok_stop, same_stop, stop_later, stop_passed, stop_readable}
use Rattle.q_engine.specs.declared.stop.Stop.TheVariants as stops
use Rattle.q_engine.proofs.engine.Engine.decisions.Goals as goal

pub loop-init : goal.loop-init
loop-init g c = record {
  answered = c.requires.answered;
  timed = c.requires.timed;
  went = λ t w k h. went_none w k c.args.self.now (g.H.Host.view c.args.host.now) (record { only = g.met.H.Host.only_now c.args.host.now; told = g.met.H.Host.told_stays c.args.host.now }) h;
  disk_later = omega arith;
  tell_later = omega arith;
}

pub returns-in_err-decision-clause-err : goal.returns-in_err-decision-clause-err
returns-in_err-decision-clause-err g c error is t w l h =
    let so_far = c.loop.invariant.went t w l h in
    halts_looking w l c.loop.counter c.loop.self (g.H.Host.view c.args.host.now) (g.H.Host.view c.loop.host) (g.H.Host.view c.next_entry.new.host) so_far error (c.in_err-decision.ensures.err t w (after_all w l so_far.told_entries) so_far.stands)

pub returns-in_default-clause-ok : goal.returns-in_default-clause-ok
returns-in_default-clause-ok g c t w l h =
    let so_far = c.loop.invariant.went t w l h in
    let m = after_all w l so_far.told_entries in
    let got = c.in_ok-decision.ensures.ok t w m so_far.stands in
    let quiet = subst (λ (d : Option Decision). IsNextEntry w m d c.next_entry.new.self (g.H.Host.view c.next_entry.new.host)) c.in_default.is got.0 in
    went_all w l c.loop.counter c.loop.self c.next_entry.new.self (g.H.Host.view c.args.host.now) (g.H.Host.view c.loop.host) (g.H.Host.view c.next_entry.new.host) so_far got.1 (c.in_ok-decision.ensures.notes t) quiet.0 quiet.1

pub carry_out-requires-clause-decided : goal.carry_out-requires-clause-decided
carry_out-requires-clause-decided g c t =
    let (w, l, h) = c.requires.stands t in
    let so_far = c.loop.invariant.went t w l h in
    let m = after_all w l so_far.told_entries in
    let got = c.in_ok-decision.ensures.ok t w m so_far.stands in
    (w, m, subst (λ (d : Option Decision). IsNextEntry w m d c.next_entry.new.self (g.H.Host.view c.next_entry.new.host)) c.in-Some.is got.0)

pub returns-in_err-carry_out-clause-err : goal.returns-in_err-carry_out-clause-err
returns-in_err-carry_out-clause-err g c error is t w l h =
    let so_far = c.loop.invariant.went t w l h in
    let m = after_all w l so_far.told_entries in
    let got = c.in_ok-decision.ensures.ok t w m so_far.stands in
    let one = subst (λ (d : Option Decision). IsNextEntry w m d c.next_entry.new.self (g.H.Host.view c.next_entry.new.host)) c.in-Some.is got.0 in
    halts_at w l c.loop.counter c.loop.self (g.H.Host.view c.args.host.now) (g.H.Host.view c.loop.host) (g.H.Host.view c.next_entry.new.host) (g.H.Host.view c.carry_out.new.host)
    (omega (arith, c.loop-test.true)) so_far error got.1 (c.in_err-carry_out.ensures.err error (same_stop c.from_residual-in_err-carry_out.result c.in_err-carry_out.field-0.0 (stops.Host error) c.from_residual-in_err-carry_out.ensures.1 is) t w m one)

pub loop-preserved : goal.loop-preserved
loop-preserved g c = record {
  answered = c.in_ok-carry_out.ensures.answered;
  timed = c.in_ok-carry_out.ensures.timed ∙ c.in_ok-decision.ensures.timed;
  went = λ t w l h.
      let so_far = c.loop.invariant.went t w l h in
      let m = after_all w l so_far.told_entries in
      let got = c.in_ok-decision.ensures.ok t w m so_far.stands in
      let one = subst (λ (d : Option Decision). IsNextEntry w m d c.next_entry.new.self (g.H.Host.view c.next_entry.new.host)) c.in-Some.is got.0 in
      went_more w l c.loop.counter c.loop.self c.carry_out.new.self (g.H.Host.view c.args.host.now) (g.H.Host.view c.loop.host) (g.H.Host.view c.next_entry.new.host) (g.H.Host.view c.carry_out.new.host)
      (omega (arith, c.loop-test.true)) so_far got.1 (c.in_ok-decision.ensures.notes t) (c.in_ok-carry_out.ensures.ok t w m one);
  disk_later = omega (arith, c.loop.invariant.disk_later, c.in_ok-decision.ensures.cause.disk_later, c.in_ok-carry_out.ensures.cause.disk_later);
  tell_later = omega (arith, c.loop.invariant.tell_later, c.in_ok-decision.ensures.cause.tell_later, c.in_ok-carry_out.ensures.cause.tell_later);
}

pub returns-in_err-look_ahead-clause-err : goal.returns-in_err-look_ahead-clause-err
returns-in_err-look_ahead-clause-err g c error is t w l h =
    let so_far = c.loop.invariant.went t w l h in
    halts_looking w l c.loop.counter c.loop.self (g.H.Host.view c.args.host.now) (g.H.Host.view c.loop.host) (g.H.Host.view c.look_ahead.new.host) so_far error (c.in_err-look_ahead.ensures.err t w (after_all w l so_far.told_entries) so_far.stands)

pub returns-clause-ok : goal.returns-clause-ok
returns-clause-ok g c t w l h =
    let so_far = c.loop.invariant.went t w l h in
    let m = after_all w l so_far.told_entries in
    let got = c.in_ok-look_ahead.ensures.ok t w m so_far.stands in
    went_cut w l c.loop.counter c.loop.self c.look_ahead.new.self (g.H.Host.view c.args.host.now) (g.H.Host.view c.loop.host) (g.H.Host.view c.look_ahead.new.host) so_far (omega (arith, c.loop.auto.counter-end)) got.1 (c.in_ok-look_ahead.ensures.notes t) got.0

pub returns-in_err-decision-clause-readable : goal.returns-in_err-decision-clause-readable
returns-in_err-decision-clause-readable g c = host_readable g.H.Host.tells c.from_residual.result c.in_err-decision.field-0.0 c.from_residual.ensures.1

pub returns-in_err-carry_out-clause-readable : goal.returns-in_err-carry_out-clause-readable
returns-in_err-carry_out-clause-readable g c = stop_readable g.H.Host.tells c.from_residual-in_err-carry_out.result c.in_err-carry_out.field-0.0 c.from_residual-in_err-carry_out.ensures.1 c.in_err-carry_out.ensures.readable

pub returns-in_err-decision-clause-cause : goal.returns-in_err-decision-clause-cause
returns-in_err-decision-clause-cause g c =
    let b = g.H.Host.faults c.loop.host in
    let z = g.H.Host.faults c.next_entry.new.host in
    let r = c.from_residual.result in
    stop_later (g.H.Host.faults c.args.host.now) b z r c.loop.invariant.disk_later c.loop.invariant.tell_later (disk_stopped b z r c.in_err-decision.field-0.0 c.from_residual.ensures.1 c.in_err-decision.ensures.cause)

pub returns-in_err-carry_out-clause-cause : goal.returns-in_err-carry_out-clause-cause
returns-in_err-carry_out-clause-cause g c =
    let b = g.H.Host.faults c.next_entry.new.host in
    let z = g.H.Host.faults c.carry_out.new.host in
    let looked = c.in_ok-decision.ensures.cause in
    let r = c.from_residual-in_err-carry_out in
    stop_later (g.H.Host.faults c.args.host.now) b z r.result (omega (arith, c.loop.invariant.disk_later, looked.disk_later)) (omega (arith, c.loop.invariant.tell_later, looked.tell_later)) (stop_passed b z r.result c.in_err-carry_out.field-0.0 r.ensures.1 c.in_err-carry_out.ensures.cause)

pub returns-in_err-look_ahead-clause-readable : goal.returns-in_err-look_ahead-clause-readable
returns-in_err-look_ahead-clause-readable g c = host_readable g.H.Host.tells c.from_residual-in_err-look_ahead.result c.in_err-look_ahead.field-0.0 c.from_residual-in_err-look_ahead.ensures.1

pub returns-in_err-look_ahead-clause-cause : goal.returns-in_err-look_ahead-clause-cause
returns-in_err-look_ahead-clause-cause g c =
    let b = g.H.Host.faults c.loop.host in
    let z = g.H.Host.faults c.look_ahead.new.host in
    let r = c.from_residual-in_err-look_ahead.result in
    stop_later (g.H.Host.faults c.args.host.now) b z r c.loop.invariant.disk_later c.loop.invariant.tell_later (disk_stopped b z r c.in_err-look_ahead.field-0.0 c.from_residual-in_err-look_ahead.ensures.1 c.in_err-look_ahead.ensures.cause)

pub returns-clause-cause : goal.returns-clause-cause
returns-clause-cause g c =
    let looked = c.in_ok-look_ahead.ensures.cause in
    ok_stop (g.H.Host.faults c.args.host.now) (g.H.Host.faults c.look_ahead.new.host) _ (omega (arith, c.loop.invariant.disk_later, looked.disk_later)) (omega (arith, c.loop.invariant.tell_later, looked.tell_later))

pub carry_out-requires-clause-taken : goal.carry_out-requires-clause-taken
carry_out-requires-clause-taken g c = subst (λ (o : Option Decision). IfSome o (λ d. IsTakenOver d c.next_entry.new.self.core.value)) c.in-Some.is c.in_ok-decision.ensures.taken

pub returns-in_default-clause-ready : goal.returns-in_default-clause-ready
returns-in_default-clause-ready g c = c.in_ok-decision.ensures.ready c.in_default.is

pub returns-in_default-clause-cause : goal.returns-in_default-clause-cause
returns-in_default-clause-cause g c =
    let looked = c.in_ok-decision.ensures.cause in
    ok_stop (g.H.Host.faults c.args.host.now) (g.H.Host.faults c.next_entry.new.host) _ (omega (arith, c.loop.invariant.disk_later, looked.disk_later)) (omega (arith, c.loop.invariant.tell_later, looked.tell_later))
