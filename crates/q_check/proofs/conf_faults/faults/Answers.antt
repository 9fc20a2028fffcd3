use Rattle.std.proofs.Common.{◌∙◌, ap, arith, sym}
use Rattle.q_check.specs.Faults.{blanked, fault_in}
use Rattle.q_check.proofs.FaultLaws.{found_all, found_enough, found_more}
use Rattle.q_check.proofs.conf_faults.faults.Goals as goal

pub returns-in-None : goal.returns-in-None
returns-in-None c =
    found_all c.args.file c.loop-left.left c.loop-left.rest.items c.loop-left.lines.items _ (ap (fault_in c.args.file) (sym c.as_slice.ensures.value) ∙ sym c.in_ok-line.ensures ∙ c.in-None.is) c.loop-left.invariant.all

pub loop-left-preserved : goal.loop-left-preserved
loop-left-preserved c = record {
  all = found_more c.args.file c.loop-left.left c.in-Some.line c.loop-left.rest.items c.in_ok-rest.rest.items c.loop-left.lines.items c.push.new.self.items _ c.loop-left-test.true
      (ap (fault_in c.args.file) (sym c.as_slice.ensures.value) ∙ sym c.in_ok-line.ensures ∙ c.in-Some.is) c.in_ok-push.ensures.items (c.in_ok-rest.ensures ∙ ap (blanked c.in-Some.line) c.as_slice-in-loop-left.ensures.value) c.loop-left.invariant.all;
}

pub returns : goal.returns
returns c =
    let over = c.loop-left-test.false in
    found_enough c.args.file c.loop-left.left c.loop-left.rest.items c.loop-left.lines.items _ (λ some. omega (arith, some, over)) c.loop-left.invariant.all
