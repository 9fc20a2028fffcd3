use Rattle.std.proofs.Common.{◌∙◌, arith, refl}
use Rattle.q_audit.proofs.EndLaws.{before_all, reads_end, reads_more}
use Rattle.q_audit.proofs.audit.Audit.read_all.Goals as goal

pub loop-init : goal.loop-init
loop-init g c = record {
  reads = λ w h. before_all w (g.S.Source.left c.args.source.now) c.args.self.now c.new-reader.result h c.new-reader.ensures.buffered c.new-reader.ensures.budget;
  later = omega arith;
  faultless = refl;
}

pub returns-then-not-branch-clause-all : goal.returns-then-not-branch-clause-all
returns-then-not-branch-clause-all g c w h =
    let start = g.S.Source.left c.args.source.now in
    reads_end w start c.next_line.new.self c.next_line.new.reader (g.S.Source.left c.next_line.new.source) c.in_ok-next_line.field-0 c.if-not-branch.true
    (c.in_ok-next_line.ensures.reads w start (c.loop.invariant.reads w h))

pub loop-preserved : goal.loop-preserved
loop-preserved g c =
    let start = g.S.Source.left c.args.source.now in
    record {
      reads = λ w h. reads_more w start c.next_line.new.self c.next_line.new.reader (g.S.Source.left c.next_line.new.source) c.in_ok-next_line.field-0 c.if-not-branch.false
          (c.in_ok-next_line.ensures.reads w start (c.loop.invariant.reads w h));
      later = omega (arith, c.loop.invariant.later, c.next_line.ensures.later);
      faultless = c.in_ok-next_line.ensures.faultless ∙ c.loop.invariant.faultless;
    }
