use Rattle.std.proofs.Common.{◌++◌, ◌∙◌, ap, arith, length, length-append}
use Rattle.std.specs.Prelude.{slice_index_or}
use Rattle.q_model.specs.Values.{Receiver}
use Rattle.q_notice.specs.NoticeTexts.{named_failure}
use Rattle.q_notice.proofs.TextPieces.{named-more, no_failure}
use Rattle.q_notice.proofs.failures.add_failures.Goals as goal

pub loop-i-preserved : goal.loop-i-preserved
loop-i-preserved c = record {
  text = named-more c.args.failures.now c.args.names.now c.loop-i.i no_failure c.index-names-i.result c.args.text.now.items c.loop-i.text.items c.add_failure.new.text.items c.loop-i-test.true c.requires c.loop-i.invariant.text
      (c.in_ok-add_failure.ensures.text ∙ ap (λ (n : Receiver). c.loop-i.text.items ++ named_failure n (slice_index_or c.args.failures.now c.loop-i.i no_failure)) c.index-names-i.is);
  short =
      let line = c.in_ok-add_failure.ensures.short in
      let before = c.loop-i.invariant.short in
      let whole = ap length c.in_ok-add_failure.ensures.text in
      let sum = length-append c.loop-i.text.items (named_failure c.index-names-i.result (slice_index_or c.args.failures.now c.loop-i.i no_failure)) in
      omega (arith, line, before, whole, sum);
}
