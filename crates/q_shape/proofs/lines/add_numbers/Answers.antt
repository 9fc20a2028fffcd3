use Rattle.std.proofs.Common.{◌++◌, ◌∙◌, ap}
use Rattle.std.proofs.lemmas.Option.{get_or_from_slice_get}
use Rattle.q_shape.specs.Counts.{in_bucket, total}
use Rattle.q_shape.specs.Tables.{cell}
use Rattle.q_shape.proofs.TextLaws.{cell-more}
use Rattle.q_shape.proofs.lines.add_numbers.Goals as goal

pub loop-bucket-preserved : goal.loop-bucket-preserved
loop-bucket-preserved c =
    let o = c.args.options.now in
    let b = c.loop-bucket.bucket in
    let mid = c.loop-bucket.text.items in
    record {
      text = λ cs h. cell-more (λ i. cell (total (in_bucket o i cs))) b c.args.text.now.items mid c.add_cell.new.text.items (c.loop-bucket.invariant.text cs h)
          (c.in_ok-add_cell.ensures ∙ ap (λ n. mid ++ cell n) (get_or_from_slice_get c.args.numbers.now.buckets b (total (in_bucket o b cs)) 0 (h.each b c.loop-bucket-test.true)));
    }
