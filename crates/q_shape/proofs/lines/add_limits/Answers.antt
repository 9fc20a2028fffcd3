use Rattle.std.proofs.Common.{◌≡◌, ◌++◌, ◌∙◌, ap, rules}
use Rattle.q_shape.specs.Buckets.{limit_of}
use Rattle.q_shape.specs.Tables.{cell}
use Rattle.q_shape.proofs.TextLaws.{cell-more}
use Rattle.q_shape.proofs.lines.add_limits.Goals as goal

pub loop-bucket-preserved : goal.loop-bucket-preserved
loop-bucket-preserved c =
    let o = c.args.options.now in
    let b = c.loop-bucket.bucket in
    let mid = c.loop-bucket.text.items in
    let e : c.from.result ≡ limit_of o b = search rules in
    record { text = cell-more (λ i. cell (limit_of o i)) b c.args.text.now.items mid c.add_cell.new.text.items c.loop-bucket.invariant.text (c.in_ok-add_cell.ensures ∙ ap (λ n. mid ++ cell n) e) }
