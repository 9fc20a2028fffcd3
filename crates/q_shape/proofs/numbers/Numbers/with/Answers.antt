use Rattle.std.proofs.Common.{◌+◌, ◌-◌, ◌^◌, ◌∙◌, ap, min, ℕ}
use Rattle.std.specs.Prelude.{slice_index_or}
use Rattle.q_shape.proofs.CountLaws.{numbers-more}
use Rattle.q_shape.proofs.numbers.Numbers.with.Goals as goal

pub returns : goal.returns
returns c = λ name cs h fits.
    let bucket = c.bucket_of-bucket.result in
    let more = λ (before : ℕ). ap (λ (n : ℕ). min (before + n) (2 ^ 128 - 1)) c.from-more.ensures in
    numbers-more c.args.options.now c.args.self cs name c.args.age c.args.number bucket c.saturating_add.result c.saturating_add-2.result h
    c.bucket_of-bucket.ensures.there c.bucket_of-bucket.ensures.alone fits (c.saturating_add.ensures ∙ more c.args.self.total) (c.saturating_add-2.ensures ∙ more (slice_index_or c.args.self.buckets bucket 0))
