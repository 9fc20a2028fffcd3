use Rattle.std.proofs.lemmas.Result.{IfOk-weaker}
use Rattle.q_listing.proofs.RecipientLaws.{reader_ahead, reader_missing}
use Rattle.q_model.specs.Message.{pending}
use Rattle.q_views.proofs.counting.count_pending.Goals as goal

pub returns-in-Some-clause-count : goal.returns-in-Some-clause-count
returns-in-Some-clause-count g c =
    let u = g.H.Host.view c.args.host.now in
    let v = g.H.Host.view c.reader_of.new.host in
    IfOk-weaker c.count_each.result _ _ (λ n count t m is.
    count t m (pending m) (reader_ahead u.files v.files m c.in_ok-reader.field-0 c.in-Some.reader c.in-Some.is (c.in_ok-reader.ensures.stays t).files (c.in_ok-reader.ensures.ahead t m is))) c.count_each.ensures.count

pub returns-in-None-clause-count : goal.returns-in-None-clause-count
returns-in-None-clause-count g c t m is =
    absurd (reader_missing (g.H.Host.view c.args.host.now).files m c.in_ok-reader.field-0 c.in-None.is (c.in_ok-reader.ensures.ahead t m is))
