use Rattle.std.proofs.Common.{[], ⊎_elim}
use Rattle.q_top.proofs.Serving.{ends_looking, told_looks}
use Rattle.q_top.specs.Statuses.{telling_status}
use Rattle.q_top.proofs.Told.{ends_telling, on_err_of, on_ok_of, when_err, when_ok}
use Rattle.q_top.proofs.Readable.{told_readable, told_faultless}
use Rattle.q_top.proofs.telling.table_ages.Goals as goal

pub returns-clause-tells : goal.returns-clause-tells
returns-clause-tells g c t =
    let r = c.tell_ages.result in
    record {
      whatever = rw c.telling_status.ensures.exact (ends_telling r (when_ok r (c.tell_ages.ensures.only t)) (when_err r (c.tell_ages.ensures.only t)));
      table = λ b stands. (
        c.now-now.result,
        c.now-now.ensures.given,
        rw c.telling_status.ensures.exact (ends_telling r (on_ok_of r (λ f. f t b stands) c.tell_ages.ensures.told) (on_err_of r (λ f. f t b stands) c.tell_ages.ensures.front)),
      );
    }

pub returns-clause-readable : goal.returns-clause-readable
returns-clause-readable g c = rw c.telling_status.ensures.exact (told_readable c.tell_ages.result)

pub returns-clause-serves : goal.returns-clause-serves
returns-clause-serves g c t b h orderly =
    let u = g.H.Host.view c.args.host.now in
    let v = g.H.Host.view c.tell_ages.new.host in
    let r = c.tell_ages.result in
    ends_looking (telling_status r) b u v (λ all. told_looks all.text b u v h all.told) (λ part. ⊎_elim (λ none. told_looks [] b u v h none) (λ front. told_looks (front.told).part b u v h (front.told).told) part)
    (ends_telling r (on_ok_of r (λ f. f t b h.reads) c.tell_ages.ensures.told) (on_err_of r (λ f. f t b h.reads) c.tell_ages.ensures.front))

pub returns-clause-faultless : goal.returns-clause-faultless
returns-clause-faultless g c = rw c.telling_status.ensures.exact (told_faultless c.tell_ages.result)
