use Rattle.q_listing.specs.Listings.{listing}
use Rattle.q_top.proofs.Serving.{ends_looking, told_looks}
use Rattle.q_top.specs.Statuses.{telling_status}
use Rattle.q_top.proofs.Told.{ends_telling, on_err_of, on_ok_of, when_err, when_ok}
use Rattle.q_top.proofs.Readable.{told_readable, told_faultless}
use Rattle.q_top.proofs.telling.list_queues.Goals as goal

pub returns-clause-lists : goal.returns-clause-lists
returns-clause-lists g c t =
    let r = c.tell_listing.result in
    record {
      whatever = rw c.telling_status.ensures.exact (ends_telling r (when_ok r (c.tell_listing.ensures.only t)) (when_err r (c.tell_listing.ensures.only t)));
      listed = λ b stands. rw c.telling_status.ensures.exact (ends_telling r (on_ok_of r (λ f. f t b stands) c.tell_listing.ensures.told) (on_err_of r (λ f. f t b stands) c.tell_listing.ensures.front));
    }

pub returns-clause-readable : goal.returns-clause-readable
returns-clause-readable g c = rw c.telling_status.ensures.exact (told_readable c.tell_listing.result)

pub returns-clause-serves : goal.returns-clause-serves
returns-clause-serves g c t b h orderly =
    let u = g.H.Host.view c.args.host.now in
    let v = g.H.Host.view c.tell_listing.new.host in
    let r = c.tell_listing.result in
    ends_looking (telling_status r) b u v (λ told. told_looks (listing u.files b) b u v h told) (λ front. told_looks front.part b u v h front.told)
    (ends_telling r (on_ok_of r (λ f. f t b h.reads) c.tell_listing.ensures.told) (on_err_of r (λ f. f t b h.reads) c.tell_listing.ensures.front))

pub returns-clause-faultless : goal.returns-clause-faultless
returns-clause-faultless g c = rw c.telling_status.ensures.exact (told_faultless c.tell_listing.result)
