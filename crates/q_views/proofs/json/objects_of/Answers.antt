use Rattle.std.proofs.Common.{◌∙◌, ap}
use Rattle.std.proofs.lemmas.Result.{IfOk-weaker}
use Rattle.std.specs.BTreeMap.{get}
use Rattle.std.specs.Ordering.{nat_cmp}
use Rattle.q_listing.proofs.RecipientLaws.{found_still, reader_ahead, reader_missing}
use Rattle.q_listing.specs.Listings.{last_code, notes_in}
use Rattle.q_model.specs.declared.id.Id.{Id}
use Rattle.q_model.specs.Message.{pending}
use Rattle.q_views.proofs.JsonLaws.{same_objects}
use Rattle.q_views.proofs.json.objects_of.Goals as goal

pub returns-in-Some-clause-objects : goal.returns-in-Some-clause-objects
returns-in-Some-clause-objects g c =
    let u = g.H.Host.view c.args.host.now in
    let v = g.H.Host.view c.codes_of.new.host in
    let w = g.H.Host.view c.reader_of.new.host in
    IfOk-weaker c.each_object.result _ _ (λ objects made t m is.
    let there = found_still u.files v.files m c.args.found.now (c.in_ok-codes.ensures.stays t).files is in
    let ahead = reader_ahead v.files w.files m c.in_ok-reader.field-0 c.in-Some.reader c.in-Some.is (c.in_ok-reader.ensures.stays t).files (c.in_ok-reader.ensures.ahead t m there) in
    made t m (pending m) ahead ∙ same_objects (get nat_cmp c.in_ok-codes.codes) (notes_in u.files m.id) m (λ q. c.in_ok-codes.ensures.codes t q ∙ ap (λ (i : Id). last_code (notes_in u.files i) q) is.id)) c.each_object.ensures.objects

pub returns-clause-objects : goal.returns-clause-objects
returns-clause-objects g c t m is =
    let u = g.H.Host.view c.args.host.now in
    let v = g.H.Host.view c.codes_of.new.host in
    let there = found_still u.files v.files m c.args.found.now (c.in_ok-codes.ensures.stays t).files is in
    absurd (reader_missing v.files m c.in_ok-reader.field-0 c.in-None.is (c.in_ok-reader.ensures.ahead t m there))
