use Rattle.std.proofs.Common.{◌∙◌, ap}
use Rattle.std.proofs.lemmas.Result.{IfOk-weaker, on_err_weaker}
use Rattle.std.specs.BTreeMap.{get}
use Rattle.std.specs.Ordering.{nat_cmp}
use Rattle.q_host.proofs.Stays.{stays_on}
use Rattle.q_model.specs.declared.id.Id.{Id}
use Rattle.q_model.specs.Message.{pending}
use Rattle.q_telling.proofs.TellingLaws.{front_none, only_none, only_on, tells_none}
use Rattle.q_listing.specs.Listings.{last_code, notes_in, recipient_lines}
use Rattle.q_listing.proofs.RecipientLaws.{found_still, reader_ahead, reader_missing, recipients_front, recipients_told}
use Rattle.q_listing.proofs.ToldLaws.{err_has}
use Rattle.q_listing.proofs.recipients.tell_recipients.Goals as goal

pub returns-in_err-codes-clause-front : goal.returns-in_err-codes-clause-front
returns-in_err-codes-clause-front g c =
    let u = g.H.Host.view c.args.host.now in
    let v = g.H.Host.view c.codes_of.new.host in
    err_has c.from_residual.result (λ t m is.
    front_none (recipient_lines (notes_in u.files m.id) m) u v (tells_none u v (g.met.H.Host.only_now c.args.host.now) (c.in_err-codes.ensures.stays t)))

pub returns-in_err-reader-clause-front : goal.returns-in_err-reader-clause-front
returns-in_err-reader-clause-front g c =
    let u = g.H.Host.view c.args.host.now in
    let v = g.H.Host.view c.codes_of.new.host in
    let w = g.H.Host.view c.reader_of.new.host in
    err_has c.from_residual-in_err-reader.result (λ t m is.
    front_none (recipient_lines (notes_in u.files m.id) m) u w (tells_none u w (g.met.H.Host.only_now c.args.host.now) (stays_on u v w (c.in_ok-codes.ensures.stays t) (c.in_err-reader.ensures.stays t))))

pub returns-in-Some-clause-told : goal.returns-in-Some-clause-told
returns-in-Some-clause-told g c =
    let u = g.H.Host.view c.args.host.now in
    let v = g.H.Host.view c.codes_of.new.host in
    let w = g.H.Host.view c.reader_of.new.host in
    let z = g.H.Host.view c.tell_each.new.host in
    IfOk-weaker c.tell_each.result _ _ (λ n told t m is.
    let quiet = tells_none u w (g.met.H.Host.only_now c.args.host.now) (stays_on u v w (c.in_ok-codes.ensures.stays t) (c.in_ok-reader.ensures.stays t)) in
    let there = found_still u.files v.files m c.args.found.now (c.in_ok-codes.ensures.stays t).files is in
    let ahead = reader_ahead v.files w.files m c.in_ok-reader.field-0 c.in-Some.reader c.in-Some.is (c.in_ok-reader.ensures.stays t).files (c.in_ok-reader.ensures.ahead t m there) in
    recipients_told (get nat_cmp c.in_ok-codes.codes) (notes_in u.files m.id) m u w z quiet
    (λ q. c.in_ok-codes.ensures.codes t q ∙ ap (λ (i : Id). last_code (notes_in u.files i) q) is.id) n (told t m (pending m) ahead)) c.tell_each.ensures.told

pub returns-in-Some-clause-front : goal.returns-in-Some-clause-front
returns-in-Some-clause-front g c =
    let u = g.H.Host.view c.args.host.now in
    let v = g.H.Host.view c.codes_of.new.host in
    let w = g.H.Host.view c.reader_of.new.host in
    let z = g.H.Host.view c.tell_each.new.host in
    on_err_weaker c.tell_each.result (λ part t m is.
    let quiet = tells_none u w (g.met.H.Host.only_now c.args.host.now) (stays_on u v w (c.in_ok-codes.ensures.stays t) (c.in_ok-reader.ensures.stays t)) in
    let there = found_still u.files v.files m c.args.found.now (c.in_ok-codes.ensures.stays t).files is in
    let ahead = reader_ahead v.files w.files m c.in_ok-reader.field-0 c.in-Some.reader c.in-Some.is (c.in_ok-reader.ensures.stays t).files (c.in_ok-reader.ensures.ahead t m there) in
    recipients_front (get nat_cmp c.in_ok-codes.codes) (notes_in u.files m.id) m u w z quiet
    (λ q. c.in_ok-codes.ensures.codes t q ∙ ap (λ (i : Id). last_code (notes_in u.files i) q) is.id) (part t m (pending m) ahead)) c.tell_each.ensures.front

pub returns-clause-told : goal.returns-clause-told
returns-clause-told g c t m is =
    let u = g.H.Host.view c.args.host.now in
    let v = g.H.Host.view c.codes_of.new.host in
    let there = found_still u.files v.files m c.args.found.now (c.in_ok-codes.ensures.stays t).files is in
    absurd (reader_missing v.files m c.in_ok-reader.field-0 c.in-None.is (c.in_ok-reader.ensures.ahead t m there))

pub returns-in_err-codes-clause-only : goal.returns-in_err-codes-clause-only
returns-in_err-codes-clause-only g c t =
    only_none (g.H.Host.view c.args.host.now) (g.H.Host.view c.codes_of.new.host) (g.met.H.Host.only_now c.args.host.now) (c.in_err-codes.ensures.stays t)

pub returns-in_err-reader-clause-only : goal.returns-in_err-reader-clause-only
returns-in_err-reader-clause-only g c t =
    let u = g.H.Host.view c.args.host.now in
    let v = g.H.Host.view c.codes_of.new.host in
    let w = g.H.Host.view c.reader_of.new.host in
    only_none u w (g.met.H.Host.only_now c.args.host.now) (stays_on u v w (c.in_ok-codes.ensures.stays t) (c.in_err-reader.ensures.stays t))

pub returns-clause-only : goal.returns-clause-only
returns-clause-only g c t =
    let u = g.H.Host.view c.args.host.now in
    let v = g.H.Host.view c.codes_of.new.host in
    let w = g.H.Host.view c.reader_of.new.host in
    only_none u w (g.met.H.Host.only_now c.args.host.now) (stays_on u v w (c.in_ok-codes.ensures.stays t) (c.in_ok-reader.ensures.stays t))

pub returns-in-Some-clause-only : goal.returns-in-Some-clause-only
returns-in-Some-clause-only g c t =
    let u = g.H.Host.view c.args.host.now in
    let v = g.H.Host.view c.codes_of.new.host in
    let w = g.H.Host.view c.reader_of.new.host in
    only_on u w (g.H.Host.view c.tell_each.new.host)
    (only_none u w (g.met.H.Host.only_now c.args.host.now) (stays_on u v w (c.in_ok-codes.ensures.stays t) (c.in_ok-reader.ensures.stays t))) (c.tell_each.ensures.only t)
