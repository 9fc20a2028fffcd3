use Rattle.std.proofs.Common.{◌≡◌, ◌∙◌, ap, arith, subst, sym, None, Some}
use Rattle.std.specs.Option.{IfSome}
use Rattle.q_model.specs.SpoolFiles.{Files}
use Rattle.q_model.specs.Values.{FileHead}
use Rattle.q_message.specs.Pending.{AreTaken, IsPlaceBehind}
use Rattle.q_files.proofs.PlaceReads.{finds-mark, place-found, place-none, place-passed}
use Rattle.q_files.proofs.places.mark_place.Goals as goal

pub returns-in-Some-clause-place : goal.returns-in-Some-clause-place
returns-in-Some-clause-place g c t =
    let loop = c.loop-batch in
    let v = g.H.Host.view c.args.host.now in
    let items = c.read_recipients.new.out.items in
    let taken = subst (λ (f : Files). IfSome (f c.args.spot.area c.args.spot.name) (AreTaken loop.cursor.position 256 items)) (loop.invariant.stays t).files (c.in_ok-next.ensures.taken t) in
    place-found (v.files c.args.spot.area c.args.spot.name) c.args.file.now.recipients loop.cursor c.args.position c.in-Some.at items (loop.invariant.reading t) taken (sym c.offset_in.ensures ∙ c.in-Some.is)

pub returns-then-next-position-clause-place : goal.returns-then-next-position-clause-place
returns-then-next-position-clause-place g c t =
    let loop = c.loop-batch in
    let v = g.H.Host.view c.args.host.now in
    let items = c.read_recipients.new.out.items in
    let taken = subst (λ (f : Files). IfSome (f c.args.spot.area c.args.spot.name) (AreTaken loop.cursor.position 256 items)) (loop.invariant.stays t).files (c.in_ok-next.ensures.taken t) in
    let behind = subst (λ (f : Files). IfSome (f c.args.spot.area c.args.spot.name) (IsPlaceBehind loop.cursor.position 256 c.in_ok-next.next)) (loop.invariant.stays t).files (c.in_ok-next.ensures.next t) in
    place-passed (v.files c.args.spot.area c.args.spot.name) c.args.file.now.recipients loop.cursor c.in_ok-next.next c.args.position items (loop.invariant.reading t) taken behind (sym c.offset_in.ensures ∙ c.in_default.is) (loop.invariant.before t) c.if-next-position.true

pub returns-in-Some-clause-mark : goal.returns-in-Some-clause-mark
returns-in-Some-clause-mark g c t = finds-mark (g.H.Host.view c.args.host.now).files c.args.spot c.args.position (Some c.in-Some.at) (returns-in-Some-clause-place g c t)

pub returns-then-next-position-clause-mark : goal.returns-then-next-position-clause-mark
returns-then-next-position-clause-mark g c t = finds-mark (g.H.Host.view c.args.host.now).files c.args.spot c.args.position None (returns-then-next-position-clause-place g c t)

pub returns-then-position-file-clause-mark : goal.returns-then-position-file-clause-mark
returns-then-position-file-clause-mark g c t =
    let f = (g.H.Host.view c.args.host.now).files in
    let count : c.file.inside.recipients ≡ c.args.file.now.recipients = ap (λ (x : FileHead). x.recipients) c.file.view_is in
    finds-mark f c.args.spot c.args.position None (place-none (f c.args.spot.area c.args.spot.name) c.args.file.now c.args.position (c.requires.reading t) (omega (arith, count, c.if-position-file.true)))

pub loop-batch-smaller : goal.loop-batch-smaller
loop-batch-smaller g c =
    let count : c.file.inside.recipients ≡ c.args.file.now.recipients = ap (λ (x : FileHead). x.recipients) c.file.view_is in
    let full = c.in_ok-next.ensures.full (omega (arith, count, c.if-next-position.false, c.if-position-file.false)) in
    omega (arith, count, c.in_ok-next.ensures.fewer, full)
