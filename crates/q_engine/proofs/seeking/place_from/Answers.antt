use Rattle.std.proofs.Common.{◌≤◌, ◌∙◌, ap, arith, min, subst, IsTrue}
use Rattle.std.specs.Option.{IfSome}
use Rattle.q_model.specs.SpoolFiles.{Files}
use Rattle.q_model.specs.Values.{FileHead}
use Rattle.q_message.specs.Pending.{AreTaken, IsPlaceBehind}
use Rattle.q_host.proofs.Stays.{stays_on}
use Rattle.q_engine.proofs.OpenRecipients.{cursor_behind, leaves_from, passes_more}
use Rattle.q_engine.proofs.seeking.place_from.Goals as goal

pub returns-then-below-eq0-clause-leaves : goal.returns-then-below-eq0-clause-leaves
returns-then-below-eq0-clause-leaves g c t =
    let loop = c.loop-batch in
    let spot = c.args.spot in
    let v = g.H.Host.view c.args.host.now in
    let items = c.read_recipients.new.out.items in
    let taken = subst (λ (f : Files). IfSome (f spot.area spot.name) (AreTaken loop.cursor.position 256 items)) (loop.invariant.stays t).files (c.in_ok-next.ensures.taken t) in
    leaves_from (v.files spot.area spot.name) c.args.from c.count_below-below.result loop.cursor items c.if-below-eq0.true (loop.invariant.below t) taken c.count_below-below.ensures.behind

pub loop-batch-preserved : goal.loop-batch-preserved
loop-batch-preserved g c =
    let loop = c.loop-batch in
    let spot = c.args.spot in
    let v = g.H.Host.view c.args.host.now in
    let items = c.read_recipients.new.out.items in
    let below = c.count_below-below in
    let some : 1 ≤ below.result = omega (arith, c.if-below-eq0.false) in
    let place = λ (t : IsTrue g.H.Host.tells). subst (λ (f : Files). IfSome (f spot.area spot.name) (IsPlaceBehind loop.cursor.position (min below.result 256) c.in_ok-cursor.cursor)) ((c.in_ok-next.ensures.stays t).files ∙ (loop.invariant.stays t).files) (c.in_ok-cursor.ensures.place t) in
    record {
      room = c.in_ok-cursor.ensures.room;
      reading = λ t. cursor_behind (v.files spot.area spot.name) c.args.file.now.recipients loop.cursor c.in_ok-cursor.cursor (min below.result 256) (loop.invariant.reading t) (place t);
      below = λ t.
          let taken = subst (λ (f : Files). IfSome (f spot.area spot.name) (AreTaken loop.cursor.position 256 items)) (loop.invariant.stays t).files (c.in_ok-next.ensures.taken t) in
          passes_more (v.files spot.area spot.name) c.args.from below.result loop.cursor c.in_ok-cursor.cursor items some (loop.invariant.below t) taken (place t) below.ensures.below;
      stays = λ t. stays_on v (g.H.Host.view loop.host) (g.H.Host.view c.place_behind.new.host) (loop.invariant.stays t)
          (stays_on (g.H.Host.view loop.host) (g.H.Host.view c.read_recipients.new.host) (g.H.Host.view c.place_behind.new.host) (c.in_ok-next.ensures.stays t) (c.in_ok-cursor.ensures.stays t));
      disk_later = omega (arith, loop.invariant.disk_later, c.in_ok-next.ensures.cause.disk_later, c.in_ok-cursor.ensures.cause.disk_later);
      tell_later = omega (arith, loop.invariant.tell_later, c.in_ok-next.ensures.cause.tell_later, c.in_ok-cursor.ensures.cause.tell_later);
    }

pub place_behind-requires-clause-passed : goal.place_behind-requires-clause-passed
place_behind-requires-clause-passed g c = omega (arith, ap (λ (x : FileHead). x.recipients) c.file.view_is, c.in_ok-next.ensures.fewer, c.count_below-below.ensures.few)

pub loop-batch-smaller : goal.loop-batch-smaller
loop-batch-smaller g c = omega (arith, ap (λ (x : FileHead). x.recipients) c.file.view_is, c.in_ok-cursor.ensures.fewer)
