use Rattle.std.proofs.Common.{◌<◌, ap, arith, map, Option, subst, sym}
use Rattle.std.specs.BTreeMap.{get}
use Rattle.std.specs.Ordering.{nat_cmp}
use Rattle.std.specs.Prelude.{IfSome}
use Rattle.q_host.proofs.Stays.{stays_here, stays_on}
use Rattle.q_model.specs.SpoolFiles.{Files}
use Rattle.q_model.specs.Values.{Taken}
use Rattle.q_pending.specs.Readings.{GivesPending, IsPendingAhead, IsReading, pending_left}
use Rattle.q_listing.proofs.GoneLaws.{gone_begins, pending_end, pending_next}
use Rattle.q_views.proofs.JsonLaws.{AreMade, made_more}
use Rattle.serde_json.specs.View.{view as view_of}
use Rattle.q_views.proofs.json.each_object.Goals as goal

pub loop-objects-init : goal.loop-objects-init
loop-objects-init g c =
    let u = g.H.Host.view c.args.host.now in
    let code = get nat_cmp c.args.codes.now in
    record {
      reading = c.requires.reading;
      made = λ t m positions ahead. gone_begins positions (IsPendingAhead u.files m c.args.reader.now) (AreMade code m (map view_of c.new-objects.result.items)) ahead (ap (map view_of) c.new-objects.ensures.items);
      stays = λ t. stays_here u;
      disk_later = omega arith;
      tell_later = omega arith;
    }

pub returns-in_default-clause-objects : goal.returns-in_default-clause-objects
returns-in_default-clause-objects g c t m positions ahead =
    let loop = c.loop-objects in
    let u = g.H.Host.view c.args.host.now in
    let v = g.H.Host.view loop.host in
    let code = get nat_cmp c.args.codes.now in
    pending_end u.files v.files (loop.invariant.stays t).files m loop.reader c.next.new.self positions (AreMade code m (map view_of loop.objects.items)) (loop.invariant.made t m positions ahead)
    (λ ps h. subst (λ (o : Option Taken). GivesPending v.files m c.next.new.self ps o) c.in_default.is (c.in_ok-taken.ensures.next t m ps h))

pub loop-objects-preserved : goal.loop-objects-preserved
loop-objects-preserved g c =
    let loop = c.loop-objects in
    let u = g.H.Host.view c.args.host.now in
    let v = g.H.Host.view loop.host in
    let w = g.H.Host.view c.next.new.host in
    let code = get nat_cmp c.args.codes.now in
    let now = map view_of loop.objects.items in
    let new = map view_of c.add_taken.new.objects.items in
    record {
      reading = λ t. subst (λ (f : Files). IsReading f c.next.new.self) (sym (c.in_ok-taken.ensures.stays t).files) (c.in_ok-taken.ensures.reading t);
      made = λ t m positions ahead. pending_next u.files v.files (loop.invariant.stays t).files m loop.reader c.next.new.self positions (AreMade code m now) (loop.invariant.made t m positions ahead)
          (AreMade code m new) c.in-Some.taken
          (λ ps h. subst (λ (o : Option Taken). GivesPending v.files m c.next.new.self ps o) c.in-Some.is (c.in_ok-taken.ensures.next t m ps h))
          (λ done position is was. made_more code m now new done position c.in-Some.taken is c.in_ok-add_taken.ensures was);
      stays = λ t. stays_on u v w (loop.invariant.stays t) (c.in_ok-taken.ensures.stays t);
      disk_later = omega (arith, loop.invariant.disk_later, c.in_ok-taken.ensures.cause.disk_later);
      tell_later = omega (arith, loop.invariant.tell_later, c.in_ok-taken.ensures.cause.tell_later);
    }

pub loop-objects-smaller : goal.loop-objects-smaller
loop-objects-smaller g c = subst (λ (o : Option Taken). IfSome o (λ _. pending_left c.next.new.self < pending_left c.loop-objects.reader)) c.in-Some.is c.in_ok-taken.ensures.fewer
