use Rattle.std.proofs.Common.{◌≡◌, ◌+◌, ◌<◌, ◌∷◌, [], arith, length, length-append, Option, refl, subst, sym}
use Rattle.std.specs.Prelude.{IfSome}
use Rattle.q_host.proofs.Stays.{stays_here, stays_on}
use Rattle.q_model.specs.SpoolFiles.{Files}
use Rattle.q_model.specs.Values.{Taken}
use Rattle.q_pending.specs.Readings.{GivesPending, IsPendingAhead, IsReading, pending_left}
use Rattle.q_listing.proofs.GoneLaws.{gone_begins, pending_end, pending_next}
use Rattle.q_views.proofs.counting.count_each.Goals as goal

pub loop-count-init : goal.loop-count-init
loop-count-init g c =
    let u = g.H.Host.view c.args.host.now in
    record {
      few = omega arith;
      reading = c.requires.reading;
      counted = λ t m positions ahead. gone_begins positions (IsPendingAhead u.files m c.args.reader.now) (λ done. 0 ≡ length done) ahead refl;
      stays = λ t. stays_here u;
      disk_later = omega arith;
      tell_later = omega arith;
    }

pub returns-in_default-clause-count : goal.returns-in_default-clause-count
returns-in_default-clause-count g c t m positions ahead =
    let loop = c.loop-count in
    let u = g.H.Host.view c.args.host.now in
    let v = g.H.Host.view loop.host in
    pending_end u.files v.files (loop.invariant.stays t).files m loop.reader c.next.new.self positions (λ done. loop.count ≡ length done) (loop.invariant.counted t m positions ahead)
    (λ ps h. subst (λ (o : Option Taken). GivesPending v.files m c.next.new.self ps o) c.in_default.is (c.in_ok-next.ensures.next t m ps h))

pub loop-count-preserved : goal.loop-count-preserved
loop-count-preserved g c =
    let loop = c.loop-count in
    let u = g.H.Host.view c.args.host.now in
    let v = g.H.Host.view loop.host in
    let w = g.H.Host.view c.next.new.host in
    let fewer = subst (λ (o : Option Taken). IfSome o (λ _. pending_left c.next.new.self < pending_left loop.reader)) c.in-Some.is c.in_ok-next.ensures.fewer in
    record {
      few = omega (arith, loop.invariant.few, fewer);
      reading = λ t. subst (λ (f : Files). IsReading f c.next.new.self) (sym (c.in_ok-next.ensures.stays t).files) (c.in_ok-next.ensures.reading t);
      counted = λ t m positions ahead. pending_next u.files v.files (loop.invariant.stays t).files m loop.reader c.next.new.self positions (λ done. loop.count ≡ length done) (loop.invariant.counted t m positions ahead)
          (λ done. loop.count + 1 ≡ length done) c.in-Some.field-0
          (λ ps h. subst (λ (o : Option Taken). GivesPending v.files m c.next.new.self ps o) c.in-Some.is (c.in_ok-next.ensures.next t m ps h))
          (λ done position is count. omega (arith, count, length-append done (position ∷ [])));
      stays = λ t. stays_on u v w (loop.invariant.stays t) (c.in_ok-next.ensures.stays t);
      disk_later = omega (arith, loop.invariant.disk_later, c.in_ok-next.ensures.cause.disk_later);
      tell_later = omega (arith, loop.invariant.tell_later, c.in_ok-next.ensures.cause.tell_later);
    }

pub loop-count-smaller : goal.loop-count-smaller
loop-count-smaller g c = subst (λ (o : Option Taken). IfSome o (λ _. pending_left c.next.new.self < pending_left c.loop-count.reader)) c.in-Some.is c.in_ok-next.ensures.fewer

pub overflow_add-count : goal.overflow_add-count
overflow_add-count g c =
    let fewer = subst (λ (o : Option Taken). IfSome o (λ _. pending_left c.next.new.self < pending_left c.loop-count.reader)) c.in-Some.is c.in_ok-next.ensures.fewer in
    omega (arith, c.loop-count.invariant.few, fewer, c.requires.few)
