use Rattle.std.proofs.Common.{◌<◌, arith, Option, refl, subst, sym}
use Rattle.std.specs.BTreeMap.{get}
use Rattle.std.specs.Ordering.{nat_cmp}
use Rattle.std.specs.Prelude.{IfSome}
use Rattle.q_host.proofs.Stays.{stays_here, stays_on}
use Rattle.q_listing.proofs.GoneLaws.{gone_begins, pending_end, pending_next}
use Rattle.q_model.specs.SpoolFiles.{Files}
use Rattle.q_model.specs.Values.{Taken}
use Rattle.q_pending.specs.Readings.{GivesPending, IsPendingAhead, IsReading, pending_left}
use Rattle.q_show.proofs.StateLaws.{AreWaiting, waiting_more, waiting_none}
use Rattle.q_show.proofs.states.waiting_of.Goals as goal

pub loop-states-init : goal.loop-states-init
loop-states-init g c =
    let u = g.H.Host.view c.args.host.now in
    let code = get nat_cmp c.args.codes.now in
    record {
      reading = c.requires.reading;
      waiting = λ t m positions ahead. gone_begins positions (IsPendingAhead u.files m c.args.reader.now) (AreWaiting code c.new-states.result) ahead (waiting_none code c.new-states.result c.new-states.ensures.empty);
      stays = λ t. stays_here u;
      disk_later = omega arith;
      tell_later = omega arith;
    }

pub returns-in_default-clause-states : goal.returns-in_default-clause-states
returns-in_default-clause-states g c t m positions ahead =
    let loop = c.loop-states in
    let u = g.H.Host.view c.args.host.now in
    let v = g.H.Host.view loop.host in
    let code = get nat_cmp c.args.codes.now in
    pending_end u.files v.files (loop.invariant.stays t).files m loop.reader c.next.new.self positions (AreWaiting code loop.states) (loop.invariant.waiting t m positions ahead)
    (λ ps h. subst (λ (o : Option Taken). GivesPending v.files m c.next.new.self ps o) c.in_default.is (c.in_ok-taken.ensures.next t m ps h))

pub loop-states-preserved : goal.loop-states-preserved
loop-states-preserved g c =
    let loop = c.loop-states in
    let u = g.H.Host.view c.args.host.now in
    let v = g.H.Host.view loop.host in
    let w = g.H.Host.view c.next.new.host in
    let code = get nat_cmp c.args.codes.now in
    let taken = c.in-Some.taken in
    record {
      reading = λ t. subst (λ (f : Files). IsReading f c.next.new.self) (sym (c.in_ok-taken.ensures.stays t).files) (c.in_ok-taken.ensures.reading t);
      waiting = λ t m positions ahead. pending_next u.files v.files (loop.invariant.stays t).files m loop.reader c.next.new.self positions (AreWaiting code loop.states) (loop.invariant.waiting t m positions ahead)
          (AreWaiting code c.set_waiting.new.states) taken
          (λ ps h. subst (λ (o : Option Taken). GivesPending v.files m c.next.new.self ps o) c.in-Some.is (c.in_ok-taken.ensures.next t m ps h))
          (λ done position is was. waiting_more code loop.states c.set_waiting.new.states done position taken.position (code taken.position) is.position refl c.in_ok-set_waiting.ensures was);
      stays = λ t. stays_on u v w (loop.invariant.stays t) (c.in_ok-taken.ensures.stays t);
      disk_later = omega (arith, loop.invariant.disk_later, c.in_ok-taken.ensures.cause.disk_later);
      tell_later = omega (arith, loop.invariant.tell_later, c.in_ok-taken.ensures.cause.tell_later);
    }

pub loop-states-smaller : goal.loop-states-smaller
loop-states-smaller g c = subst (λ (o : Option Taken). IfSome o (λ _. pending_left c.next.new.self < pending_left c.loop-states.reader)) c.in-Some.is c.in_ok-taken.ensures.fewer
