use Rattle.std.proofs.Common.{◌<◌, ◌∙◌, arith, None, Option, Some, subst}
use Rattle.std.specs.Prelude.{IfSome}
use Rattle.q_ages.proofs.QueueLaws.{gives_now, queued_all, queued_first, queued_less}
use Rattle.q_ages.specs.Counting.{counts_of}
use Rattle.q_host.proofs.Stays.{stays_here, stays_on}
use Rattle.q_walk.specs.declared.walk.Found.{Found}
use Rattle.q_walk.specs.Listed.{listed}
use Rattle.q_walk.specs.Walks.{walk_left}
use Rattle.q_ages.proofs.ages.count_queues.Goals as goal

pub returns-in_default-clause-counted : goal.returns-in_default-clause-counted
returns-in_default-clause-counted g c t b stands =
    let view = g.H.Host.view in
    let counts = counts_of c.args.request.now.senders c.args.now in
    let w = c.loop-walk.walk in
    let v = c.next.new.self in
    queued_all (view c.args.host.now).files b counts c.args.table.now c.loop-walk.table w v (listed c.args.request.now.queues b) stands
    (gives_now (view c.loop-walk.host).files (view c.args.host.now).files b w v c.in_ok-found.field-0 None (c.loop-walk.invariant.stays t).files c.in_default.is (c.in_ok-found.ensures.next t b))
    (c.loop-walk.invariant.left t b stands)

pub loop-walk-preserved : goal.loop-walk-preserved
loop-walk-preserved g c =
    let view = g.H.Host.view in
    let counts = counts_of c.args.request.now.senders c.args.now in
    let loop = c.loop-walk.invariant in
    let next = c.in_ok-found.ensures in
    let message = c.in_ok-count_message.ensures in
    let w = c.loop-walk.walk in
    let v = c.next.new.self in
    record {
      left = λ t b stands. queued_less (view c.args.host.now).files (view c.next.new.host).files b counts c.args.table.now c.loop-walk.table c.count_message.new.table w v (listed c.args.request.now.queues b) c.in-Some.found
          ((next.stays t).files ∙ (loop.stays t).files) stands
          (gives_now (view c.loop-walk.host).files (view c.args.host.now).files b w v c.in_ok-found.field-0 (Some c.in-Some.found) (loop.stays t).files c.in-Some.is (next.next t b))
          (message.counted t) (loop.left t b stands);
      stays = λ t. stays_on (view c.args.host.now) (view c.loop-walk.host) (view c.count_message.new.host) (loop.stays t)
          (stays_on (view c.loop-walk.host) (view c.next.new.host) (view c.count_message.new.host) (next.stays t) (message.stays t));
      disk_later = omega (arith, loop.disk_later, next.cause.disk_later, message.cause.disk_later);
      tell_later = omega (arith, loop.tell_later, next.cause.tell_later, message.cause.tell_later);
    }

pub loop-walk-init : goal.loop-walk-init
loop-walk-init g c =
    let view = g.H.Host.view in
    let counts = counts_of c.args.request.now.senders c.args.now in
    record {
      left = λ t b stands. queued_first (view c.args.host.now).files b counts c.args.table.now c.in_ok-walk.walk (listed c.args.request.now.queues b) (c.in_ok-walk.ensures (view c.args.host.now).files b stands);
      stays = λ t. stays_here (view c.args.host.now);
      disk_later = omega arith;
      tell_later = omega arith;
    }

pub loop-walk-smaller : goal.loop-walk-smaller
loop-walk-smaller g c = subst (λ (o : Option Found). IfSome o (λ _. walk_left c.next.new.self < walk_left c.loop-walk.walk)) c.in-Some.is c.in_ok-found.ensures.fewer
