use Rattle.std.proofs.Common.{arith}
use Rattle.q_host.proofs.Stays.{stays_here, stays_on}
use Rattle.q_restart.proofs.Standings.{places-none, walk-end, walk-next, walk-none}
use Rattle.q_restart.proofs.looking.walk_queues.Goals as goal

pub loop-area-init : goal.loop-area-init
loop-area-init g c = record {
  places = places-none c.new-walk.result.items c.new-walk.ensures.items;
  walk = λ t. walk-none _ c.new-walk.result.items c.new-walk.ensures.items;
  stays = λ t. stays_here (g.H.Host.view c.args.host.now);
  disk_later = omega arith;
  tell_later = omega arith;
}

pub loop-area-preserved : goal.loop-area-preserved
loop-area-preserved g c =
    let view = g.H.Host.view in
    let so_far = c.loop-area.invariant in
    record {
      places = c.in_ok-walk_queue.ensures.places so_far.places;
      walk = λ t. walk-next (view c.args.host.now).files (view c.loop-area.host).files c.loop-area.area-index _ c.loop-area.walk.items c.walk_queue.new.walk.items c.loop-area-test.true (so_far.stays t).files (so_far.walk t) (c.in_ok-walk_queue.ensures.adds t);
      stays = λ t. stays_on (view c.args.host.now) (view c.loop-area.host) (view c.walk_queue.new.host) (so_far.stays t) (c.walk_queue.ensures.stays t);
      disk_later = omega (arith, so_far.disk_later, c.walk_queue.ensures.cause.disk_later);
      tell_later = omega (arith, so_far.tell_later, c.walk_queue.ensures.cause.tell_later);
    }

pub returns-clause-walk : goal.returns-clause-walk
returns-clause-walk g c t = walk-end (g.H.Host.view c.args.host.now).files c.loop-area.area-index c.loop-area.walk.items c.loop-area.auto.area-index-end c.loop-area-test.false (c.loop-area.invariant.walk t)
