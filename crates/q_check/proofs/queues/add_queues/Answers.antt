use Rattle.std.proofs.Common.{arith, subst}
use Rattle.q_host.proofs.Stays.{stays_on}
use Rattle.std.specs.Prelude.{slice_index_or}
use Rattle.q_model.specs.SpoolFiles.{Files}
use Rattle.q_model.specs.declared.spot.Area.TheVariants.{Boot}
use Rattle.q_check.specs.QueueTexts.{IsQueueText}
use Rattle.q_check.proofs.TextLists.{texts-next}
use Rattle.q_check.proofs.queues.add_queues.Goals as goal

pub loop-area-preserved : goal.loop-area-preserved
loop-area-preserved g c =
    let view = g.H.Host.view in
    let so_far = c.loop-area.invariant in
    let f = (view c.args.host.now).files in
    record {
      adds = λ t.
          let lines = c.in_ok-add_queue.ensures.added t in
          texts-next (IsQueueText f c.args.look) c.args.areas.now c.loop-area.area-index Boot c.args.text.now.items c.loop-area.text.items c.add_queue.new.text.items lines.0 c.loop-area-test.true
          (subst (λ (h : Files). IsQueueText h c.args.look (slice_index_or c.args.areas.now c.loop-area.area-index Boot) lines.0) (so_far.stays t).files lines.1) lines.2 (so_far.adds t);
      stays = λ t. stays_on (view c.args.host.now) (view c.loop-area.host) (view c.add_queue.new.host) (so_far.stays t) (c.add_queue.ensures.stays t);
      disk_later = omega (arith, so_far.disk_later, c.add_queue.ensures.cause.disk_later);
      tell_later = omega (arith, so_far.tell_later, c.add_queue.ensures.cause.tell_later);
    }
