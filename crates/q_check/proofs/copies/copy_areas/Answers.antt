use Rattle.std.proofs.Common.{arith, subst}
use Rattle.q_host.proofs.Stays.{stays_here, stays_on}
use Rattle.std.specs.Prelude.{slice_index_or}
use Rattle.q_model.specs.SpoolFiles.{Files}
use Rattle.q_model.specs.declared.spot.Area.TheVariants.{Boot}
use Rattle.q_restart.specs.Walks.{AreAllNames}
use Rattle.q_check.proofs.CopyLaws.{copy-more, copy-none}
use Rattle.q_check.proofs.copies.copy_areas.Goals as goal

pub loop-area-init : goal.loop-area-init
loop-area-init g c = record {
  copied = λ t m. copy-none (g.H.Host.view c.args.host.now).files (g.M.Host.view c.args.copy.now).files (c.requires m);
  stays = λ t. stays_here (g.H.Host.view c.args.host.now);
  disk_later = omega arith;
  tell_later = omega arith;
}

pub loop-area-preserved : goal.loop-area-preserved
loop-area-preserved g c =
    let view = g.H.Host.view in
    let so_far = c.loop-area.invariant in
    record {
      copied = λ t m.
          let added = c.in_ok-copy_area.ensures.copied t m in
          copy-more c.args.these.now c.loop-area.area-index Boot added.0 (view c.args.host.now).files (g.M.Host.view c.loop-area.copy).files (g.M.Host.view c.copy_area.new.copy).files c.loop-area-test.true
          (subst (λ (f : Files). AreAllNames (f (slice_index_or c.args.these.now c.loop-area.area-index Boot)) added.0) (so_far.stays t).files added.1) added.2 (so_far.copied t m);
      stays = λ t. stays_on (view c.args.host.now) (view c.loop-area.host) (view c.copy_area.new.host) (so_far.stays t) (c.copy_area.ensures.stays t);
      disk_later = omega (arith, so_far.disk_later, c.copy_area.ensures.cause.disk_later);
      tell_later = omega (arith, so_far.tell_later, c.copy_area.ensures.cause.tell_later);
    }
