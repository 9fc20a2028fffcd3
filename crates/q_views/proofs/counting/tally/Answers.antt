use Rattle.std.proofs.Common.{◌<◌, arith, Option, refl, subst, sym}
use Rattle.std.specs.Prelude.{IfSome}
use Rattle.q_host.proofs.Stays.{stays_here, stays_on}
use Rattle.q_listing.proofs.RecipientLaws.{found_still}
use Rattle.q_model.specs.FilesStand.{Stands}
use Rattle.q_model.specs.SpoolFiles.{Files}
use Rattle.q_listing.proofs.GoneLaws.{gone_begins, messages_end, messages_next}
use Rattle.q_views.proofs.TallyLaws.{IsTallied, tallied_all, tallied_more, tallied_none}
use Rattle.q_walk.specs.declared.walk.Found.{Found}
use Rattle.q_walk.specs.Listed.{listed}
use Rattle.q_walk.specs.Walks.{GivesNext, IsAhead, walk_left}
use Rattle.q_views.proofs.counting.tally.Goals as goal

pub loop-walk-init : goal.loop-walk-init
loop-walk-init g c =
    let u = g.H.Host.view c.args.host.now in
    record {
      counted = λ t b stands. gone_begins (listed c.args.queues b) (IsAhead u.files b c.in_ok-walk.walk) (IsTallied _) (c.in_ok-walk.ensures u.files b stands) (tallied_none _ refl);
      stays = λ t. stays_here u;
      disk_later = omega arith;
      tell_later = omega arith;
    }

pub returns-in_default-clause-tally : goal.returns-in_default-clause-tally
returns-in_default-clause-tally g c t b stands =
    let loop = c.loop-walk in
    let u = g.H.Host.view c.args.host.now in
    let v = g.H.Host.view loop.host in
    let same = (loop.invariant.stays t).files in
    let still = subst (λ (f : Files). Stands f b) (sym same) stands in
    tallied_all u.files b c.args.queues loop.tally stands
    (messages_end u.files v.files same b loop.walk c.next.new.self (listed c.args.queues b) (IsTallied loop.tally) (loop.invariant.counted t b stands)
    (λ xs h. subst (λ (o : Option Found). GivesNext v.files b c.next.new.self xs o) c.in_default.is (c.in_ok-found.ensures.next t b xs still h)))

pub loop-walk-preserved : goal.loop-walk-preserved
loop-walk-preserved g c =
    let loop = c.loop-walk in
    let u = g.H.Host.view c.args.host.now in
    let v = g.H.Host.view loop.host in
    let w = g.H.Host.view c.next.new.host in
    let z = g.H.Host.view c.count_pending.new.host in
    record {
      counted = λ t b stands.
          let same = (loop.invariant.stays t).files in
          let still = subst (λ (f : Files). Stands f b) (sym same) stands in
          messages_next u.files v.files same b loop.walk c.next.new.self (listed c.args.queues b) (IsTallied loop.tally) (loop.invariant.counted t b stands)
          (IsTallied c.with_found-tally.result) c.in-Some.found
          (λ xs h. subst (λ (o : Option Found). GivesNext v.files b c.next.new.self xs o) c.in-Some.is (c.in_ok-found.ensures.next t b xs still h))
          (λ done m is kept. tallied_more v.files done m c.in-Some.found c.in_ok-recipients.recipients loop.tally c.with_found-tally.result is
          (c.in_ok-recipients.ensures.count t m (found_still v.files w.files m c.in-Some.found (c.in_ok-found.ensures.stays t).files is)) c.with_found-tally.ensures kept);
      stays = λ t. stays_on u v z (loop.invariant.stays t) (stays_on v w z (c.in_ok-found.ensures.stays t) (c.in_ok-recipients.ensures.stays t));
      disk_later = omega (arith, loop.invariant.disk_later, c.in_ok-found.ensures.cause.disk_later, c.in_ok-recipients.ensures.cause.disk_later);
      tell_later = omega (arith, loop.invariant.tell_later, c.in_ok-found.ensures.cause.tell_later, c.in_ok-recipients.ensures.cause.tell_later);
    }

pub loop-walk-smaller : goal.loop-walk-smaller
loop-walk-smaller g c = subst (λ (o : Option Found). IfSome o (λ _. walk_left c.next.new.self < walk_left c.loop-walk.walk)) c.in-Some.is c.in_ok-found.ensures.fewer
