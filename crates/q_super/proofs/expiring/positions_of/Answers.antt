use Rattle.std.proofs.Common.{◌<◌, ◌∙◌, ◌∷◌, ◌++◌, [], ap, arith, Option, subst, sym}
use Rattle.std.specs.Prelude.{IfSome}
use Rattle.q_host.proofs.Stays.{stays_here, stays_on}
use Rattle.q_model.specs.SpoolFiles.{Files}
use Rattle.q_model.specs.Values.{Taken}
use Rattle.q_pending.specs.Readings.{GivesPending, IsPendingAhead, IsReading, pending_left}
use Rattle.q_super.proofs.Readers.{all_read, none_read, one_read}
use Rattle.q_super.proofs.expiring.positions_of.Goals as goal

pub loop-positions-init : goal.loop-positions-init
loop-positions-init g c = record {
  reading = λ t. c.requires t;
  left = λ t m positions ahead. none_read (g.H.Host.view c.args.host.now).files m c.new-positions.result c.args.reader.now positions c.new-positions.ensures ahead;
  stays = λ t. stays_here (g.H.Host.view c.args.host.now);
  disk_later = omega arith;
  tell_later = omega arith;
}

pub returns-in_default-clause-positions : goal.returns-in_default-clause-positions
returns-in_default-clause-positions g c t m positions ahead =
    let view = g.H.Host.view in
    let so = c.loop-positions.invariant in
    let f = (view c.args.host.now).files in
    all_read f m c.loop-positions.reader c.next.new.self positions c.in_ok-taken.field-0 (λ ps ahead. subst (λ (fs : Files). GivesPending fs m c.next.new.self ps c.in_ok-taken.field-0) (so.stays t).files (c.in_ok-taken.ensures.next t m ps (subst (λ (fs : Files). IsPendingAhead fs m c.loop-positions.reader ps) (sym (so.stays t).files) ahead))) c.loop-positions.positions c.in_default.is (so.left t m positions ahead)

pub loop-positions-preserved : goal.loop-positions-preserved
loop-positions-preserved g c =
    let view = g.H.Host.view in
    let so = c.loop-positions.invariant in
    let f = (view c.args.host.now).files in
    record {
      reading = λ t. subst (λ (fs : Files). IsReading fs c.next.new.self) (so.stays t).files (c.in_ok-taken.ensures.reading t);
      left = λ t m positions ahead. one_read f m c.loop-positions.reader c.next.new.self positions c.in_ok-taken.field-0 (λ ps ahead. subst (λ (fs : Files). GivesPending fs m c.next.new.self ps c.in_ok-taken.field-0) (so.stays t).files (c.in_ok-taken.ensures.next t m ps (subst (λ (fs : Files). IsPendingAhead fs m c.loop-positions.reader ps) (sym (so.stays t).files) ahead))) c.loop-positions.positions c.push.new.self c.in-Some.taken c.in-Some.is (c.in_ok-push.ensures.ok ∙ ap (λ (x : Taken). c.loop-positions.positions ++ x.position ∷ []) c.taken.view_is) (so.left t m positions ahead);
      stays = λ t. stays_on (view c.args.host.now) (view c.loop-positions.host) (view c.next.new.host) (so.stays t) (c.in_ok-taken.ensures.stays t);
      disk_later = omega (arith, so.disk_later, c.in_ok-taken.ensures.cause.disk_later);
      tell_later = omega (arith, so.tell_later, c.in_ok-taken.ensures.cause.tell_later);
    }

pub loop-positions-smaller : goal.loop-positions-smaller
loop-positions-smaller g c = subst (λ (o : Option Taken). IfSome o (λ _. pending_left c.next.new.self < pending_left c.loop-positions.reader)) c.in-Some.is c.in_ok-taken.ensures.fewer
