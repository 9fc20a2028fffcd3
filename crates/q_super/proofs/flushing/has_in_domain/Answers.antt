use Rattle.std.proofs.Common.{◌<◌, ◌∙◌, ap, arith, Option, subst, sym}
use Rattle.std.specs.Prelude.{IfSome}
use Rattle.q_host.proofs.Stays.{stays_here, stays_on}
use Rattle.q_model.specs.SpoolFiles.{Files}
use Rattle.q_model.specs.Values.{Taken}
use Rattle.q_pending.specs.Readings.{GivesPending, IsPendingAhead, IsReading, pending_left}
use Rattle.q_super.specs.Domains.{is_in_domain}
use Rattle.q_super.proofs.Readers.{looked_all, looked_here, looks_first, looks_further}
use Rattle.q_super.proofs.flushing.has_in_domain.Goals as goal

pub loop-taken-init : goal.loop-taken-init
loop-taken-init g c = record {
  reading = λ t. c.requires t;
  left = λ t m positions ahead. looks_first (g.H.Host.view c.args.host.now).files m c.args.domain.now c.args.reader.now positions ahead;
  stays = λ t. stays_here (g.H.Host.view c.args.host.now);
  disk_later = omega arith;
  tell_later = omega arith;
}

pub returns-in_default-clause-has : goal.returns-in_default-clause-has
returns-in_default-clause-has g c t m positions ahead =
    let view = g.H.Host.view in
    let so = c.loop-taken.invariant in
    let f = (view c.args.host.now).files in
    sym (looked_all f m c.args.domain.now c.loop-taken.reader c.next.new.self positions c.in_ok-taken.field-0 (λ ps ahead. subst (λ (fs : Files). GivesPending fs m c.next.new.self ps c.in_ok-taken.field-0) (so.stays t).files (c.in_ok-taken.ensures.next t m ps (subst (λ (fs : Files). IsPendingAhead fs m c.loop-taken.reader ps) (sym (so.stays t).files) ahead))) (so.left t m positions ahead) c.in_default.is)

pub returns-then-is_in_domain-clause-has : goal.returns-then-is_in_domain-clause-has
returns-then-is_in_domain-clause-has g c t m positions ahead =
    let view = g.H.Host.view in
    let so = c.loop-taken.invariant in
    let f = (view c.args.host.now).files in
    let here = ap (λ (x : Taken). is_in_domain c.args.domain.now x.address) (sym c.taken.view_is) ∙ sym c.is_in_domain.ensures ∙ c.if-is_in_domain.true in
    sym (looked_here f m c.args.domain.now c.loop-taken.reader c.next.new.self positions c.in_ok-taken.field-0 (λ ps ahead. subst (λ (fs : Files). GivesPending fs m c.next.new.self ps c.in_ok-taken.field-0) (so.stays t).files (c.in_ok-taken.ensures.next t m ps (subst (λ (fs : Files). IsPendingAhead fs m c.loop-taken.reader ps) (sym (so.stays t).files) ahead))) (so.left t m positions ahead) c.in-Some.taken c.in-Some.is here)

pub loop-taken-preserved : goal.loop-taken-preserved
loop-taken-preserved g c =
    let view = g.H.Host.view in
    let so = c.loop-taken.invariant in
    let f = (view c.args.host.now).files in
    let other = ap (λ (x : Taken). is_in_domain c.args.domain.now x.address) (sym c.taken.view_is) ∙ sym c.is_in_domain.ensures ∙ c.if-is_in_domain.false in
    record {
      reading = λ t. subst (λ (fs : Files). IsReading fs c.next.new.self) (so.stays t).files (c.in_ok-taken.ensures.reading t);
      left = λ t m positions ahead. looks_further f m c.args.domain.now c.loop-taken.reader c.next.new.self positions c.in_ok-taken.field-0 (λ ps ahead. subst (λ (fs : Files). GivesPending fs m c.next.new.self ps c.in_ok-taken.field-0) (so.stays t).files (c.in_ok-taken.ensures.next t m ps (subst (λ (fs : Files). IsPendingAhead fs m c.loop-taken.reader ps) (sym (so.stays t).files) ahead))) (so.left t m positions ahead) c.in-Some.taken c.in-Some.is other;
      stays = λ t. stays_on (view c.args.host.now) (view c.loop-taken.host) (view c.next.new.host) (so.stays t) (c.in_ok-taken.ensures.stays t);
      disk_later = omega (arith, so.disk_later, c.in_ok-taken.ensures.cause.disk_later);
      tell_later = omega (arith, so.tell_later, c.in_ok-taken.ensures.cause.tell_later);
    }

pub loop-taken-smaller : goal.loop-taken-smaller
loop-taken-smaller g c = subst (λ (o : Option Taken). IfSome o (λ _. pending_left c.next.new.self < pending_left c.loop-taken.reader)) c.in-Some.is c.in_ok-taken.ensures.fewer
