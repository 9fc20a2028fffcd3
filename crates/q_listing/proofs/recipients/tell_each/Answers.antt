use Rattle.q_host.proofs.Stays.{stays_here}
use Rattle.std.specs.Prelude.{IfSome}
use Rattle.std.proofs.Common.{◌<◌, arith, refl, subst, sym, Option, ◌∙◌}
use Rattle.std.specs.BTreeMap.{get}
use Rattle.std.specs.Ordering.{nat_cmp}
use Rattle.q_model.specs.SpoolFiles.{Files}
use Rattle.q_model.specs.Values.{Taken}
use Rattle.q_pending.specs.Readings.{GivesPending, IsPendingAhead, IsReading, pending_left}
use Rattle.q_telling.proofs.TellingLaws.{only_none, only_on, tells_none}
use Rattle.q_listing.specs.Listings.{line_by}
use Rattle.q_listing.proofs.RecipientLaws.{Counts, recipients_end, recipients_more, recipients_stop}
use Rattle.q_listing.proofs.ToldLaws.{err_has, told_begins, told_waits}
use Rattle.q_listing.proofs.recipients.tell_each.Goals as goal

pub loop-taken-init : goal.loop-taken-init
loop-taken-init g c =
    let host = c.args.host.now in
    let u = g.H.Host.view host in
    record {
      few = omega arith;
      files = λ t. refl;
      reading = c.requires.reading;
      told = λ t m positions ahead. told_begins (line_by (get nat_cmp c.args.codes.now) m) positions (IsPendingAhead u.files m c.args.reader.now) (Counts 0) u (g.met.H.Host.only_now host) ahead refl;
      only = λ t. only_none u u (g.met.H.Host.only_now host) (stays_here u);
      disk_later = omega arith;
      tell_later = omega arith;
    }

pub returns-in_err-taken-clause-front : goal.returns-in_err-taken-clause-front
returns-in_err-taken-clause-front g c =
    let loop = c.loop-taken in
    let u = g.H.Host.view c.args.host.now in
    let v = g.H.Host.view loop.host in
    let w = g.H.Host.view c.next.new.host in
    err_has c.from_residual.result (λ t m positions ahead.
    told_waits (line_by (get nat_cmp c.args.codes.now) m) positions (IsPendingAhead u.files m loop.reader) (Counts loop.count) u v w (loop.invariant.told t m positions ahead)
    (tells_none v w (g.met.H.Host.only_now loop.host) (c.in_err-taken.ensures.stays t)))

pub returns-in_default-clause-told : goal.returns-in_default-clause-told
returns-in_default-clause-told g c t m positions ahead =
    let loop = c.loop-taken in
    let u = g.H.Host.view c.args.host.now in
    let v = g.H.Host.view loop.host in
    let w = g.H.Host.view c.next.new.host in
    recipients_end (get nat_cmp c.args.codes.now) m positions loop.count loop.reader c.next.new.self u v w (loop.invariant.told t m positions ahead)
    (tells_none v w (g.met.H.Host.only_now loop.host) (c.in_ok-taken.ensures.stays t))
    (λ ps h. subst (λ (o : Option Taken). GivesPending v.files m c.next.new.self ps o) c.in_default.is (c.in_ok-taken.ensures.next t m ps h))

pub returns-in_err-tell_recipient-clause-front : goal.returns-in_err-tell_recipient-clause-front
returns-in_err-tell_recipient-clause-front g c =
    let loop = c.loop-taken in
    let u = g.H.Host.view c.args.host.now in
    let v = g.H.Host.view loop.host in
    let w = g.H.Host.view c.next.new.host in
    let z = g.H.Host.view c.tell_recipient.new.host in
    err_has c.from_residual-in_err-tell_recipient.result (λ t m positions ahead.
    recipients_stop (get nat_cmp c.args.codes.now) m positions loop.count loop.reader c.next.new.self u v w (loop.invariant.told t m positions ahead)
    (tells_none v w (g.met.H.Host.only_now loop.host) (c.in_ok-taken.ensures.stays t)) z c.in-Some.taken
    (λ ps h. subst (λ (o : Option Taken). GivesPending v.files m c.next.new.self ps o) c.in-Some.is (c.in_ok-taken.ensures.next t m ps h))
    (c.in_err-tell_recipient.ensures.front t))

pub loop-taken-preserved : goal.loop-taken-preserved
loop-taken-preserved g c =
    let loop = c.loop-taken in
    let u = g.H.Host.view c.args.host.now in
    let v = g.H.Host.view loop.host in
    let w = g.H.Host.view c.next.new.host in
    let z = g.H.Host.view c.tell_recipient.new.host in
    let fewer = subst (λ (o : Option Taken). IfSome o (λ _. pending_left c.next.new.self < pending_left loop.reader)) c.in-Some.is c.in_ok-taken.ensures.fewer in
    record {
      few = omega (arith, loop.invariant.few, fewer);
      files = λ t. (c.in_ok-tell_recipient.ensures.told t).files ∙ (c.in_ok-taken.ensures.stays t).files ∙ loop.invariant.files t;
      reading = λ t. subst (λ (f : Files). IsReading f c.next.new.self) (sym ((c.in_ok-tell_recipient.ensures.told t).files ∙ (c.in_ok-taken.ensures.stays t).files)) (c.in_ok-taken.ensures.reading t);
      told = λ t m positions ahead.
          recipients_more (get nat_cmp c.args.codes.now) m positions loop.count loop.reader c.next.new.self u v w (loop.invariant.told t m positions ahead)
          (tells_none v w (g.met.H.Host.only_now loop.host) (c.in_ok-taken.ensures.stays t)) z c.in-Some.taken
          (λ ps h. subst (λ (o : Option Taken). GivesPending v.files m c.next.new.self ps o) c.in-Some.is (c.in_ok-taken.ensures.next t m ps h))
          (c.in_ok-tell_recipient.ensures.told t);
      only = λ t. only_on u v z (loop.invariant.only t) (only_on v w z (only_none v w (g.met.H.Host.only_now loop.host) (c.in_ok-taken.ensures.stays t)) (c.in_ok-tell_recipient.ensures.only t));
      disk_later = omega (arith, loop.invariant.disk_later, c.in_ok-taken.ensures.cause.disk_later, c.in_ok-tell_recipient.ensures.cause.disk_later);
      tell_later = omega (arith, loop.invariant.tell_later, c.in_ok-taken.ensures.cause.tell_later, c.in_ok-tell_recipient.ensures.cause.tell_later);
    }

pub loop-taken-smaller : goal.loop-taken-smaller
loop-taken-smaller g c = subst (λ (o : Option Taken). IfSome o (λ _. pending_left c.next.new.self < pending_left c.loop-taken.reader)) c.in-Some.is c.in_ok-taken.ensures.fewer

pub overflow_add-count : goal.overflow_add-count
overflow_add-count g c =
    let fewer = subst (λ (o : Option Taken). IfSome o (λ _. pending_left c.next.new.self < pending_left c.loop-taken.reader)) c.in-Some.is c.in_ok-taken.ensures.fewer in
    omega (arith, c.loop-taken.invariant.few, fewer, c.requires.few)

pub returns-in_err-taken-clause-only : goal.returns-in_err-taken-clause-only
returns-in_err-taken-clause-only g c t =
    let loop = c.loop-taken in
    let v = g.H.Host.view loop.host in
    let w = g.H.Host.view c.next.new.host in
    only_on (g.H.Host.view c.args.host.now) v w (loop.invariant.only t) (only_none v w (g.met.H.Host.only_now loop.host) (c.in_err-taken.ensures.stays t))

pub returns-in_default-clause-only : goal.returns-in_default-clause-only
returns-in_default-clause-only g c t =
    let loop = c.loop-taken in
    let v = g.H.Host.view loop.host in
    let w = g.H.Host.view c.next.new.host in
    only_on (g.H.Host.view c.args.host.now) v w (loop.invariant.only t) (only_none v w (g.met.H.Host.only_now loop.host) (c.in_ok-taken.ensures.stays t))

pub returns-in_err-tell_recipient-clause-only : goal.returns-in_err-tell_recipient-clause-only
returns-in_err-tell_recipient-clause-only g c t =
    let loop = c.loop-taken in
    let v = g.H.Host.view loop.host in
    let w = g.H.Host.view c.next.new.host in
    let z = g.H.Host.view c.tell_recipient.new.host in
    only_on (g.H.Host.view c.args.host.now) v z (loop.invariant.only t)
    (only_on v w z (only_none v w (g.met.H.Host.only_now loop.host) (c.in_ok-taken.ensures.stays t)) (c.in_err-tell_recipient.ensures.only t))
