use Rattle.std.proofs.Common.{◌≡◌, ◌<◌, ◌∙◌, [], ap, arith, List, map, Option, subst, sym, ℕ}
use Rattle.std.specs.Prelude.{IfSome}
use Rattle.q_ages.proofs.AddingLaws.{adds_none, left_less, none_ahead, one_of}
use Rattle.q_ages.specs.Adding.{Adds}
use Rattle.q_host.proofs.Stays.{stays_on}
use Rattle.q_model.specs.SpoolFiles.{Files}
use Rattle.q_model.specs.Texts.{domain_of}
use Rattle.q_model.specs.Values.{Taken}
use Rattle.q_pending.specs.Readings.{IsPendingAhead, IsReading, pending_left}
use Rattle.q_ages.proofs.counting.count_recipients.Goals as goal

pub returns-in_default-clause-counted : goal.returns-in_default-clause-counted
returns-in_default-clause-counted g c t m positions ahead =
    let view = g.H.Host.view in
    let kept = c.loop-taken.invariant.left t m positions ahead in
    let here = subst (λ (f : Files). IsPendingAhead f m c.loop-taken.pending kept.left) (sym (c.loop-taken.invariant.stays t).files) kept.ahead in
    let none : kept.left ≡ [] = none_ahead (view c.loop-taken.host).files m c.next.new.self kept.left c.in_ok-taken.field-0 c.in_default.is (c.in_ok-taken.ensures.next t m kept.left here) in
    kept.then_all c.loop-taken.table (subst (λ (ps : List ℕ). Adds (map (one_of c.args.age m) ps) c.loop-taken.table c.loop-taken.table) (sym none) (adds_none c.loop-taken.table))

pub loop-taken-preserved : goal.loop-taken-preserved
loop-taken-preserved g c =
    let view = g.H.Host.view in
    let loop = c.loop-taken.invariant in
    let next = c.in_ok-taken.ensures in
    let domain : c.split_domain.result ≡ domain_of c.in-Some.taken.address = c.split_domain.ensures ∙ ap (λ (t : Taken). domain_of t.address) c.taken.view_is in
    record {
      reading = λ t. subst (λ (f : Files). IsReading f c.next.new.self) (loop.stays t).files (next.reading t);
      left = λ t m positions ahead. left_less (view c.loop-taken.host).files (view c.args.host.now).files m c.args.age c.args.table.now c.loop-taken.table c.add.new.self c.loop-taken.pending c.next.new.self positions
          c.in_ok-taken.field-0 c.in-Some.taken c.split_domain.result (loop.stays t).files c.in-Some.is (next.next t m) domain c.in_ok-add.ensures (loop.left t m positions ahead);
      stays = λ t. stays_on (view c.args.host.now) (view c.loop-taken.host) (view c.next.new.host) (loop.stays t) (next.stays t);
      disk_later = omega (arith, loop.disk_later, next.cause.disk_later);
      tell_later = omega (arith, loop.tell_later, next.cause.tell_later);
    }

pub loop-taken-smaller : goal.loop-taken-smaller
loop-taken-smaller g c = subst (λ (o : Option Taken). IfSome o (λ _. pending_left c.next.new.self < pending_left c.loop-taken.pending)) c.in-Some.is c.in_ok-taken.ensures.fewer
