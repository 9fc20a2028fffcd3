use Rattle.std.proofs.Common.{◌≡◌, ◌∙◌, ap, arith, Bool, false, List, None, Some, subst, sym, true}
use Rattle.q_logfile.specs.Flags.{flag_at}
use Rattle.q_host.proofs.Stays.{stays_on}
use Rattle.q_model.specs.SpoolFiles.{Files}
use Rattle.q_model.specs.Values.{Taken}
use Rattle.q_pending.proofs.ReadingLaws.{fewer_given, gives_none, gives_open, gives_same, passes_logged}
use Rattle.q_pending.specs.Readings.{IsReading}
use Rattle.q_pending.proofs.pending.Pending.next.Goals as goal

pub returns-in_default-clause-next : goal.returns-in_default-clause-next
returns-in_default-clause-next g c t m positions ahead =
    let view = g.H.Host.view in
    let p = c.loop-taken.self in
    let q = c.next_unmarked.new.self in
    gives_none (view c.args.host.now).files m p q positions
    (gives_same (view c.loop-taken.host).files (view c.args.host.now).files p q c.in_ok-taken.field-0 None (c.loop-taken.invariant.stays t).files c.in_default.is (c.in_ok-taken.ensures.next t) m)
    (c.loop-taken.invariant.ahead t m positions ahead)

pub returns-then-not-is_set-clause-next : goal.returns-then-not-is_set-clause-next
returns-then-not-is_set-clause-next g c t m positions ahead =
    let view = g.H.Host.view in
    let p = c.loop-taken.self in
    let q = c.next_unmarked.new.self in
    let taken = c.in-Some.taken in
    let position : c.taken.inside.position ≡ c.in-Some.taken.position = ap (λ (t : Taken). t.position) c.taken.view_is in
    let flag : flag_at c.next_unmarked.new.self.logged.items c.in-Some.taken.position ≡ false =
    ap (flag_at c.next_unmarked.new.self.logged.items) (sym position) ∙ ap (λ (flags : List Bool). flag_at flags c.taken.inside.position) (sym c.deref.ensures.value) ∙ sym c.is_set.ensures ∙ c.if-not-is_set.true in
    gives_open (view c.args.host.now).files m p q positions taken c.next_unmarked.ensures.logged flag
    (gives_same (view c.loop-taken.host).files (view c.args.host.now).files p q c.in_ok-taken.field-0 (Some taken) (c.loop-taken.invariant.stays t).files c.in-Some.is (c.in_ok-taken.ensures.next t) m)
    (c.loop-taken.invariant.ahead t m positions ahead)

pub loop-taken-preserved : goal.loop-taken-preserved
loop-taken-preserved g c =
    let view = g.H.Host.view in
    let loop = c.loop-taken in
    let next = c.in_ok-taken.ensures in
    let p = c.loop-taken.self in
    let q = c.next_unmarked.new.self in
    let taken = c.in-Some.taken in
    let position : c.taken.inside.position ≡ c.in-Some.taken.position = ap (λ (t : Taken). t.position) c.taken.view_is in
    let flag : flag_at c.next_unmarked.new.self.logged.items c.in-Some.taken.position ≡ true =
    ap (flag_at c.next_unmarked.new.self.logged.items) (sym position) ∙ ap (λ (flags : List Bool). flag_at flags c.taken.inside.position) (sym c.deref.ensures.value) ∙ sym c.is_set.ensures ∙ c.if-not-is_set.false in
    record {
      reading = λ t. subst (λ (f : Files). IsReading f c.next_unmarked.new.self) (loop.invariant.stays t).files (next.reading t);
      ahead = λ t m positions ahead. passes_logged (view c.args.host.now).files m p q positions taken next.logged flag
          (gives_same (view c.loop-taken.host).files (view c.args.host.now).files p q c.in_ok-taken.field-0 (Some taken) (c.loop-taken.invariant.stays t).files c.in-Some.is (next.next t) m)
          (c.loop-taken.invariant.ahead t m positions ahead);
      fewer = omega (arith, loop.invariant.fewer, fewer_given q p c.in_ok-taken.field-0 taken c.in-Some.is next.fewer);
      stays = λ t. stays_on (view c.args.host.now) (view c.loop-taken.host) (view c.next_unmarked.new.host) (loop.invariant.stays t) (next.stays t);
      disk_later = omega (arith, loop.invariant.disk_later, next.cause.disk_later);
      tell_later = omega (arith, loop.invariant.tell_later, next.cause.tell_later);
    }

pub loop-taken-smaller : goal.loop-taken-smaller
loop-taken-smaller g c = fewer_given c.next_unmarked.new.self c.loop-taken.self c.in_ok-taken.field-0 c.in-Some.taken c.in-Some.is c.in_ok-taken.ensures.fewer

pub returns-then-not-is_set-clause-fewer : goal.returns-then-not-is_set-clause-fewer
returns-then-not-is_set-clause-fewer g c = omega (arith, c.loop-taken.invariant.fewer, fewer_given c.next_unmarked.new.self c.loop-taken.self c.in_ok-taken.field-0 c.in-Some.taken c.in-Some.is c.in_ok-taken.ensures.fewer)
