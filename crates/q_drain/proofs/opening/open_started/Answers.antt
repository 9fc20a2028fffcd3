use Rattle.std.proofs.Common.{◌∙◌, ◌+◌, ◌++◌, arith, refl}
use Rattle.q_core.specs.Queries.{flight_in}
use Rattle.q_agent.proofs.Sparing.{spares_on, spares_same}
use Rattle.q_agent.specs.WaitsLeft.{waits_left}
use Rattle.q_books.specs.HostStands.{TellsCrashes}
use Rattle.q_drain.proofs.OpeningAll.{may_open, some_all, some_begin, some_fails, some_more}
use Rattle.q_drain.proofs.Progressing.{opens_by, opens_none}
use Rattle.q_drain.proofs.Requested.{always_err}
use Rattle.q_drain.proofs.opening.open_started.Goals as goal

pub loop-number-init : goal.loop-number-init
loop-number-init g c =
    let u = g.H.Host.view c.args.host.now in
    let lawful : TellsCrashes u = record { only = g.met.H.Host.only_now c.args.host.now; told = g.met.H.Host.told_stays c.args.host.now } in
    record {
      some = c.requires.stands;
      opened = λ t w l a clock early waiting fs s is h. some_begin w l a clock u c.args.engine.now (g.N.Hops.view c.args.hops.now) c.args.agent.now early waiting fs s c.args.known lawful is h;
      polling = c.requires.polling;
      known = omega arith;
      opens = opens_none c.args.known c.args.agent.now;
      spares = spares_same (waits_left (g.N.Hops.view c.args.hops.now) c.args.agent.now);
      polled = refl;
      rests = refl;
      disk_later = omega arith;
      tell_later = omega arith;
    }

pub open_next-requires-clause-polling : goal.open_next-requires-clause-polling
open_next-requires-clause-polling g c = c.loop-number.invariant.polling

pub open_next-requires-clause-first : goal.open_next-requires-clause-first
open_next-requires-clause-first g c t =
    let loop = c.loop-number in
    let (clock, m) = loop.invariant.some t in
    let o = loop.invariant.opened t m.world m.ledger m.first clock m.early m.waiting m.flights m.story m.known_is m.serving in
    (clock, may_open m.world m.ledger m.first clock (g.H.Host.view c.args.host.now) (g.H.Host.view loop.host) c.args.engine.now (g.N.Hops.view loop.hops) loop.agent (m.early ++ m.waiting) m.story loop.number c.last_number-last.result c.last_number-last.ensures o c.loop-number-test.true)

pub loop-number-preserved : goal.loop-number-preserved
loop-number-preserved g c =
    let loop = c.loop-number in
    let v = g.H.Host.view loop.host in
    let lawful : TellsCrashes v = record { only = g.met.H.Host.only_now loop.host; told = g.met.H.Host.told_stays loop.host } in
    record {
      some = loop.invariant.some;
      opened = λ t w l a clock early waiting fs s is h. some_more w l a clock (g.H.Host.view c.args.host.now) v c.args.engine.now (g.N.Hops.view loop.hops) loop.agent (early ++ waiting) s loop.number c.last_number-last.result c.last_number-last.ensures
          (loop.invariant.opened t w l a clock early waiting fs s is h) (g.H.Host.view c.open_next.new.host) (g.N.Hops.view c.open_next.new.hops) c.open_next.new.agent c.loop-number-test.true lawful (c.open_next.ensures.stays t) (c.in_ok-open_next.ensures.ok t);
      polling = c.in_ok-open_next.ensures.polling;
      known = omega (arith, loop.invariant.known);
      opens = opens_by c.args.known loop.number c.args.agent.now loop.agent c.open_next.new.agent (flight_in c.args.engine.now.core.value (loop.number + 1)) c.in_ok-open_next.ensures.opens loop.invariant.opens;
      spares = spares_on 0 _ _ _ loop.invariant.spares c.in_ok-open_next.ensures.spares;
      polled = c.open_next.ensures.polled ∙ loop.invariant.polled;
      rests = c.open_next.ensures.rests ∙ loop.invariant.rests;
      disk_later = omega (arith, loop.invariant.disk_later, c.open_next.ensures.cause.disk_later);
      tell_later = omega (arith, loop.invariant.tell_later, c.open_next.ensures.cause.tell_later);
    }

pub returns-in_err-open_next-clause-polled : goal.returns-in_err-open_next-clause-polled
returns-in_err-open_next-clause-polled g c = c.open_next.ensures.polled ∙ c.loop-number.invariant.polled

pub returns-in_err-open_next-clause-err : goal.returns-in_err-open_next-clause-err
returns-in_err-open_next-clause-err g c =
    let loop = c.loop-number in
    let v = g.H.Host.view loop.host in
    let lawful : TellsCrashes v = record { only = g.met.H.Host.only_now loop.host; told = g.met.H.Host.told_stays loop.host } in
    always_err c.from_residual.result _ (λ t w l a clock early waiting fs s is h.
    some_fails w l a clock (g.H.Host.view c.args.host.now) v c.args.engine.now (g.N.Hops.view loop.hops) loop.agent (early ++ waiting) s loop.number c.last_number-last.result c.last_number-last.ensures
    (loop.invariant.opened t w l a clock early waiting fs s is h) (g.H.Host.view c.open_next.new.host) (g.N.Hops.view c.open_next.new.hops) c.loop-number-test.true lawful (c.open_next.ensures.stays t) (c.in_err-open_next.ensures.err t))

pub returns-clause-ok : goal.returns-clause-ok
returns-clause-ok g c t w l a clock early waiting fs s is h =
    let loop = c.loop-number in
    let v = g.H.Host.view loop.host in
    some_all w l a clock (g.H.Host.view c.args.host.now) v c.args.engine.now (g.N.Hops.view loop.hops) loop.agent (early ++ waiting) s loop.number c.last_number-last.result c.last_number-last.ensures (loop.invariant.opened t w l a clock early waiting fs s is h) c.loop-number-test.false

pub returns-clause-last : goal.returns-clause-last
returns-clause-last g c = (c.loop-number.invariant.known, c.loop-number.invariant.polling)

pub returns-clause-polled : goal.returns-clause-polled
returns-clause-polled g c = c.loop-number.invariant.polled

pub returns-in_err-open_next-clause-rests : goal.returns-in_err-open_next-clause-rests
returns-in_err-open_next-clause-rests g c = c.open_next.ensures.rests ∙ c.loop-number.invariant.rests

pub returns-clause-rests : goal.returns-clause-rests
returns-clause-rests g c = c.loop-number.invariant.rests

pub returns-clause-spares : goal.returns-clause-spares
returns-clause-spares g c = c.loop-number.invariant.spares

pub returns-clause-opens : goal.returns-clause-opens
returns-clause-opens g c = c.loop-number.invariant.opens
