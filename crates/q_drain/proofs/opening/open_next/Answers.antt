use Rattle.std.proofs.Common.{◌≡◌, ◌∙◌, ap, Option, option_map, refl, Some, subst, sym}
use Rattle.std.specs.Prelude.{option_copied}
use Rattle.q_agent.proofs.Sparing.{spares_same}
use Rattle.q_agent.specs.WaitsLeft.{waits_left}
use Rattle.q_agent.specs.Requests.{Opens, active_spot}
use Rattle.q_books.proofs.Results.{both_ok, on_err, on_ok}
use Rattle.q_books.specs.HostStands.{TellsCrashes}
use Rattle.q_drain.proofs.Polls.{polling_later, polling_more}
use Rattle.q_drain.proofs.Requested.{Asked, always_err, asks_there, fails_before, fails_tried, none_has, none_placed, none_shown, opens_first, opens_never, some_shown}
use Rattle.q_core.specs.Queries.{flight_in, flight_shown}
use Rattle.q_drain.specs.Progress.{OpensBy}
use Rattle.q_model.specs.Deliveries.{flight_of}
use Rattle.q_model.specs.declared.rows.Delivery.{Delivery}
use Rattle.q_drain.proofs.opening.open_next.Goals as goal

pub returns-in_default-2-clause-ok : goal.returns-in_default-2-clause-ok
returns-in_default-2-clause-ok g c t =
    let u = g.H.Host.view c.args.host.now in
    let hops = g.N.Hops.view c.args.hops.now in
    opens_never c.args.engine.now u u hops hops c.args.agent.now c.args.agent.now c.args.number c.requires.polling.order.below (λ w l core counts. none_shown (flight_of l c.args.number) (sym (c.flight.ensures.ledger w l core counts) ∙ c.in_default.is-0))

pub returns-in_default-2-clause-polling : goal.returns-in_default-2-clause-polling
returns-in_default-2-clause-polling g c = polling_later c.args.number c.args.agent.now c.requires.polling

pub returns-in_default-2-clause-opens : goal.returns-in_default-2-clause-opens
returns-in_default-2-clause-opens g c =
    subst (λ (o : Option Delivery). OpensBy o c.args.agent.now c.args.agent.now) (sym (none_shown (flight_in c.args.engine.now.core.value c.args.number) (sym c.flight.ensures.own ∙ c.in_default.is-0))) refl

pub returns-in_default-clause-ok : goal.returns-in_default-clause-ok
returns-in_default-clause-ok g c t =
    let u = g.H.Host.view c.args.host.now in
    let hops = g.N.Hops.view c.args.hops.now in
    opens_never c.args.engine.now u u hops hops c.args.agent.now c.args.agent.now c.args.number c.requires.polling.order.below (λ w l core counts. none_placed (flight_of l c.args.number) (sym (c.positions.ensures.ledger w l core counts) ∙ ap option_copied c.in_default.is-1))

pub returns-in_default-clause-polling : goal.returns-in_default-clause-polling
returns-in_default-clause-polling g c = polling_later c.args.number c.args.agent.now c.requires.polling

pub returns-in_default-clause-opens : goal.returns-in_default-clause-opens
returns-in_default-clause-opens g c =
    subst (λ (o : Option Delivery). OpensBy o c.args.agent.now c.args.agent.now) (sym (none_placed (flight_in c.args.engine.now.core.value c.args.number) (sym c.positions.ensures.own ∙ ap option_copied c.in_default.is-1))) refl

pub returns-in_default-2-clause-spares : goal.returns-in_default-2-clause-spares
returns-in_default-2-clause-spares g c = spares_same (waits_left (g.N.Hops.view c.args.hops.now) c.args.agent.now)

pub returns-in_default-clause-spares : goal.returns-in_default-clause-spares
returns-in_default-clause-spares g c = spares_same (waits_left (g.N.Hops.view c.args.hops.now) c.args.agent.now)

pub returns-in_err-to_vec-clause-err : goal.returns-in_err-to_vec-clause-err
returns-in_err-to_vec-clause-err g c = always_err c.from_residual.result _ (λ t. fails_before c.args.engine.now (g.H.Host.view c.args.host.now) (g.N.Hops.view c.args.hops.now) c.args.agent.now c.args.number)

pub request-requires-clause-fresh : goal.request-requires-clause-fresh
request-requires-clause-fresh g c = none_has c.args.number c.args.agent.now.listed c.requires.polling.order.below

pub request-requires-clause-there : goal.request-requires-clause-there
request-requires-clause-there g c t =
    let found = c.requires.first t in
    let asked : Asked c.args.engine.now c.args.number c.flight-2.inside.id c.flight-2.inside.site c.from_vec-to.result c.now.result = record {
      flight = λ w l core counts. ap Some c.flight-2.view_is ∙ sym c.in-Some-Some.is-0 ∙ c.flight.ensures.ledger w l core counts;
      positions_are = λ w l core counts. ap Some (c.from_vec-to.ensures ∙ c.in_ok-to_vec.ensures.items_if_clones_equal (λ x y e. e)) ∙ sym (ap option_copied c.in-Some-Some.is-1) ∙ c.positions.ensures.ledger w l core counts;
      now_is = c.now.ensures.ledger;
    } in
    asks_there found.0 (g.H.Host.view c.args.host.now) (g.N.Hops.view c.args.hops.now) c.args.engine.now c.args.agent.now c.args.number c.flight-2.inside.id c.flight-2.inside.site c.from_vec-to.result c.now.result g.H.Host.tells c.requires.polling.order.below asked found.1

pub returns-clause-ok : goal.returns-clause-ok
returns-clause-ok g c =
    let asked : Asked c.args.engine.now c.args.number c.flight-2.inside.id c.flight-2.inside.site c.from_vec-to.result c.now.result = record {
      flight = λ w l core counts. ap Some c.flight-2.view_is ∙ sym c.in-Some-Some.is-0 ∙ c.flight.ensures.ledger w l core counts;
      positions_are = λ w l core counts. ap Some (c.from_vec-to.ensures ∙ c.in_ok-to_vec.ensures.items_if_clones_equal (λ x y e. e)) ∙ sym (ap option_copied c.in-Some-Some.is-1) ∙ c.positions.ensures.ledger w l core counts;
      now_is = c.now.ensures.ledger;
    } in
    both_ok c.request.result
    (λ opened adds t.
    let u = g.H.Host.view c.args.host.now in
    let lawful : TellsCrashes u = record { only = g.met.H.Host.only_now c.args.host.now; told = g.met.H.Host.told_stays c.args.host.now } in
    opens_first c.args.engine.now u (g.H.Host.view c.request.new.host) (g.N.Hops.view c.args.hops.now) (g.N.Hops.view c.request.new.hops) c.args.agent.now c.request.new.self c.args.number c.flight-2.inside.id c.flight-2.inside.site c.from_vec-to.result c.now.result opened.0
    c.requires.polling.order.below asked lawful (c.request.ensures.stays t) opened.1
    (subst (λ b. Opens b u (active_spot c.flight-2.inside.id) c.args.number (c.flight-2.inside.site).hop c.from_vec-to.result c.now.result (g.N.Hops.view c.args.hops.now) (g.N.Hops.view c.request.new.hops) opened.0) t opened.2)
    (adds t) c.request.ensures.counts)
    c.request.ensures.ok c.request.ensures.connects

pub returns-clause-polling : goal.returns-clause-polling
returns-clause-polling g c = on_ok c.request.result (λ opened. polling_more c.args.number c.args.agent.now c.request.new.self opened.0 opened.1 (opened.2).number_is c.requires.polling) c.request.ensures.ok

pub returns-clause-err : goal.returns-clause-err
returns-clause-err g c =
    let asked : Asked c.args.engine.now c.args.number c.flight-2.inside.id c.flight-2.inside.site c.from_vec-to.result c.now.result = record {
      flight = λ w l core counts. ap Some c.flight-2.view_is ∙ sym c.in-Some-Some.is-0 ∙ c.flight.ensures.ledger w l core counts;
      positions_are = λ w l core counts. ap Some (c.from_vec-to.ensures ∙ c.in_ok-to_vec.ensures.items_if_clones_equal (λ x y e. e)) ∙ sym (ap option_copied c.in-Some-Some.is-1) ∙ c.positions.ensures.ledger w l core counts;
      now_is = c.now.ensures.ledger;
    } in
    on_err c.request.result
    (λ tries t. fails_tried c.args.engine.now (g.H.Host.view c.args.host.now) (g.N.Hops.view c.args.hops.now) (g.N.Hops.view c.request.new.hops) c.args.agent.now c.args.number c.flight-2.inside.id c.flight-2.inside.site c.from_vec-to.result c.now.result
    c.requires.polling.order.below asked c.request.ensures.counts tries)
    c.request.ensures.tries

pub returns-clause-opens : goal.returns-clause-opens
returns-clause-opens g c =
    let shown : Some (record { id = c.flight-2.inside.id; site = c.flight-2.inside.site }) ≡ option_map flight_shown (flight_in c.args.engine.now.core.value c.args.number) = ap Some c.flight-2.view_is ∙ sym c.in-Some-Some.is-0 ∙ c.flight.ensures.own in
    let (f, is) = some_shown (flight_in c.args.engine.now.core.value c.args.number) _ shown in
    on_ok c.request.result (λ opened. subst (λ (o : Option Delivery). OpensBy o c.args.agent.now c.request.new.self) (sym is) (opened.0, opened.1)) c.request.ensures.ok
