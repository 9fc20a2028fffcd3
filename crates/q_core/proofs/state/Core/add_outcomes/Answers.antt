use Rattle.q_core.proofs.CodeLaws.{needs_loggable}
use Rattle.q_core.specs.Rooms.{is_loggable}
use Rattle.q_laws.proofs.Members.{all_append}
use Rattle.std.proofs.Common.{◌≡◌, ◌∙◌, ◌++◌, ◌<◌, ◌^◌, ap, arith, length, length-append, List, None, refl, Some, sym, true}
use Rattle.std.specs.Prelude.{◌==◌, option_map}
use Rattle.q_flights.specs.Flying.{delivery_shown}
use Rattle.q_core.proofs.MessageTies.{messages_same}
use Rattle.q_core.proofs.NamedLaws.{needs_named}
use Rattle.q_core.proofs.PoolTies.{heads_recounted, some_there}
use Rattle.q_core.proofs.SiteTies.{flies_there}
use Rattle.q_core.proofs.SpaceLaws.{made_space}
use Rattle.q_core.proofs.TiedLaws.{tied_replied}
use Rattle.q_core.specs.Counting.{with_unsettled}
use Rattle.q_core.specs.Held.{have_space}
use Rattle.q_core.specs.Leaving.{replied_in}
use Rattle.q_core.specs.Needs.{needs_in}
use Rattle.q_core.specs.Queries.{expired_in, flight_in}
use Rattle.q_core.specs.State.{State}
use Rattle.q_core.specs.Ties.{AreNamed}
use Rattle.q_core.specs.View.{state_of}
use Rattle.q_held.specs.Held.{rows_of}
use Rattle.q_model.specs.declared.rows.Delivery.{Delivery}
use Rattle.q_model.specs.declared.rows.Unsettled.{Unsettled}
use Rattle.q_pool.specs.Kept.{heads}
use Rattle.q_pool.specs.Pooled.{Pooled}
use Rattle.q_pool.specs.declared.kept.Kept.{Kept}
use Rattle.q_queue.specs.Queued.{Queued}
use Rattle.q_core.proofs.state.Core.add_outcomes.Goals as goal

-- no such delivery is in flight

pub returns-in_default-clause-added : goal.returns-in_default-clause-added
returns-in_default-clause-added c = λ f found.
    let bad : None ≡ Some f = sym (ap (option_map delivery_shown) c.in_default.is) ∙ c.delivery.ensures ∙ found in cc

-- there is no space

pub returns-then-not-has_space-clause-added : goal.returns-then-not-has_space-clause-added
returns-then-not-has_space-clause-added c = λ g found.
    let f = delivery_shown c.in-Some.delivery in
    let both : Some f ≡ Some g = sym (ap (option_map delivery_shown) c.in-Some.is) ∙ c.delivery.ensures ∙ found in
    let it : f ≡ g = cc in
    ap (λ (x : Delivery). have_space c.args.self.now x.row.positions) (sym it)
    ∙ sym c.has_space.ensures ∙ c.if-not-has_space.true

-- there is

pub add_needs_of-requires : goal.add_needs_of-requires
add_needs_of-requires c = λ g found.
    let a = c.self.inside in
    let f = delivery_shown c.in-Some.delivery in
    let at : flight_in (state_of a) c.args.number ≡ Some f = ap (λ (s : State). flight_in s c.args.number) c.self.view_is ∙ sym c.delivery.ensures ∙ ap (option_map delivery_shown) c.in-Some.is in
    let both : Some f ≡ Some g = sym at ∙ found in
    let it : f ≡ g = cc in
    let space : have_space c.args.self.now f.row.positions ≡ true = sym c.has_space.ensures ∙ c.if-not-has_space.false in
    made_space (state_of a) a.unsettled g.row.positions refl c.self.invariant.6.outcomes
    (ap (λ (s : State). have_space s g.row.positions) c.self.view_is ∙ ap (λ (x : Delivery). have_space c.args.self.now x.row.positions) (sym it) ∙ space)

pub invariant_of-self : goal.invariant_of-self
invariant_of-self c =
    let a = c.self.inside in
    let f = delivery_shown c.in-Some.delivery in
    let at : flight_in (state_of a) c.args.number ≡ Some f = ap (λ (s : State). flight_in s c.args.number) c.self.view_is ∙ sym c.delivery.ensures ∙ ap (option_map delivery_shown) c.in-Some.is in
    let us = a.unsettled.items in
    let new : List Unsettled = replied_in c.args.self.now f c.args.outcomes.now in
    let added : c.add_needs_of.new.unsettled ≡ record a.unsettled { items = us ++ new } = c.add_needs_of.ensures f at ∙ ap (λ b. record a.unsettled { items = us ++ needs_in b f.row.id f.row.positions c.args.outcomes.now }) c.id_expired-expired.ensures in
    let items : c.add_needs_of.new.unsettled.items ≡ us ++ new = ap (λ (q : Queued Unsettled). q.items) added in
    let slots : heads c.gain_unsettled.new.pool.items ≡ heads a.admitted.items = ap (λ (m : Pooled). heads m.items) c.gain_unsettled.ensures ∙ heads_recounted (with_unsettled c.saturating_sub-needs.result) f.row.id a.admitted.items in
    let t = c.self.invariant.0 in
    let own = some_there (λ (k : Kept). k.flying) (λ (x : Delivery). x.row.id) a.admitted.items a.flights.items (λ (x : Delivery). x.number == c.args.number) f t.flights at in
    let named : AreNamed (λ (u : Unsettled). u.id) f.row.id new = needs_named _ f.row.id f.row.positions c.args.outcomes.now in
    let many = ap (λ (xs : List Unsettled). length xs) items in
    let long = length-append us new in
    let few : length (us ++ new) < 2 ^ 64 = omega (arith, many, c.stand_within.ensures.within, c.stand_within.ensures.few) in
    let count : c.saturating_sub-needs.result ≡ length new = omega (arith, many, long, c.saturating_sub-needs.ensures, c.len.ensures, c.len-before.ensures) in (
      rw items (tied_replied a.params a.admitted c.gain_unsettled.new.pool (rows_of a.waiting.items) a.flights.items us new a.starts f.row.id own.0 c.saturating_sub-needs.result own.1 count few named c.gain_unsettled.ensures t),
      rw slots c.self.invariant.1,
      c.self.invariant.2,
      c.self.invariant.3,
      c.self.invariant.4,
      messages_same a.params a.schedule (heads a.admitted.items) c.self.invariant.5 _ slots,
      record {
        deliveries = c.self.invariant.6.deliveries;
        asked = c.self.invariant.6.asked;
        names = c.self.invariant.6.names;
        named_few = c.self.invariant.6.named_few;
        outcomes = ap (λ (q : Queued Unsettled). q.room) added ∙ c.self.invariant.6.outcomes;
        codes = rw items (all_append is_loggable us new c.self.invariant.6.codes (needs_loggable (expired_in c.args.self.now f.row.id) f.row.id f.row.positions c.args.outcomes.now c.requires));
        dated = c.self.invariant.6.dated;
      },
      c.self.invariant.7,
      c.self.invariant.8,
      c.self.invariant.9,
    )

pub returns-clause-busy : goal.returns-clause-busy
returns-clause-busy c =
    let f = delivery_shown c.in-Some.delivery in
    let at : flight_in (state_of c.self.inside) c.args.number ≡ Some f = ap (λ (s : State). flight_in s c.args.number) c.self.view_is ∙ sym c.delivery.ensures ∙ ap (option_map delivery_shown) c.in-Some.is in
    flies_there c.args.number f c.self.inside.flights.items at

pub returns-clause-added : goal.returns-clause-added
returns-clause-added c = λ g found.
    let a = c.self.inside in
    let f = delivery_shown c.in-Some.delivery in
    let at : flight_in (state_of a) c.args.number ≡ Some f = ap (λ (s : State). flight_in s c.args.number) c.self.view_is ∙ sym c.delivery.ensures ∙ ap (option_map delivery_shown) c.in-Some.is in
    let both : Some f ≡ Some g = sym at ∙ ap (λ (s : State). flight_in s c.args.number) c.self.view_is ∙ found in
    let it : f ≡ g = cc in
    let us = a.unsettled.items in
    let new : List Unsettled = replied_in c.args.self.now f c.args.outcomes.now in
    let given : new ≡ replied_in c.args.self.now g c.args.outcomes.now = ap (λ (x : Delivery). replied_in c.args.self.now x c.args.outcomes.now) it in
    let added : c.add_needs_of.new.unsettled ≡ record a.unsettled { items = us ++ new } = c.add_needs_of.ensures f at ∙ ap (λ b. record a.unsettled { items = us ++ needs_in b f.row.id f.row.positions c.args.outcomes.now }) c.id_expired-expired.ensures in
    let items : c.add_needs_of.new.unsettled.items ≡ us ++ new = ap (λ (q : Queued Unsettled). q.items) added in
    let slots : heads c.gain_unsettled.new.pool.items ≡ heads a.admitted.items = ap (λ (m : Pooled). heads m.items) c.gain_unsettled.ensures ∙ heads_recounted (with_unsettled c.saturating_sub-needs.result) f.row.id a.admitted.items in
    let many = ap (λ (xs : List Unsettled). length xs) items in
    let long = length-append us new in
    let count : c.saturating_sub-needs.result ≡ length new = omega (arith, many, long, c.saturating_sub-needs.ensures, c.len.ensures, c.len-before.ensures) in
    let few = ap (λ (xs : List Unsettled). length xs) given in
    let all = ap (λ (x : Delivery). length x.row.positions) it in
    let memory = ap (λ (s : State). s.in_memory) c.self.view_is in
    record {
      there = ap (λ (x : Delivery). x.row.site) it;
      rest =
          ap (λ ss. record (state_of a) { admitted = ss; unsettled = c.add_needs_of.new.unsettled.items; in_memory = c.saturating_sub-self-inside.result }) slots
          ∙ ap (λ (s : State). record s { unsettled = c.add_needs_of.new.unsettled.items; in_memory = c.saturating_sub-self-inside.result }) c.self.view_is;
      unsettled = items ∙ ap (λ xs. xs ++ new) (ap (λ (s : State). s.unsettled) c.self.view_is) ∙ ap (λ xs. c.args.self.now.unsettled ++ xs) given;
      memory = grind (arith, count, few, all, memory, c.saturating_sub-self-inside.ensures, c.saturating_sub-done.ensures);
    }
