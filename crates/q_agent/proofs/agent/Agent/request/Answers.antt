use Rattle.std.proofs.Common.{List, ap, arith, map, refl, subst, sym, ◌∙◌, ℕ}
use Rattle.std.specs.Option.{option_map}
use Rattle.q_model.specs.Values.{Site, Spot}
use Rattle.q_agent.specs.Requests.{BeginsWork}
use Rattle.q_agent.specs.Sessions.{IsSoundWork}
use Rattle.q_agent.specs.Slots.{shown, shown_at, shown_work}
use Rattle.q_agent.specs.declared.delivery_session.DeliverySession.{DeliverySession}
use Rattle.q_agent.specs.declared.slot.Slot.{Slot}
use Rattle.q_agent.proofs.Kept.{rising}
use Rattle.q_agent.proofs.RequestLaws.{comes, inserts, opened}
use Rattle.q_agent.proofs.WaitingLaws.{opens_spare}
use Rattle.q_agent.proofs.agent.Agent.request.Goals as goal

pub place_above-place-requires : goal.place_above-place-requires
place_above-place-requires g c = rising g.L.Link.view c.self.inside.sessions c.self.inside.slots.items c.deref.result.now c.self.invariant (c.deref.ensures.value ∙ c.reserve.ensures.items)

pub invariant_of-self-2 : goal.invariant_of-self-2
invariant_of-self-2 g c =
    let i = c.self.inside in
    let place = c.place_above-place.result in
    let key = c.insert_reserved-key in
    let slot : Slot = record { number = c.args.ask.number; key = key.result } in
    let made : DeliverySession g.row.L.Denot = record { recipients = c.len.result; work = c.in_ok-work.work } in
    let work = option_map (shown_work g.L.Link.view) c.in_ok-work.work in
    let sound = subst (λ (n : ℕ). IsSoundWork n work) (sym c.len.ensures) c.in_ok-work.ensures.begins.sound in
    let room = c.insert.ensures.succeeds (omega (arith, c.in_ok-reserve.ensures.ok)) in
    let left = inserts c.insert.result c.insert.new.self.items c.reserve.new.self.items i.slots.items place slot c.insert.ensures.items room c.reserve.ensures.items in
    (comes g.L.Link.view i.sessions c.reserve-2.new.self key.new.self i.slots.items c.deref.result.now c.insert.new.self.items i.polled place slot made c.args.self.now c.self.invariant c.self.view_is c.reserve-2.ensures.rest_kept key.ensures.was_vacant key.ensures.updates
    (c.deref.ensures.value ∙ c.reserve.ensures.items) c.place_above-place.ensures.within c.place_above-place.ensures.place c.requires.fresh sound left).holds

pub returns-clause-ok : goal.returns-clause-ok
returns-clause-ok g c =
    let i = c.self.inside in
    let place = c.place_above-place.result in
    let key = c.insert_reserved-key in
    let slot : Slot = record { number = c.args.ask.number; key = key.result } in
    let made : DeliverySession g.row.L.Denot = record { recipients = c.len.result; work = c.in_ok-work.work } in
    let work = option_map (shown_work g.L.Link.view) c.in_ok-work.work in
    let sound = subst (λ (n : ℕ). IsSoundWork n work) (sym c.len.ensures) c.in_ok-work.ensures.begins.sound in
    let room = c.insert.ensures.succeeds (omega (arith, c.in_ok-reserve.ensures.ok)) in
    let left = inserts c.insert.result c.insert.new.self.items c.reserve.new.self.items i.slots.items place slot c.insert.ensures.items room c.reserve.ensures.items in
    let becomes = comes g.L.Link.view i.sessions c.reserve-2.new.self key.new.self i.slots.items c.deref.result.now c.insert.new.self.items i.polled place slot made c.args.self.now c.self.invariant c.self.view_is c.reserve-2.ensures.rest_kept key.ensures.was_vacant key.ensures.updates
    (c.deref.ensures.value ∙ c.reserve.ensures.items) c.place_above-place.ensures.within c.place_above-place.ensures.place c.requires.fresh sound left in
    let hop = ap (λ (s : Site). s.hop) c.site.view_is in
    let begins_at : Spot → List ℕ → Type 0 = λ spot hop. BeginsWork g.H.Host.tells (g.H.Host.view c.args.host.now) spot hop c.args.positions.now c.args.now (g.N.Hops.view c.args.hops.now) (g.N.Hops.view c.begin.new.hops) work in
    let begins = subst (λ (s : Spot). begins_at s c.args.ask.site.hop) c.active_spot-spot.ensures (subst (begins_at c.active_spot-spot.result) hop c.in_ok-work.ensures.begins.begins) in (
      shown g.L.Link.view c.args.ask.number made,
      opened g.L.Link.view key.new.self c.insert.new.self.items i.polled slot made c.args.self.now i.sessions i.slots.items c.self.view_is becomes,
      record { number_is = refl; recipients = c.len.ensures; work = begins },
    )

pub returns-clause-spares : goal.returns-clause-spares
unfolding returns-clause-ok
returns-clause-spares g c =
    let opened = returns-clause-ok g c in
    opens_spare (g.N.Hops.view c.args.hops.now) (g.N.Hops.view c.begin.new.hops) c.args.self.now
    (record { listed = map (shown_at g.L.Link.view c.insert_reserved-key.new.self) c.insert.new.self.items; polled = c.self.inside.polled }) opened.0 opened.1 c.in_ok-work.ensures.begins.spares
