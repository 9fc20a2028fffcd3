use Rattle.std.proofs.Common.{◌≡◌, ◌∙◌, ◌++◌, ◌∷◌, ◌<◌, [], ap, arith, length, List, set, subst, sym, ℕ}
use Rattle.std.proofs.lemmas.List.{length-set}
use Rattle.q_flights.proofs.Counted.{counted_more}
use Rattle.q_flights.proofs.Filled.{deliveries_more, filled_first}
use Rattle.q_flights.proofs.Rising.{none_above, rising_more}
use Rattle.q_flights.specs.declared.delivery_head.DeliveryHead.{DeliveryHead}
use Rattle.q_flights.specs.Heads.{deliveries_of, filled}
use Rattle.q_flights.specs.Flying.{Flying, has_number, IsAbove}
use Rattle.q_flights.specs.Sound.{IsSound}
use Rattle.q_keyed.proofs.Values.{none_sought}
use Rattle.q_keyed.specs.Numbered.{Items, Numbered}
use Rattle.q_model.specs.declared.rows.Delivery.{Delivery}
use Rattle.q_positions.specs.Lists.{Lists}
use Rattle.q_positions.specs.Rows.{row_shown}
use Rattle.q_flights.proofs.flights.Flights.push.Goals as goal

pub push-at-requires-clause-absent : goal.push-at-requires-clause-absent
push-at-requires-clause-absent c =
    let a = c.self.inside in
    let n = c.args.number in
    let ks = a.heads.items in
    let lists = a.positions.lists in
    sym (filled_first lists n ks)
    ∙ none_sought (has_number n) (filled lists ks) (none_above n (deliveries_of lists ks) (subst (λ (v : Flying). IsAbove n v.items) (sym c.self.view_is) c.requires.above))

pub set-requires-clause-known : goal.set-requires-clause-known
set-requires-clause-known c = omega (arith, c.push-at.ensures.below, c.self.invariant.places)

-- the deliveries then
items : (c : goal.After-set) → deliveries_of c.set.new.self.lists c.push-at.new.self.items ≡ deliveries_of c.self.inside.positions.lists c.self.inside.heads.items ++ record { number = c.args.number; row = row_shown c.args.row } ∷ []
items c =
    let a = c.self.inside in
    let at = c.push-at.result in
    let r = c.args.row in
    let e : DeliveryHead = record { number = c.args.number; id = r.id; site = r.site.now } in
    ap (λ (v : Lists). deliveries_of v.lists c.push-at.new.self.items) c.set.ensures
    ∙ ap (λ (v : Items DeliveryHead). deliveries_of (set a.positions.lists at r.positions.now) v.items) c.push-at.ensures.items
    ∙ deliveries_more a.positions.lists at e r.positions.now a.heads.items c.push-at.ensures.fresh (omega (arith, c.push-at.ensures.below, c.self.invariant.places))

pub invariant_of-self : goal.invariant_of-self
invariant_of-self c =
    let a = c.self.inside in
    let fs = deliveries_of a.positions.lists a.heads.items in
    let f : Delivery = record { number = c.args.number; row = row_shown c.args.row } in
    let above = subst (λ (v : Flying). IsAbove f.number v.items) (sym c.self.view_is) c.requires.above in
    let sound : IsSound (fs ++ f ∷ []) c.count_begun.new.counts = record {
      rise = rising_more fs f c.self.invariant.sound.rise above;
      counted = rw c.count_begun.ensures (counted_more fs a.counts f c.transport.result c.self.invariant.sound.counted c.transport.type_inv c.transport.ensures);
    } in
    record {
      sound = subst (λ (gs : List Delivery). IsSound gs c.count_begun.new.counts) (sym (items c)) sound;
      places =
          ap (λ (v : Lists). length v.lists) c.set.ensures ∙ length-set a.positions.lists c.push-at.result c.args.row.positions.now
          ∙ c.self.invariant.places ∙ sym (ap (λ (v : Items DeliveryHead). v.room) c.push-at.ensures.items);
    }

pub returns : goal.returns
returns c =
    let a = c.self.inside in
    let f : Delivery = record { number = c.args.number; row = row_shown c.args.row } in
    ap (λ (fs : List Delivery). record { items = fs; room = c.push-at.new.self.room; most = c.set.new.self.most }) (items c)
    ∙ ap (λ (v : Lists). record { items = deliveries_of a.positions.lists a.heads.items ++ f ∷ []; room = c.push-at.new.self.room; most = v.most }) c.set.ensures
    ∙ ap (λ (v : Items DeliveryHead). record { items = deliveries_of a.positions.lists a.heads.items ++ f ∷ []; room = v.room; most = a.positions.most }) c.push-at.ensures.items
    ∙ ap (λ (v : Flying). record v { items = v.items ++ f ∷ [] }) c.self.view_is
