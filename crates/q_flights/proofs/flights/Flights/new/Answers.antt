use Rattle.std.proofs.Common.{◌∙◌, [], ap, length, List, replicate, subst, sym, ℕ}
use Rattle.std.proofs.lemmas.List.{length-replicate}
use Rattle.q_flights.proofs.Counted.{counted_none}
use Rattle.q_flights.specs.declared.delivery_head.DeliveryHead.{DeliveryHead}
use Rattle.q_flights.specs.Heads.{deliveries_of}
use Rattle.q_flights.specs.Sound.{AreKept, IsSound}
use Rattle.q_keyed.specs.Numbered.{Items}
use Rattle.q_model.specs.declared.rows.Delivery.{Delivery}
use Rattle.q_positions.specs.Lists.{Lists}
use Rattle.q_flights.proofs.flights.Flights.new.Goals as goal

pub invariant_of-result : goal.invariant_of-result
invariant_of-result c =
    let p = c.in_ok-positions.positions in
    record {
      sound = subst (λ (v : Items DeliveryHead). IsSound (deliveries_of p.lists v.items) (replicate 256 0)) (sym c.in_ok-heads.ensures) (record { rise = tt; counted = counted_none });
      places =
          ap (λ (v : Lists). length v.lists) c.in_ok-positions.ensures
          ∙ length-replicate c.args.room _
          ∙ sym (ap (λ (v : Items DeliveryHead). v.room) c.in_ok-heads.ensures);
    }

pub returns : goal.returns
returns c =
    let p = c.in_ok-positions.positions in
    let none : List Delivery = [] in
    ap (λ (v : Items DeliveryHead). record { items = deliveries_of p.lists v.items; room = v.room; most = p.most }) c.in_ok-heads.ensures
    ∙ ap (λ (v : Lists). record { items = none; room = c.args.room; most = v.most }) c.in_ok-positions.ensures
