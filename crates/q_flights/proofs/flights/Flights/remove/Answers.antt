use Rattle.std.proofs.Common.{◌≡◌, ◌∙◌, ap, get_or, [], List, None, Option, Some, subst, sym}
use Rattle.std.specs.Option.{is_some}
use Rattle.std.specs.Prelude.{filter, find}
use Rattle.q_flights.proofs.Counted.{counted_left, counted_some}
use Rattle.q_flights.proofs.Filled.{delivery_at, filled_apart, filled_first, filled_item, filled_keys, filled_left}
use Rattle.q_flights.proofs.Found.{found_at, found_nowhere, left_at, not_gone}
use Rattle.q_flights.proofs.Rising.{rising_left, whole}
use Rattle.q_flights.specs.declared.delivery_head.DeliveryHead.{DeliveryHead}
use Rattle.q_flights.specs.Heads.{deliveries_of, delivery_of, filled}
use Rattle.q_flights.specs.Flying.{Flying, has_number, is_other}
use Rattle.q_flights.specs.Sound.{IsSound}
use Rattle.q_keyed.specs.Numbered.{Items, values_of}
use Rattle.q_model.specs.declared.rows.Delivery.{Delivery}
use Rattle.q_flights.proofs.flights.Flights.remove.Goals as goal

-- it isn't there

pub returns-in_default-clause-taken : goal.returns-in_default-clause-taken
returns-in_default-clause-taken c =
    let a = c.self.inside in
    let n = c.args.number in
    let ks = a.heads.items in
    let lists = a.positions.lists in
    ap is_some (sym (found_nowhere n (filled lists ks) (filled_first lists n ks ∙ sym c.find.ensures.is ∙ c.in_default.is)))
    ∙ ap (λ (v : Flying). is_some (find (has_number n) v.items)) c.self.view_is

pub returns-in_default-clause-items : goal.returns-in_default-clause-items
returns-in_default-clause-items c =
    let a = c.self.inside in
    let n = c.args.number in
    let ks = a.heads.items in
    let lists = a.positions.lists in
    let now = c.args.self.now in
    ap (λ (fs : List Delivery). record now { items = fs })
    (sym (whole n now.items
    (sym (ap (λ (v : Flying). find (has_number n) v.items) c.self.view_is)
    ∙ found_nowhere n (filled lists ks) (filled_first lists n ks ∙ sym c.find.ensures.is ∙ c.in_default.is))))

-- it was found at that place

pub invariant_of-self : goal.invariant_of-self
invariant_of-self c =
    let a = c.self.inside in
    let n = c.args.number in
    let at = c.in-Some.at in
    let ks = a.heads.items in
    let lists = a.positions.lists in
    absurd (not_gone n at (filled lists ks) (filled_apart lists ks c.find.ensures.apart) (filled_first lists n ks ∙ sym c.find.ensures.is ∙ c.in-Some.is)
    (filled_item lists at ks ∙ ap (delivery_at lists at) (sym c.remove.ensures.taken ∙ c.in_default-remove.is)))

pub returns-in_default-remove-clause-taken : goal.returns-in_default-remove-clause-taken
returns-in_default-remove-clause-taken c =
    let a = c.self.inside in
    let n = c.args.number in
    let at = c.in-Some.at in
    let ks = a.heads.items in
    let lists = a.positions.lists in
    absurd (not_gone n at (filled lists ks) (filled_apart lists ks c.find.ensures.apart) (filled_first lists n ks ∙ sym c.find.ensures.is ∙ c.in-Some.is)
    (filled_item lists at ks ∙ ap (delivery_at lists at) (sym c.remove.ensures.taken ∙ c.in_default-remove.is)))

pub returns-in_default-remove-clause-items : goal.returns-in_default-remove-clause-items
returns-in_default-remove-clause-items c =
    let a = c.self.inside in
    let n = c.args.number in
    let at = c.in-Some.at in
    let ks = a.heads.items in
    let lists = a.positions.lists in
    absurd (not_gone n at (filled lists ks) (filled_apart lists ks c.find.ensures.apart) (filled_first lists n ks ∙ sym c.find.ensures.is ∙ c.in-Some.is)
    (filled_item lists at ks ∙ ap (delivery_at lists at) (sym c.remove.ensures.taken ∙ c.in_default-remove.is)))

-- it goes

pub count_ended-requires : goal.count_ended-requires
count_ended-requires c =
    let a = c.self.inside in
    let n = c.args.number in
    let at = c.in-Some.at in
    let ks = a.heads.items in
    let lists = a.positions.lists in
    let there : find (has_number n) (deliveries_of lists ks) ≡ Some (delivery_of c.in-Some-remove.head (get_or lists at [])) =
    sym (found_at n at (filled lists ks) (filled_apart lists ks c.find.ensures.apart) (filled_first lists n ks ∙ sym c.find.ensures.is ∙ c.in-Some.is))
    ∙ filled_item lists at ks ∙ ap (delivery_at lists at) (sym c.remove.ensures.taken ∙ c.in-Some-remove.is) in
    counted_some (deliveries_of lists ks) a.counts n _ c.transport.result c.self.invariant.sound.counted c.self.invariant.sound.rise there c.transport.type_inv c.transport.ensures

-- the deliveries that are left
left : (c : goal.After-count_ended) → deliveries_of c.self.inside.positions.lists c.remove.new.self.items ≡ filter (is_other c.args.number) (deliveries_of c.self.inside.positions.lists c.self.inside.heads.items)
left c =
    let a = c.self.inside in
    let n = c.args.number in
    let at = c.in-Some.at in
    let ks = a.heads.items in
    let lists = a.positions.lists in
    ap (λ (v : Items DeliveryHead). deliveries_of lists v.items) c.remove.ensures.items
    ∙ ap values_of (filled_left lists at ks)
    ∙ left_at n at (filled lists ks) (filled_apart lists ks c.find.ensures.apart) (filled_keys lists ks c.find.ensures.keys) (filled_first lists n ks ∙ sym c.find.ensures.is ∙ c.in-Some.is)

pub invariant_of-self-2 : goal.invariant_of-self-2
invariant_of-self-2 c =
    let a = c.self.inside in
    let n = c.args.number in
    let at = c.in-Some.at in
    let ks = a.heads.items in
    let lists = a.positions.lists in
    let there : find (has_number n) (deliveries_of lists ks) ≡ Some (delivery_of c.in-Some-remove.head (get_or lists at [])) =
    sym (found_at n at (filled lists ks) (filled_apart lists ks c.find.ensures.apart) (filled_first lists n ks ∙ sym c.find.ensures.is ∙ c.in-Some.is))
    ∙ filled_item lists at ks ∙ ap (delivery_at lists at) (sym c.remove.ensures.taken ∙ c.in-Some-remove.is) in
    let sound : IsSound (filter (is_other n) (deliveries_of lists ks)) c.count_ended.new.counts = record {
      rise = rising_left (is_other n) (deliveries_of lists ks) c.self.invariant.sound.rise;
      counted = rw c.count_ended.ensures (counted_left (deliveries_of lists ks) a.counts n _ c.transport.result c.self.invariant.sound.counted c.self.invariant.sound.rise there c.transport.type_inv c.transport.ensures);
    } in
    record {
      sound = subst (λ (fs : List Delivery). IsSound fs c.count_ended.new.counts) (sym (left c)) sound;
      places = c.self.invariant.places ∙ sym (ap (λ (v : Items DeliveryHead). v.room) c.remove.ensures.items);
    }

pub returns-clause-taken : goal.returns-clause-taken
returns-clause-taken c =
    let a = c.self.inside in
    let n = c.args.number in
    let at = c.in-Some.at in
    let ks = a.heads.items in
    let lists = a.positions.lists in
    let there : find (has_number n) (deliveries_of lists ks) ≡ Some (delivery_of c.in-Some-remove.head (get_or lists at [])) =
    sym (found_at n at (filled lists ks) (filled_apart lists ks c.find.ensures.apart) (filled_first lists n ks ∙ sym c.find.ensures.is ∙ c.in-Some.is))
    ∙ filled_item lists at ks ∙ ap (delivery_at lists at) (sym c.remove.ensures.taken ∙ c.in-Some-remove.is) in
    sym (ap is_some there) ∙ ap (λ (v : Flying). is_some (find (has_number n) v.items)) c.self.view_is

pub returns-clause-items : goal.returns-clause-items
returns-clause-items c =
    let a = c.self.inside in
    let n = c.args.number in
    let fs = deliveries_of a.positions.lists a.heads.items in
    ap (λ (gs : List Delivery). record { items = gs; room = c.remove.new.self.room; most = a.positions.most }) (left c)
    ∙ ap (λ (v : Items DeliveryHead). record { items = filter (is_other n) fs; room = v.room; most = a.positions.most }) c.remove.ensures.items
    ∙ ap (λ (v : Flying). record v { items = filter (is_other n) v.items }) c.self.view_is
