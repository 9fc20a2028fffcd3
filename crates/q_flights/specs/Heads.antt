-- How deliveries stand apart from their positions.
use Rattle.std.specs.Prelude.{[], get_or, List, map, ℕ}
use Rattle.q_flights.specs.declared.delivery_head.DeliveryHead.{DeliveryHead}
use Rattle.q_keyed.specs.Numbered.{Numbered, values_of}
use Rattle.q_model.specs.declared.rows.Delivery.{Delivery}

-- the delivery of these positions
abbrev pub delivery_of : DeliveryHead → List ℕ → Delivery
delivery_of e positions =
    record { number = e.number; row = record { id = e.id; site = e.site; positions = positions } }

-- a head's delivery, with the list of its place
abbrev pub with_positions : List (List ℕ) → Numbered DeliveryHead → Numbered Delivery
with_positions lists k =
    record { number = k.number; item = delivery_of k.item (get_or lists k.number []) }

abbrev pub filled : List (List ℕ) → List (Numbered DeliveryHead) → List (Numbered Delivery)
filled lists ks = map (with_positions lists) ks

abbrev pub deliveries_of : List (List ℕ) → List (Numbered DeliveryHead) → List Delivery
deliveries_of lists ks = values_of (filled lists ks)
