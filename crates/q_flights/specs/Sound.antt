-- What always holds of the deliveries in flight and of their counts.
use Rattle.std.specs.Prelude.{◌≡◌, ◌<◌, count_by, length, List, slice_index_or, ℕ}
use Rattle.q_flights.specs.declared.delivery_head.DeliveryHead.{DeliveryHead}
use Rattle.q_flights.specs.Heads.{deliveries_of}
use Rattle.q_flights.specs.Flying.{AreRising, is_at}
use Rattle.q_keyed.specs.Numbered.{Items}
use Rattle.q_model.specs.declared.rows.Delivery.{Delivery}
use Rattle.q_positions.specs.Lists.{Lists}

-- each transport has its count
pub record AreCounted (flights : List Delivery) (counts : List ℕ) : Type 0 where
  pub len : length counts ≡ 256
  pub each : (t : ℕ) → t < 256 → slice_index_or counts t 0 ≡ count_by (is_at t) flights

-- numbers rise, and the counts are those of these deliveries
pub record IsSound (flights : List Delivery) (counts : List ℕ) : Type 0 where
  pub rise : AreRising flights
  pub counted : AreCounted flights counts

-- so it is of the deliveries of these heads, and each place of a head has its list
pub record AreKept (heads : Items DeliveryHead) (positions : Lists) (counts : List ℕ) : Type 0 where
  pub sound : IsSound (deliveries_of positions.lists heads.items) counts
  pub places : length positions.lists ≡ heads.room
