-- What a contract sees of the deliveries in flight.
use Rattle.std.specs.List.{AllByRecursion}
use Rattle.std.specs.Prelude.{◌<◌, ◌==◌, [], ◌∷◌, Bool, List, nat_lt, not, ℕ}
use Rattle.q_model.specs.declared.rows.Delivery.{Delivery}
use Rattle.q_flights.specs.declared.delivery_ref.DeliveryRef.{DeliveryRef}
use Rattle.q_positions.specs.Rows.{row_shown}

-- the delivery that is read
abbrev pub delivery_shown : DeliveryRef → Delivery
delivery_shown f = record { number = f.number; row = row_shown f.row }

-- the deliveries in the order in which they began, how many have room, and how many positions each
-- has room for
pub record Flying : Type 0 where
  pub items : List Delivery
  pub room : ℕ
  pub most : ℕ

abbrev pub has_number : ℕ → Delivery → Bool
has_number number f = f.number == number

-- the delivery has another number
abbrev pub is_other : ℕ → Delivery → Bool
is_other number f = not (has_number number f)

-- the delivery is at this transport
abbrev pub is_at : ℕ → Delivery → Bool
is_at transport f = f.row.site.transport == transport

-- the delivery started before another
abbrev pub started_earlier : Delivery → Delivery → Bool
started_earlier a b = nat_lt a.number b.number

-- the number is above those of all
abbrev pub IsAbove : ℕ → List Delivery → Type 0
IsAbove number fs = AllByRecursion (λ f. f.number < number) fs

-- numbers rise: each is below those of all behind it
abbrev pub AreRising : List Delivery → Type 0
AreRising [] = Unit {0}
AreRising (f ∷ fs) = AllByRecursion (λ g. f.number < g.number) fs × AreRising fs
