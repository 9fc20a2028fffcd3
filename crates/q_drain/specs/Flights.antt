-- Deliveries that begin, as deliveries in flight.
use Rattle.std.specs.Prelude.{◌+◌, ◌==◌, ◌∷◌, ◌≡◌, [], filter, List, map, not, ℕ}
use Rattle.q_model.specs.declared.entry.Entry.{Entry}
use Rattle.q_model.specs.declared.rows.Delivery.{Delivery}
use Rattle.q_drain.specs.Told.{Begun, begun_from}

-- the delivery that begins so
abbrev pub flight : Begun → Delivery
flight b = record { number = b.number; row = record { id = b.id; site = b.site; positions = b.positions } }

abbrev pub flights_begun : ℕ → List Entry → List Delivery
flights_begun t es = map flight (begun_from t es)

-- all but that of this number
abbrev pub without_flight : ℕ → List Delivery → List Delivery
without_flight number fs = filter (λ f. not (f.number == number)) fs

-- each begins under the next number, from the one behind n on
abbrev pub AreNumbered : ℕ → List Begun → Type 0
AreNumbered n [] = Unit {0}
AreNumbered n (b ∷ bs) = (b.number ≡ n + 1) × AreNumbered (n + 1) bs
