use Rattle.std.proofs.Common.{◌≡◌, ◌-◌, ◌^◌, length, min, take}
use Rattle.std.specs.Prelude.{sum_by}
use Rattle.q_model.specs.declared.rows.Delivery.{Delivery}
use Rattle.q_ledger.proofs.admitted.count_in_flight.Given as goal

abbrev pub invariant-loop-flight : goal.invariant-loop-flight
invariant-loop-flight l = l.count ≡ min (sum_by (λ (f : Delivery). length f.row.positions) (take l.flight-index l.flights)) (2 ^ 64 - 1)
