use Rattle.q_laws.proofs.Deciding.{decisions_are}
use Rattle.q_drain.proofs.Flying.{decided_flights}
use Rattle.q_drain.proofs.Numbering.{decided_numbers, inside_starts}
use Rattle.q_drain.proofs.Silent.{decisions_inside}
use Rattle.q_drain.proofs.begins_deliveries.Goals as goal
use Rattle.q_model.specs.Run.{decisions}

pub returns : goal.returns
returns c = λ w l t. record {
  flights = decided_flights w l t (decisions w l) (decisions_inside w l);
  numbers = decided_numbers w l t (decisions w l) (decisions_are w l);
  starts_are = inside_starts w l t (decisions w l) (decisions_inside w l);
}
