-- What a contract sees where only the messages change.
use Rattle.std.proofs.Common.{◌≡◌, ap, List}
use Rattle.q_schedule.specs.declared.admitted.Admitted.{Admitted}
use Rattle.q_schedule.specs.Schedule.{Scheduling}

-- the messages stay
pub with_messages : (v : Scheduling) (f : List Admitted → List Admitted) → v.messages ≡ f v.messages → v ≡ record v { messages = f v.messages }
with_messages v f same = ap (λ ms. record v { messages = ms }) same
