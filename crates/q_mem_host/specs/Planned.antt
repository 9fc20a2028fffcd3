-- How a call of a host in memory answers by its plan.
use Rattle.std.specs.Prelude.{◌≡◌, ◌++◌, ◌∷◌, [], true, IsErrOf, OnErr, Result}
use Rattle.q_host.specs.declared.error.HostError.{HostError}
use Rattle.q_host.specs.declared.error.HostError.TheVariants.{NoMemory}
use Rattle.q_mem_host.specs.Event.{Event}
use Rattle.q_mem_host.specs.Memo.{Memo}
use Rattle.q_mem_host.specs.Plans.{after_call, fails_next}

-- The call counts. It fails with this fault exactly where the plan says so. A call that fails, or
-- finds no memory, did nothing; and without memory no fault is counted.
pub record IsPlanned {T : Type 0} (fault : HostError) (old new : Memo) (result : Result T HostError) : Type 0 where
  pub counted : new.plan ≡ after_call old.plan
  pub planned : fails_next old.plan ≡ true → IsErrOf result fault
  pub unplanned : IsErrOf result fault → fails_next old.plan ≡ true
  pub nothing : OnErr result (new.history ≡ old.history)
  pub memory : IsErrOf result NoMemory → new.faults ≡ old.faults

-- this was done, and nothing else
abbrev pub Did : Event → Memo → Memo → Type 0
Did event old new = new.history ≡ old.history ++ event ∷ []
