-- What is refused on a host of which no call fails, is want of memory.
use Rattle.std.proofs.Common.{◌-◌, ◌<◌, ◌^◌, ◌≡◌, ◌≤◌, arith, Bool, Err, false, refl, Result, true, ⊎_elim}
use Rattle.std.specs.Prelude.{◌||◌}
use Rattle.q_engine.specs.Refusals.{EngineCause, is_of_host}
use Rattle.q_engine.specs.declared.error.EngineError.{EngineError}
use Rattle.q_engine.specs.declared.error.EngineError.TheVariants as errors
use Rattle.q_host.specs.Faults.{DiskCause}
use Rattle.q_host.specs.declared.error.HostError.{HostError}
use Rattle.q_host.specs.declared.error.HostError.TheVariants as faults
use Rattle.q_load.specs.Unfailing.{no_faults}
use Rattle.q_model.specs.FaultCounts.{Rose}

not_risen : Rose 0 0 → ⊥
not_risen rose = ⊎_elim (λ (less : 0 < 0). omega (arith, less)) (λ (last : 2 ^ 64 - 1 ≤ 0). omega (arith, last)) rose

pub host_memory : {T : Type 0} (error : HostError) (r : Result T HostError) → r ≡ Err error → DiskCause no_faults no_faults r → error ≡ faults.NoMemory
host_memory faults.Disk r is cause = absurd (not_risen (cause.disk is))
host_memory faults.Tell r is cause = absurd (cause.no_tell is)
host_memory faults.NoMemory r is cause = refl

pub engine_memory : {T : Type 0} (error : EngineError) (r : Result T EngineError) → r ≡ Err error → EngineCause no_faults no_faults r → is_of_host error ≡ true → error ≡ errors.NoMemory
engine_memory errors.Disk r is cause of = absurd (not_risen (cause.disk is))
engine_memory errors.Tell r is cause of = absurd (not_risen (cause.tell is))
engine_memory errors.NoMemory r is cause of = refl
engine_memory (errors.Unknown number) r is cause of = absurd cc
engine_memory (errors.WrongCount number want got) r is cause of = absurd cc
engine_memory errors.Untimed r is cause of = absurd cc
engine_memory (errors.Limit bound) r is cause of = absurd cc
engine_memory (errors.Damaged area name) r is cause of = absurd cc
engine_memory (errors.Unreadable area name) r is cause of = absurd cc

-- a refusal is the host's where the others don't come
pub host_alone : (a b : Bool) → b ≡ false → (a || b) ≡ true → a ≡ true
host_alone true b none h = refl
host_alone false true none h = absurd cc
host_alone false false none h = absurd cc

pub host_alone_of : (a b c : Bool) → (b ≡ true → ⊥) → c ≡ false → (a || (b || c)) ≡ true → a ≡ true
host_alone_of true b c none last h = refl
host_alone_of false true c none last h = absurd (none refl)
host_alone_of false false true none last h = absurd cc
host_alone_of false false false none last h = absurd cc
