-- A refusal that is passed on has the cause that it had.
use Rattle.std.proofs.Common.{◌≡◌, ◌∙◌, List, Option, Some, false, inl, inr, refl, sym, ℕ}
use Rattle.std.specs.Prelude.{Err, IsErrOf, Ok, Result}
use Rattle.q_drain.specs.Drained.{IsDrainError}
use Rattle.q_drain.specs.Faults.{stop_of}
use Rattle.q_drain.specs.declared.driver.Drained.{Drained}
use Rattle.q_drain.specs.declared.driver.Drained.TheVariants.{Unfinished}
use Rattle.q_engine.specs.Refusals.{EngineCause, is_unreadable}
use Rattle.q_engine.specs.Stops.{StopCause, stopped_by}
use Rattle.q_engine.specs.declared.error.EngineError.{EngineError}
use Rattle.q_engine.specs.declared.error.EngineError.TheVariants as errors
use Rattle.q_engine.specs.declared.stop.Stop.{Stop}
use Rattle.q_engine.specs.declared.stop.Stop.TheVariants as stops
use Rattle.q_host.specs.Faults.{Faults}
use Rattle.q_host.specs.declared.error.HostError.TheVariants.{Disk, NoMemory, Tell}
use Rattle.q_model.specs.declared.limits.Bound.{Bound}
use Rattle.q_model.specs.declared.spot.Area.{Area}

-- the engine did what it was asked for
pub engine_ok : {T S : Type 0} (before after : Faults) (r : Result T EngineError) (made : S) → EngineCause before after r → StopCause {T = S} before after (Ok made)
engine_ok before after r made h = record { disk_later = h.disk_later; tell_later = h.tell_later; disk = λ is. absurd cc; tell = λ is. absurd cc }

pub engine_passed : {T S : Type 0} (before after : Faults) (why : EngineError) (made : Stop) (r : Result T EngineError) → r ≡ Err why → made ≡ stop_of why → EngineCause before after r → StopCause {T = S} before after (Err made)
engine_passed before after errors.Disk made r how is h = record { disk_later = h.disk_later; tell_later = h.tell_later; disk = λ of. h.disk how; tell = λ of. absurd cc }
engine_passed before after errors.Tell made r how is h = record { disk_later = h.disk_later; tell_later = h.tell_later; disk = λ of. absurd cc; tell = λ of. h.tell how }
engine_passed before after errors.NoMemory made r how is h = record { disk_later = h.disk_later; tell_later = h.tell_later; disk = λ of. absurd cc; tell = λ of. absurd cc }
engine_passed before after (errors.Unknown n) made r how is h = record { disk_later = h.disk_later; tell_later = h.tell_later; disk = λ of. absurd cc; tell = λ of. absurd cc }
engine_passed before after (errors.WrongCount n want got) made r how is h = record { disk_later = h.disk_later; tell_later = h.tell_later; disk = λ of. absurd cc; tell = λ of. absurd cc }
engine_passed before after errors.Untimed made r how is h = record { disk_later = h.disk_later; tell_later = h.tell_later; disk = λ of. absurd cc; tell = λ of. absurd cc }
engine_passed before after (errors.Limit bound) made r how is h = record { disk_later = h.disk_later; tell_later = h.tell_later; disk = λ of. absurd cc; tell = λ of. absurd cc }
engine_passed before after (errors.Damaged area name) made r how is h = record { disk_later = h.disk_later; tell_later = h.tell_later; disk = λ of. absurd cc; tell = λ of. absurd cc }
engine_passed before after (errors.Unreadable area name) made r how is h = record { disk_later = h.disk_later; tell_later = h.tell_later; disk = λ of. absurd cc; tell = λ of. absurd cc }

stop_names : {T : Type 0} (made : Stop) (area : Area) (name : List ℕ) → IsErrOf {T = T} (Err made) (stops.Unreadable area name) → made ≡ stops.Unreadable area name
stop_names made area name h = cc

stop_readable_by : (why : EngineError) (area : Area) (name : List ℕ) → is_unreadable why ≡ false → stop_of why ≡ stops.Unreadable area name → ⊥
stop_readable_by errors.Disk area name none is = cc
stop_readable_by errors.Tell area name none is = cc
stop_readable_by errors.NoMemory area name none is = cc
stop_readable_by (errors.Unknown n) area name none is = cc
stop_readable_by (errors.WrongCount n want got) area name none is = cc
stop_readable_by errors.Untimed area name none is = cc
stop_readable_by (errors.Limit bound) area name none is = cc
stop_readable_by (errors.Damaged a n) area name none is = cc
stop_readable_by (errors.Unreadable a n) area name none is = cc

-- a refusal of the engine that names no unreadable file stops so
pub engine_readable : {T : Type 0} (why : EngineError) (made : Stop) (area : Area) (name : List ℕ) → made ≡ stop_of why → is_unreadable why ≡ false → IsErrOf {T = T} (Err made) (stops.Unreadable area name) → ⊥
engine_readable {T} why made area name is none of = stop_readable_by why area name none (sym is ∙ stop_names {T = T} made area name of)

-- so many rests were given, and no other number
pub same_rests : (given n : ℕ) → ◌≡◌ {A = Option Drained} (Some (Unfinished given)) (Some (Unfinished n)) → n ≡ given
same_rests given n is = cc

-- an end at a bound
pub limit_cause : {T S : Type 0} (before after : Faults) (bound : Bound) (r : Result T Stop) → StopCause before after r → EngineCause {T = S} before after (Err (errors.Limit bound))
limit_cause before after bound r h = record { disk_later = h.disk_later; tell_later = h.tell_later; disk = λ of. absurd cc; tell = λ of. absurd cc }

-- what stopped a drain is one of its refusals
pub stop_kind : (stop : Stop) → IsDrainError (stopped_by stop)
stop_kind (stops.Host Disk) = inl refl
stop_kind (stops.Host Tell) = inl refl
stop_kind (stops.Host NoMemory) = inl refl
stop_kind (stops.Unreadable area name) = inr (inr refl)
