-- What becomes of an engine's refusal.
use Rattle.q_engine.specs.declared.error.EngineError.{EngineError}
use Rattle.q_engine.specs.declared.error.EngineError.TheVariants as errors
use Rattle.q_engine.specs.declared.stop.Stop.{Stop}
use Rattle.q_engine.specs.declared.stop.Stop.TheVariants as stops
use Rattle.q_host.specs.declared.error.HostError.TheVariants as faults

-- one of its host stays, and so does an unreadable file; no other comes
abbrev pub stop_of : EngineError → Stop
stop_of errors.Disk = stops.Host faults.Disk
stop_of errors.Tell = stops.Host faults.Tell
stop_of (errors.Unreadable area name) = stops.Unreadable area name
stop_of _ = stops.Host faults.NoMemory
