-- Where no queue file is unreadable to the engine, none is to a replay.
use Rattle.std.proofs.Common.{◌≡◌, false, refl, true, ℕ}
use Rattle.std.specs.Prelude.{◌||◌}
use Rattle.q_engine.specs.Beginnings.{is_of_spool}
use Rattle.q_engine.specs.Refusals.{is_of_host}
use Rattle.q_engine.specs.Refusals.{is_unreadable as is_engine_unreadable}
use Rattle.q_engine.specs.declared.error.EngineError.{EngineError}
use Rattle.q_engine.specs.declared.error.EngineError.TheVariants as engine_errors
use Rattle.q_events.specs.declared.error.EventError.{EventError}
use Rattle.q_events.specs.declared.error.EventError.TheVariants as event_errors
use Rattle.q_replay.specs.Takings.{is_unreadable, list_error, replay_error}

pub engine_readable : (line : ℕ) (error : EngineError) → is_engine_unreadable error ≡ false → is_unreadable (replay_error line error) ≡ false
engine_readable line engine_errors.Disk h = refl
engine_readable line engine_errors.Tell h = refl
engine_readable line engine_errors.NoMemory h = refl
engine_readable line (engine_errors.Unknown number) h = refl
engine_readable line (engine_errors.WrongCount number want got) h = refl
engine_readable line engine_errors.Untimed h = refl
engine_readable line (engine_errors.Limit bound) h = refl
engine_readable line (engine_errors.Damaged area name) h = refl
engine_readable line (engine_errors.Unreadable area name) h = absurd cc

-- a life begins on no such file
pub begun_readable : (line : ℕ) (error : EngineError) → (is_of_host error || is_of_spool error) ≡ true → is_unreadable (replay_error line error) ≡ false
begun_readable line engine_errors.Disk h = refl
begun_readable line engine_errors.Tell h = refl
begun_readable line engine_errors.NoMemory h = refl
begun_readable line (engine_errors.Unknown number) h = refl
begun_readable line (engine_errors.WrongCount number want got) h = refl
begun_readable line engine_errors.Untimed h = refl
begun_readable line (engine_errors.Limit bound) h = refl
begun_readable line (engine_errors.Damaged area name) h = refl
begun_readable line (engine_errors.Unreadable area name) h = absurd cc

-- nor does it end by one
pub ended_readable : (line : ℕ) (error : EngineError) → is_of_host error ≡ true → is_unreadable (replay_error line error) ≡ false
ended_readable line engine_errors.Disk h = refl
ended_readable line engine_errors.Tell h = refl
ended_readable line engine_errors.NoMemory h = refl
ended_readable line (engine_errors.Unknown number) h = refl
ended_readable line (engine_errors.WrongCount number want got) h = refl
ended_readable line engine_errors.Untimed h = refl
ended_readable line (engine_errors.Limit bound) h = refl
ended_readable line (engine_errors.Damaged area name) h = refl
ended_readable line (engine_errors.Unreadable area name) h = absurd cc

-- an event list is none
pub list_readable : (error : EventError) → is_unreadable (list_error error) ≡ false
list_readable event_errors.NoMemory = refl
list_readable event_errors.Source = refl
list_readable (event_errors.BadEvent line) = refl
list_readable (event_errors.Limit bound) = refl
