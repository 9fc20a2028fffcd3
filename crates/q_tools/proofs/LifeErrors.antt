-- How the life of a tool ends, and what its refusals name.
use Rattle.std.proofs.Common.{◌≡◌, ◌≤◌, ℕ, true, inl, inr, sym, subst}
use Rattle.std.specs.Prelude.{Err, Ok, Result}
use Rattle.q_engine.specs.declared.engine.Engine.{Engine}
use Rattle.q_host.specs.View.{View}
use Rattle.q_model.specs.Book.{Book}
use Rattle.q_model.specs.Ledger.{opening}
use Rattle.q_model.specs.Settings.{World}
use Rattle.q_model.specs.declared.event.Event.TheVariants as events
use Rattle.q_model.specs.declared.event.Mode.TheVariants.{Intake}
use Rattle.q_replay.proofs.DamagedSpools.{ends_only, none_only}
use Rattle.q_replay.proofs.IntakeEnds.{ends_same, read_same}
use Rattle.q_replay.proofs.IntakeEntries.{intake_world, opening_holds}
use Rattle.q_replay.specs.DamagedSpools.{NamesOnlyDamage}
use Rattle.q_replay.specs.Named.{is_of_host, IsRefusedBy, IsUnbegun}
use Rattle.q_replay.specs.Reading.{TakenItems}
use Rattle.q_replay.specs.RunEnds.{RunEnds}
use Rattle.q_replay.specs.declared.error.ReplayError.{ReplayError}
use Rattle.q_replay.specs.declared.error.ReplayError.TheVariants as errors
use Rattle.q_tools.specs.Lives.{life_taken, LifeEnds, tool_list}
use Rattle.q_tools.specs.Refusals.{IsLifeRefusal}
use Rattle.q_tools.proofs.LifeItems.{is_run}

-- what the life did with room for nothing is what the settings of the spool ask for
pub life_ends : (w : World) (b : Book) (moment : ℕ) (u v : View) (r : Result (Unit {0}) ReplayError) → moment ≤ 999990000000
    → RunEnds (intake_world w) Intake b (life_taken (intake_world w) b moment) u v r → LifeEnds w b moment u v r
life_ends w b moment u v r late h = by r (ends_same w b u v (life_taken w b moment) r (subst (λ (taken : TakenItems). RunEnds (intake_world w) Intake b taken u v r) (read_same w (opening Intake b) (tool_list moment) (opening_holds b)) h))
  where
    by : (r : Result (Unit {0}) ReplayError) → RunEnds w Intake b (life_taken w b moment) u v r → LifeEnds w b moment u v r
    by (Ok done) e = is_run w b moment late u v e
    by (Err error) e = e

pub life_only : (w : World) (b : Book) (moment : ℕ) (u v : View) (r : Result (Unit {0}) ReplayError) → LifeEnds w b moment u v r → NamesOnlyDamage v r
life_only w b moment u v (Ok done) e = none_only v done
life_only w b moment u v (Err error) e = ends_only w Intake b (life_taken w b moment) u v (Err error) e

-- ---- what a refusal names

pub host_life : (error : ReplayError) → is_of_host error ≡ true → IsLifeRefusal error
host_life errors.Disk h = tt
host_life errors.Tell h = tt
host_life errors.NoMemory h = tt
host_life (errors.Unreadable area name) h = tt
host_life errors.Source h = absurd cc
host_life (errors.BadEvent n) h = absurd cc
host_life (errors.Limit bound) h = absurd cc
host_life (errors.Damaged area name) h = absurd cc

pub life_begins : (error : ReplayError) → IsUnbegun error → IsLifeRefusal error
life_begins error (inl host) = host_life error host
life_begins error (inr (inl (area, name, is, some))) = subst IsLifeRefusal (sym is) some
life_begins error (inr (inr (is, some))) = subst IsLifeRefusal (sym is) some

-- a moment is never refused
pub moment_life : (engine : Engine) (moment : ℕ) (error : ReplayError) → IsRefusedBy 1 engine (events.At moment) error → IsLifeRefusal error
moment_life engine moment error (inl host) = host_life error host
moment_life engine moment error (inr (why, is, made)) = absurd cc
