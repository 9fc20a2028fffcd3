-- A run that begins behind calls that only read.
use Rattle.std.proofs.Common.{[], inl, inr, List, Option, refl, subst, sym, ⊎_elim, ℕ}
use Rattle.std.specs.Prelude.{Err, Ok, Result}
use Rattle.q_books.specs.HostStands.{HostStands, TellsCrashes}
use Rattle.q_books.proofs.Calls.{stayed}
use Rattle.q_entries.specs.Runs.{PlaysRun}
use Rattle.q_entries.proofs.Playing.{halts_behind, plays_then}
use Rattle.q_host.specs.Calls.{Stays}
use Rattle.q_host.specs.View.{View}
use Rattle.q_host.specs.declared.error.HostError.{HostError}
use Rattle.q_host.specs.declared.error.HostError.TheVariants as faults
use Rattle.q_model.specs.Book.{Book}
use Rattle.q_model.specs.Ledger.{opening}
use Rattle.q_model.specs.Settings.{World}
use Rattle.q_model.specs.Step.{after_all}
use Rattle.q_model.specs.declared.entry.Entry.{Entry}
use Rattle.q_model.specs.declared.event.LifeEvent.{LifeEvent}
use Rattle.q_model.specs.declared.event.Mode.{Mode}
use Rattle.q_model.specs.declared.event.Mode.TheVariants.{Deliver}
use Rattle.q_replay.specs.AnyLists.{ListEnds, read_list, TakesList}
use Rattle.q_replay.specs.Reading.{items_in, read_text, TakenItems}
use Rattle.q_model.specs.SpoolFiles.{Files}
use Rattle.q_replay.specs.ReplayEnds.{IsFitSpool, ReplayEnds}
use Rattle.q_replay.specs.RunEnds.{entries_on, HaltsIn, IsTold, IsToldInPart, RunEnds}
use Rattle.q_replay.specs.declared.error.ReplayError.{ReplayError}
use Rattle.q_replay.specs.declared.error.ReplayError.TheVariants as errors
use Rattle.q_restart.specs.Damages.{IsDamage}
use Rattle.q_replay.proofs.Readings.{entries_none}
use Rattle.q_replay.proofs.RunSteps.{given_up, none_noted}
use Rattle.q_replay.proofs.Takings.{looked}

pub still_stands : (u m : View) → TellsCrashes u → Stays u m → (b : Book) → HostStands u b → HostStands m b
still_stands u m lawful stays b h = ⊎_elim (λ s. s) (λ s. s) (stayed b b u m lawful stays h).stands

-- a spool that is only looked at stays fit
pub still_fit : (u m : View) → TellsCrashes u → Stays u m → IsFitSpool u → IsFitSpool m
still_fit u m lawful stays (inl (b, h, orderly)) = inl (b, still_stands u m lawful stays b h, orderly)
still_fit u m lawful stays (inr (area, name, damage)) = inr (area, name, subst (λ (f : Files). IsDamage f area name) (sym stays.files) damage)

module _ (w : World) (mode : Mode) (b : Book) (u m : View) (lawful : TellsCrashes u) (stays : Stays u m) (h : HostStands u b) where
  -- nothing was told yet
  pub looked_first : PlaysRun w (opening mode b) [] u m
  looked_first = looked w (opening mode b) u m lawful h stays

  pub none_yet : IsTold w mode b [] u m
  none_yet = record {
    plays = subst (λ (es : List Entry). PlaysRun w (opening mode b) es u m) (sym (entries_none w mode b)) looked_first;
    notes = none_noted w mode b m;
  }

  -- and then the host failed, or memory ran out
  pub halts_first : (taken : TakenItems) (fault : HostError) → HaltsIn w mode b taken fault u m
  halts_first taken fault = ([], (items_in taken, refl), given_up w mode b [] fault u m none_yet)

  module _ (v : View) where
    pub told_behind : (items : List LifeEvent) → IsTold w mode b items m v → IsTold w mode b items u v
    unfolding after_all
    told_behind items told = record {
      plays = plays_then w (opening mode b) [] (entries_on w mode b items) u m v looked_first told.plays;
      notes = told.notes;
    }

    part_behind : (items : List LifeEvent) (fault : HostError) → IsToldInPart w mode b items fault m v → IsToldInPart w mode b items fault u v
    unfolding after_all
    part_behind items fault told = halts_behind w (opening mode b) [] (entries_on w mode b items) fault u m v looked_first told

    halts_in_behind : (taken : TakenItems) (fault : HostError) → HaltsIn w mode b taken fault m v → HaltsIn w mode b taken fault u v
    halts_in_behind taken fault r = (r.0, r.1, part_behind r.0 fault r.2)

    pub run_behind : (taken : TakenItems) (r : Result (Unit {0}) ReplayError) → RunEnds w mode b taken m v r → RunEnds w mode b taken u v r
    run_behind taken (Ok done) r = (r.0, r.1, told_behind r.0 r.2)
    run_behind taken (Err errors.Disk) r = halts_in_behind taken faults.Disk r
    run_behind taken (Err errors.Tell) r = halts_in_behind taken faults.Tell r
    run_behind taken (Err errors.NoMemory) r = halts_in_behind taken faults.NoMemory r
    run_behind taken (Err errors.Source) r = absurd r
    run_behind taken (Err (errors.Unreadable area name)) r = absurd r
    run_behind taken (Err (errors.BadEvent line)) r = (r.0, r.1, told_behind r.0 r.2)
    run_behind taken (Err (errors.Limit bound)) r = (r.0, r.1, told_behind r.0 r.2)
    run_behind taken (Err (errors.Damaged area name)) r = (r.0, r.1, told_behind r.0 r.2, r.3)

module _ (w : World) (b : Book) (u m : View) (lawful : TellsCrashes u) (stays : Stays u m) (h : HostStands u b) (bytes : List ℕ) (left : Option (List ℕ)) where
  pub replay_behind : (v : View) (r : Result (Unit {0}) ReplayError) → ReplayEnds w b bytes left m v r → ReplayEnds w b bytes left u v r
  replay_behind v (Err errors.Source) r = (r.0, r.1, told_behind w Deliver b u m lawful stays h v r.0 r.2)
  replay_behind v (Ok done) r = run_behind w Deliver b u m lawful stays h v (read_text w b bytes) (Ok done) r
  replay_behind v (Err errors.Disk) r = run_behind w Deliver b u m lawful stays h v (read_text w b bytes) (Err errors.Disk) r
  replay_behind v (Err errors.Tell) r = run_behind w Deliver b u m lawful stays h v (read_text w b bytes) (Err errors.Tell) r
  replay_behind v (Err errors.NoMemory) r = run_behind w Deliver b u m lawful stays h v (read_text w b bytes) (Err errors.NoMemory) r
  replay_behind v (Err (errors.BadEvent line)) r = run_behind w Deliver b u m lawful stays h v (read_text w b bytes) (Err (errors.BadEvent line)) r
  replay_behind v (Err (errors.Limit bound)) r = run_behind w Deliver b u m lawful stays h v (read_text w b bytes) (Err (errors.Limit bound)) r
  replay_behind v (Err (errors.Damaged area name)) r = run_behind w Deliver b u m lawful stays h v (read_text w b bytes) (Err (errors.Damaged area name)) r
  replay_behind v (Err (errors.Unreadable area name)) r = absurd r

pub list_behind : (w : World) (b : Book) (u m : View) → TellsCrashes u → Stays u m → HostStands u b → (v : View) (r : Result (Unit {0}) ReplayError) → TakesList w b m v r → TakesList w b u v r
list_behind w b u m lawful stays h v r takes = record { said = takes.said; form = takes.form; ends = by r takes.ends }
  where
    same : (r : Result (Unit {0}) ReplayError) → RunEnds w Deliver b (read_list w b takes.said) m v r → RunEnds w Deliver b (read_list w b takes.said) u v r
    same r e = run_behind w Deliver b u m lawful stays h v (read_list w b takes.said) r e

    by : (r : Result (Unit {0}) ReplayError) → ListEnds w b takes.said m v r → ListEnds w b takes.said u v r
    by (Err errors.Source) (items, line, is, told) = (items, line, is, told_behind w Deliver b u m lawful stays h v items told)
    by (Ok done) e = same (Ok done) e
    by (Err errors.Disk) e = same (Err errors.Disk) e
    by (Err errors.Tell) e = same (Err errors.Tell) e
    by (Err errors.NoMemory) e = same (Err errors.NoMemory) e
    by (Err (errors.BadEvent line)) e = same (Err (errors.BadEvent line)) e
    by (Err (errors.Limit bound)) e = same (Err (errors.Limit bound)) e
    by (Err (errors.Damaged area name)) e = same (Err (errors.Damaged area name)) e
    by (Err (errors.Unreadable area name)) e = absurd e
