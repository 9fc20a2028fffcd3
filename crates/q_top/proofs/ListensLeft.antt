-- What a call leaves that listens.
use Rattle.std.proofs.Common.{◌≡◌, ◌++◌, ◌∷◌, [], List, refl, sym, ℕ}
use Rattle.std.specs.Prelude.{Err, Ok, Result}
use Rattle.q_host.specs.View.{View}
use Rattle.q_host.specs.declared.error.HostError.{HostError}
use Rattle.q_host.specs.declared.error.HostError.TheVariants as faults
use Rattle.q_laws.specs.Consistency.{IsUsable}
use Rattle.q_listen.specs.ListenEnds.{HasNoSerial, ListenEnds, Outsides, StopsBehind, StopsWithin}
use Rattle.q_listen.specs.Told.{life_told}
use Rattle.q_listen.specs.declared.listened.ListenError.{ListenError}
use Rattle.q_listen.specs.declared.listened.ListenError.TheVariants as errors
use Rattle.q_listen.specs.declared.listened.Listened.{Listened}
use Rattle.q_listen.specs.declared.listened.Listened.TheVariants.{All, Unfinished}
use Rattle.q_lives.specs.Lives.{IsOrderly}
use Rattle.q_model.specs.Book.{Book}
use Rattle.q_model.specs.Settings.{World}
use Rattle.q_model.specs.declared.event.LifeEvent.{LifeEvent}
use Rattle.q_model.specs.declared.event.LifeEvent.TheVariants.{Begin, Finish}
use Rattle.q_model.specs.declared.event.Mode.TheVariants.{Intake}
use Rattle.q_model.specs.declared.limits.Bound.TheVariants as bounds
use Rattle.q_replay.proofs.LivesLeft.{BeginsLife, halted_lives, played_lives}
use Rattle.q_replay.specs.LivesLeft.{LeavesLives}

-- the first items of a life begin it
front_begins : (more items rest : List LifeEvent) → Begin ∷ more ≡ items ++ rest → BeginsLife items
front_begins more [] rest is = tt
front_begins more (i ∷ items) rest is = let same : Begin ≡ i = cc in sym same

module _ (w : World) (b : Book) (port count : ℕ) (o : Outsides) (usable : IsUsable w) (orderly : IsOrderly b) (u v : View) where
  within_lives : (fault : HostError) → StopsWithin w b count o fault u v → LeavesLives b u v
  within_lives fault d =
      halted_lives w Intake b orderly usable d.items fault u v (front_begins _ d.items (d.front).0 (d.front).1) d.fits d.halts

  behind_lives : StopsBehind w b count o u v → LeavesLives b u v
  behind_lives d = played_lives w Intake b orderly usable (life_told (d.story).told) u v refl d.fits (d.told).plays

  no_serial_lives : HasNoSerial w b count o u v → LeavesLives b u v
  no_serial_lives d = played_lives w Intake b orderly usable (life_told (d.story).told) u v refl d.fits (d.told).plays

  -- however it ends
  pub listening_lives : (r : Result Listened ListenError) → ListenEnds w b port count o u v r → LeavesLives b u v
  listening_lives (Ok All) d = played_lives w Intake b orderly usable (life_told (d.story).told ++ Finish ∷ []) u v refl d.fits (d.told).plays
  listening_lives (Ok (Unfinished rests)) d = played_lives w Intake b orderly usable (life_told (d.story).told) u v refl d.fits (d.told).plays
  listening_lives (Err errors.Disk) d = within_lives faults.Disk d
  listening_lives (Err errors.Tell) d = within_lives faults.Tell d
  listening_lives (Err errors.NoMemory) d = within_lives faults.NoMemory d
  listening_lives (Err errors.Door) d = behind_lives d
  listening_lives (Err (errors.Limit bounds.Generation)) d = played_lives w Intake b orderly usable [] u v tt tt (d.1).plays
  listening_lives (Err (errors.Limit bounds.Content)) d = no_serial_lives d.1
  listening_lives (Err (errors.Limit bounds.Recipients)) d = no_serial_lives d.1
  listening_lives (Err (errors.Limit bounds.Serial)) d = no_serial_lives d.1
  listening_lives (Err (errors.Limit bounds.Input)) d = no_serial_lives d.1
  listening_lives (Err (errors.Limit bounds.Deliveries)) d = no_serial_lives d.1
  listening_lives (Err (errors.Damaged area name)) d = played_lives w Intake b orderly usable [] u v tt tt (d.0).plays
  listening_lives (Err (errors.Unreadable area name)) d = absurd d
