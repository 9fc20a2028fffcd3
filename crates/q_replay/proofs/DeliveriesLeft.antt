-- What a call leaves that delivers by SMTP.
use Rattle.std.proofs.Common.{◌≡◌, List, [], ◌∷◌, ◌++◌, refl, sym}
use Rattle.std.specs.Prelude.{Err, Ok, Result}
use Rattle.q_drain.specs.Swept.{Outsides}
use Rattle.q_host.specs.View.{View}
use Rattle.q_host.specs.declared.error.HostError.{HostError}
use Rattle.q_host.specs.declared.error.HostError.TheVariants as faults
use Rattle.q_laws.specs.Consistency.{IsUsable}
use Rattle.q_lives.specs.Lives.{IsOrderly}
use Rattle.q_model.specs.Book.{Book}
use Rattle.q_model.specs.Settings.{World}
use Rattle.q_model.specs.declared.event.LifeEvent.{LifeEvent}
use Rattle.q_model.specs.declared.event.LifeEvent.TheVariants.{Begin, Finish}
use Rattle.q_model.specs.declared.event.Mode.TheVariants.{Deliver}
use Rattle.q_model.specs.declared.limits.Bound.TheVariants as bounds
use Rattle.q_replay.proofs.LivesLeft.{BeginsLife, halted_lives, played_lives}
use Rattle.q_replay.specs.Deliveries.{DeliveryEnds, HasNoNumber, life_told, StopsDelivering}
use Rattle.q_replay.specs.LivesLeft.{LeavesLives}
use Rattle.q_replay.specs.declared.deliveries.Delivered.{Delivered}
use Rattle.q_replay.specs.declared.deliveries.Delivered.TheVariants.{All, Unfinished}
use Rattle.q_replay.specs.declared.error.ReplayError.{ReplayError}
use Rattle.q_replay.specs.declared.error.ReplayError.TheVariants as errors

-- the first items of a life begin it
front_begins : (more items rest : List LifeEvent) → Begin ∷ more ≡ items ++ rest → BeginsLife items
front_begins more [] rest is = tt
front_begins more (i ∷ items) rest is = let same : Begin ≡ i = cc in sym same

module _ (w : World) (b : Book) (o : Outsides) (usable : IsUsable w) (orderly : IsOrderly b) (u v : View) where
  stopped_lives : (fault : HostError) → StopsDelivering w b o fault u v → LeavesLives b u v
  stopped_lives fault d =
      halted_lives w Deliver b orderly usable d.items fault u v (front_begins _ d.items (d.front).0 (d.front).1) d.fits d.halts

  full_lives : HasNoNumber w b o u v → LeavesLives b u v
  full_lives d = played_lives w Deliver b orderly usable (life_told d.story) u v refl d.fits d.plays

  -- however it ends
  pub delivery_lives : (r : Result Delivered ReplayError) → DeliveryEnds w b o u v r → LeavesLives b u v
  delivery_lives (Ok All) d = played_lives w Deliver b orderly usable (life_told d.story ++ Finish ∷ []) u v refl d.fits (d.told).plays
  delivery_lives (Ok (Unfinished rests)) d = played_lives w Deliver b orderly usable (life_told d.story) u v refl d.fits (d.told).plays
  delivery_lives (Err errors.Disk) d = stopped_lives faults.Disk d
  delivery_lives (Err errors.Tell) d = stopped_lives faults.Tell d
  delivery_lives (Err errors.NoMemory) d = stopped_lives faults.NoMemory d
  delivery_lives (Err (errors.Limit bounds.Generation)) d = played_lives w Deliver b orderly usable [] u v tt tt (d.1).plays
  delivery_lives (Err (errors.Limit bounds.Content)) d = full_lives d.1
  delivery_lives (Err (errors.Limit bounds.Recipients)) d = full_lives d.1
  delivery_lives (Err (errors.Limit bounds.Serial)) d = full_lives d.1
  delivery_lives (Err (errors.Limit bounds.Input)) d = full_lives d.1
  delivery_lives (Err (errors.Limit bounds.Deliveries)) d = full_lives d.1
  delivery_lives (Err (errors.Damaged area name)) d = played_lives w Deliver b orderly usable [] u v tt tt (d.0).plays
  delivery_lives (Err errors.Source) d = absurd d
  delivery_lives (Err (errors.Unreadable area name)) d = absurd d
  delivery_lives (Err (errors.BadEvent line)) d = absurd d
