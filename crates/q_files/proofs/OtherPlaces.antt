-- Places in a spool that differ, and what changes when a file of one of them moves or goes.
use Rattle.std.proofs.Common.{◌≡◌, ◌≢◌, ◌∙◌, ℕ, Bool, true, false, List, None, refl, sym}
use Rattle.q_model.specs.declared.rows.Place.{Place}
use Rattle.q_model.specs.declared.rows.Place.TheVariants as places
use Rattle.q_model.specs.declared.spot.Area.{Area}
use Rattle.q_model.specs.declared.spot.Area.TheVariants as areas
use Rattle.q_model.specs.SpoolFiles.{area_of, Files}
use Rattle.q_model.proofs.StandLaws.{IsSameBut}
use Rattle.q_model.proofs.StandRenames.{IsRenamed, IsSpot, IsUnlinked}
use Rattle.q_host.specs.Files.{moved, same_place, without_file}
use Rattle.q_host.specs.Steps.{SameBut}
use Rattle.q_host.proofs.Puts.{put-here, put-other, same_place-true}

pub other_place : (a : Area) (n : List ℕ) (b : Area) (m : List ℕ) → (IsSpot a n b m → ⊥) → same_place a n b m ≡ false
other_place a n b m differ = by (same_place a n b m) refl
  where
    by : (t : Bool) → same_place a n b m ≡ t → t ≡ false
    by true e = absurd (differ (same_place-true a n b m e))
    by false e = refl

-- the same but at one place, in the words of the model
pub same_but : (f g : Files) (a : Area) (n : List ℕ) → SameBut a n f g → IsSameBut a n f g
same_but f g a n same b m not_tmp other = same b m (other_place a n b m (λ e. other (sym e.0, sym e.1)))

-- no queue is the area of deferral logs
pub not_defer : (p : Place) → areas.Defer ≢ area_of p
not_defer places.Incoming e = absurd cc
not_defer places.Active e = absurd cc
not_defer (places.Deferred due) e = absurd cc
not_defer places.Hold e = absurd cc
not_defer places.Corrupt e = absurd cc

pub moved_renamed : (f : Files) (a : Area) (n : List ℕ) (b : Area) (m : List ℕ) → IsRenamed a n b m f (moved f a n b m)
moved_renamed f a n b m = record {
  here = put-here (without_file f a n) b m (f a n);
  gone = λ differ. put-other (without_file f a n) b m (f a n) a n (other_place b m a n (λ e. differ (sym e.0, sym e.1))) ∙ put-here f a n None;
  others = λ c k from to. put-other (without_file f a n) b m (f a n) c k (other_place b m c k to) ∙ put-other f a n None c k (other_place a n c k from);
}

pub without_unlinked : (f : Files) (a : Area) (n : List ℕ) → IsUnlinked a n f (without_file f a n)
without_unlinked f a n = record { gone = put-here f a n None; others = λ c k differ. put-other f a n None c k (other_place a n c k differ) }
