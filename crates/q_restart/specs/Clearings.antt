-- What is cleared away before a life begins: files in tmp, and logs of messages that are gone.
use Rattle.std.specs.Prelude.{◌≡◌, ◌≢◌, ◌⊎◌, Bool, false, List, None, true, ℕ}
use Rattle.q_model.specs.declared.id.Id.{Id}
use Rattle.q_model.specs.declared.spot.Area.{Area}
use Rattle.q_model.specs.declared.spot.Area.TheVariants as areas
use Rattle.q_model.specs.IdTexts.{id_text, IsId}
use Rattle.q_model.specs.SpoolFiles.{Files}
use Rattle.q_host.specs.View.{Goes, now, Remains, Step, View}

-- the reads, and all that a crash may leave, went on by one step
pub record GoesBy (step : Step) (v w : View) : Type 0 where
  pub reads : step (now v) (now w)
  pub goes : Goes step step v w

-- only files in tmp changed
pub record ChangesTmp (d c : Remains) : Type 0 where
  pub others : (a : Area) (n : List ℕ) → a ≢ areas.Tmp → c.files a n ≡ d.files a n
  pub told : c.told ≡ d.told

-- the areas of logs
abbrev pub IsLogArea : Area → Type 0
IsLogArea a = (a ≡ areas.Bounce) ⊎ (a ≡ areas.Defer)

-- a log of an id that isn't kept
pub record IsStray (keeps : Id → Bool) (a : Area) (n : List ℕ) : Type 0 where
  pub area_is : IsLogArea a
  pub id : Id
  pub form : IsId id
  pub name_is : id_text id ≡ n
  pub gone : keeps id ≡ false

-- some stray logs are gone, and nothing else changed
pub record DropsStrays (keeps : Id → Bool) (d c : Remains) : Type 0 where
  pub files : (a : Area) (n : List ℕ)
      → (c.files a n ≡ d.files a n) ⊎ (IsStray keeps a n × (c.files a n ≡ None))
  pub told : c.told ≡ d.told

abbrev pub Drops : (Id → Bool) → View → View → Type 0
Drops keeps = GoesBy (DropsStrays keeps)

-- files in tmp may have changed, and some stray logs are gone
pub record Cleans (keeps : Id → Bool) (d c : Remains) : Type 0 where
  pub files : (a : Area) (n : List ℕ) → a ≢ areas.Tmp
      → (c.files a n ≡ d.files a n) ⊎ (IsStray keeps a n × (c.files a n ≡ None))
  pub told : c.told ≡ d.told

-- a crash leaves of this failure log what reads give
abbrev pub IsSettled : View → List ℕ → Type 0
IsSettled v n = (c : Remains) → v.may_leave c → c.files areas.Bounce n ≡ v.files areas.Bounce n

-- the log of this name is gone where its id isn't kept, and sure where it is a failure log that is
pub record IsHandled (keeps : Id → Bool) (w : View) (a : Area) (n : List ℕ) : Type 0 where
  pub gone : (id : Id) → IsId id → id_text id ≡ n → keeps id ≡ false → w.files a n ≡ None
  pub settled : a ≡ areas.Bounce → (id : Id) → IsId id → id_text id ≡ n → keeps id ≡ true
      → IsSettled w n

-- so are all logs of an area
abbrev pub AreHandled : (Id → Bool) → View → Area → Type 0
AreHandled keeps w a = (n : List ℕ) → IsHandled keeps w a n

-- no name stands in the area
abbrev pub IsEmpty : Files → Area → Type 0
IsEmpty f a = (n : List ℕ) → f a n ≡ None

-- nothing is left that is to be cleared away, and the logs that are kept are sure
pub record IsClean (keeps : Id → Bool) (w : View) : Type 0 where
  pub tmp : IsEmpty w.files areas.Tmp
  pub failures : AreHandled keeps w areas.Bounce
  pub notes : AreHandled keeps w areas.Defer
