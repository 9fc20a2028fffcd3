-- The three damages that keep a spool from being opened, and what one is named by.
use Rattle.std.specs.Option.{option_map, option_map_or, option_or}
use Rattle.std.specs.Prelude.{◌≡◌, ◌++◌, ◌+◌, ◌^◌, ◌-◌, ◌<◌, ◌⊎◌, ◌&&◌, [], Bool, false, find, if◌then◌else◌, is_none, is_some, List, None, not, Option, slice_get, Some, ℕ, ◌∷◌}
use Rattle.q_model.specs.declared.spot.Area.{Area}
use Rattle.q_model.specs.declared.spot.Area.TheVariants as areas
use Rattle.q_model.specs.Ids.{cause_of}
use Rattle.q_model.specs.Places.{is_active, is_incoming}
use Rattle.q_model.specs.SpoolFiles.{Files}
use Rattle.q_model.specs.Values.{Spot}
use Rattle.q_books.specs.Spots.{spot_of}
use Rattle.q_restart.specs.declared.standing.Standing.{Standing}
use Rattle.q_restart.specs.Generations.{boot_generation, generation_of}
use Rattle.q_restart.specs.Walks.{AreAllNames, IsWalk, standing_place}

-- the first name in boot that is no generation, else the second name
abbrev pub boot_damage : List (List ℕ) → Option (List ℕ)
boot_damage names =
    option_or (find (λ name. is_none (generation_of name)) names) (slice_get names 1)

-- the first file of a walk whose id stands in front of it
abbrev pub repeated_behind : List Standing → List Standing → Option Standing
repeated_behind front [] = None
repeated_behind front (s ∷ rest) =
    if is_some (standing_place front s.id) then Some s else repeated_behind (front ++ s ∷ []) rest

-- a bounce stands together with its cause, other than in incoming with the cause in active
abbrev pub is_mispaired : List Standing → Standing → Bool
is_mispaired walk s = s.id.bounce
    && option_map_or (λ cause. not (is_incoming s.place && is_active cause))
    (standing_place walk (cause_of s.id)) false

abbrev pub standing_spot : Standing → Spot
standing_spot s = spot_of s.place s.id

-- what is named of these files of messages
abbrev pub walk_damage : List Standing → Option Spot
walk_damage walk =
    option_map standing_spot (option_or (repeated_behind [] walk) (find (is_mispaired walk) walk))

abbrev pub boot_spot : List ℕ → Spot
boot_spot name = record { area = areas.Boot; name = name }

-- what is named of a spool with these names in boot and these files of messages
abbrev pub damage_of : List (List ℕ) → List Standing → Option Spot
damage_of boot walk = option_or (option_map boot_spot (boot_damage boot)) (walk_damage walk)

-- what the files of a spool show to one who opens it
pub record SpoolShows (f : Files) (boot : List (List ℕ)) (walk : List Standing) : Type 0 where
  pub names : AreAllNames (f areas.Boot) boot
  pub files : IsWalk f walk

-- the spool is damaged, and this file is named
pub record IsDamage (f : Files) (area : Area) (name : List ℕ) : Type 0 where
  pub boot : List (List ℕ)
  pub walk : List Standing
  pub shows : SpoolShows f boot walk
  pub is : damage_of boot walk ≡ Some (record { area = area; name = name })

-- the spool has no damage
abbrev pub IsUndamaged : Files → Type 0
IsUndamaged f = (area : Area) (name : List ℕ) → IsDamage f area name → ⊥

-- the spool has no damage, and its last generation is this
pub record IsIntact (f : Files) (generation : ℕ) : Type 0 where
  pub boot : List (List ℕ)
  pub walk : List Standing
  pub shows : SpoolShows f boot walk
  pub sound : damage_of boot walk ≡ None
  pub last : boot_generation boot ≡ generation

-- every generation was used
abbrev pub IsSpent : Files → Type 0
IsSpent f = IsIntact f (2 ^ 32 - 1)

-- no life can begin: a damage shows, or every generation was used
abbrev pub CannotBegin : Files → Type 0
CannotBegin f = ((area : Area) × (name : List ℕ) × IsDamage f area name) ⊎ IsSpent f

-- another generation can begin, and it is this
pub record IsNextGeneration (f : Files) (generation : ℕ) : Type 0 where
  pub last : ℕ
  pub whole : IsIntact f last
  pub next : generation ≡ last + 1
  pub fits : generation < 2 ^ 32
