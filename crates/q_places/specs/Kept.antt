-- What is kept of places in queue files.
use Rattle.std.specs.BTreeMap.{BTreeMap, get}
use Rattle.std.specs.Option.{option_and_then, option_map}
use Rattle.std.specs.Ordering.{bool_cmp, nat_cmp, ordering_then}
use Rattle.std.specs.declared.cmp.Ordering.{Ordering}
use Rattle.std.specs.Prelude.{◌≡◌, ◌⊎◌, List, Option, slice_get, Some, ℕ}
use Rattle.q_model.specs.declared.id.Id.{Id}
use Rattle.q_model.specs.Values.{Taken}
use Rattle.q_places.specs.declared.places.KeptFile.{KeptFile}
use Rattle.q_places.specs.declared.places.Places.{Places}
use Rattle.q_places.specs.declared.places.Progress.{Progress}

-- the order in which messages are kept
abbrev pub kept_order : Id → Id → Ordering
kept_order a b = ordering_then (nat_cmp a.generation b.generation)
    (ordering_then (nat_cmp a.serial b.serial) (bool_cmp a.bounce b.bounce))

-- what is kept of a message
abbrev pub kept_file : Places → Id → Option KeptFile
kept_file places id = get kept_order places.files id

-- how far it was read
abbrev pub kept_progress : Places → Id → Option Progress
kept_progress places id = option_map (λ f. f.progress) (kept_file places id)

-- the offset of the mark of one of its recipients
abbrev pub kept_mark : Places → Id → ℕ → Option ℕ
kept_mark places id position = option_and_then (λ f. get nat_cmp f.marks position) (kept_file places id)

-- what is kept was kept before
pub record IsFewer (old new : Places) : Type 0 where
  pub marks : (id : Id) (position at : ℕ) → kept_mark new id position ≡ Some at
      → kept_mark old id position ≡ Some at
  pub progress : (id : Id) (p : Progress) → kept_progress new id ≡ Some p
      → kept_progress old id ≡ Some p

-- the mark of this position stands at this offset, by one of these recipients
pub record IsTakenAt (taken : List Taken) (position at : ℕ) : Type 0 where
  pub index : ℕ
  pub recipient : Taken
  pub here : slice_get taken index ≡ Some recipient
  pub same_position : recipient.position ≡ position
  pub same_offset : recipient.mark_at ≡ at

-- an offset was there before, or is that of one of these recipients
abbrev pub AddsMarks : List Taken → BTreeMap ℕ ℕ → BTreeMap ℕ ℕ → Type 0
AddsMarks taken old new = (position at : ℕ) → get nat_cmp new position ≡ Some at
    → (get nat_cmp old position ≡ Some at) ⊎ IsTakenAt taken position at

-- what is kept was kept before, or is of this message and was put in
pub record IsPutIn (id : Id) (read : Progress) (taken : List Taken) (old new : Places) : Type 0 where
  pub marks : (i : Id) (position at : ℕ) → kept_mark new i position ≡ Some at
      → (kept_mark old i position ≡ Some at) ⊎ ((i ≡ id) × IsTakenAt taken position at)
  pub progress : (i : Id) (p : Progress) → kept_progress new i ≡ Some p
      → (kept_progress old i ≡ Some p) ⊎ ((i ≡ id) × (p ≡ read))
