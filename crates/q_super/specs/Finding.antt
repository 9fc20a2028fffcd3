-- Where a file of an id is found.
use Rattle.std.specs.Prelude.{◌≡◌, ◌<◌, ◌^◌, false, None, Option, Some, true, ℕ}
use Rattle.q_model.specs.declared.id.Id.{Id}
use Rattle.q_model.specs.declared.rows.Place.{Place}
use Rattle.q_model.specs.declared.rows.Place.TheVariants as places
use Rattle.q_model.specs.IdTexts.{IsId}
use Rattle.q_model.specs.SpoolFiles.{Files, IsPlace}
use Rattle.q_super.specs.declared.acts.Act.{Act}
use Rattle.q_super.specs.declared.standing.Standing.{Standing}
use Rattle.q_super.specs.Acts.{takes}
use Rattle.q_super.specs.Moves.{is_file}

abbrev pub standing : Id → Place → Standing
standing id place = record { id = id; place = place }

-- in deferred it is due from this moment on; None where none stands there
abbrev pub IsDueTime : Files → Id → Option ℕ → Type 0
IsDueTime f id (Some due) = is_file f (standing id (places.Deferred due)) ≡ true
IsDueTime f id None =
    (due : ℕ) → due < 10 ^ 12 → is_file f (standing id (places.Deferred due)) ≡ false

-- a place of an id from which the act takes messages
pub record IsSource (act : Act) (id : Id) (place : Place) : Type 0 where
  pub form : IsId id
  pub fits : IsPlace place
  pub from : takes act place ≡ true

-- the file stands there; None where none stands at any such place
abbrev pub IsFoundAt : Files → Act → Id → Option Place → Type 0
IsFoundAt f act id (Some place) = is_file f (standing id place) ≡ true
IsFoundAt f act id None =
    (place : Place) → IsSource act id place → is_file f (standing id place) ≡ false
