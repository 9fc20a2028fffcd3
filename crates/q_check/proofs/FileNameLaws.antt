-- Which names message files have.
use Rattle.std.proofs.Common.{◌≡◌, ◌≢◌, ◌<◌, ◌^◌, ℕ, List, refl, sym, ◌∙◌}
use Rattle.q_model.specs.declared.id.Id.{Id}
use Rattle.q_model.specs.declared.rows.Place.{Place}
use Rattle.q_model.specs.declared.rows.Place.TheVariants as places
use Rattle.q_model.specs.declared.spot.Area.TheVariants as areas
use Rattle.q_model.specs.IdTexts.{due_text, id_text, IsId}
use Rattle.q_model.specs.SpoolFiles.{area_of, IsPlace, name_at}
use Rattle.q_check.specs.FileNames.{IsFileName, IsNoFileName}

pub deferred-name : (name : List ℕ) (due : ℕ) (id : Id) → due < 10 ^ 12 → IsId id → due_text due id ≡ name → IsFileName areas.Deferred name
deferred-name name due id small is_id is = record { id = id; place = places.Deferred due; is_id = is_id; is_place = small; area_is = refl; name_is = is }

pub deferred-none : (name : List ℕ) → ((due : ℕ) (id : Id) → due < 10 ^ 12 → IsId id → due_text due id ≢ name) → IsNoFileName areas.Deferred name
deferred-none name none h = by h.place h.is_place h.area_is h.name_is
  where
    by : (place : Place) → IsPlace place → area_of place ≡ areas.Deferred → name_at place h.id ≡ name → ⊥
    by places.Incoming small at is = cc
    by places.Active small at is = cc
    by (places.Deferred due) small at is = none due h.id small h.is_id is
    by places.Hold small at is = cc
    by places.Corrupt small at is = cc

-- at a place of a queue that isn't deferred the name is that of the id
plain_text : (place : Place) (id : Id) → area_of place ≢ areas.Deferred → name_at place id ≡ id_text id
plain_text places.Incoming id plain = refl
plain_text places.Active id plain = refl
plain_text (places.Deferred due) id plain = absurd (plain refl)
plain_text places.Hold id plain = refl
plain_text places.Corrupt id plain = refl

plain_place : (place : Place) → area_of place ≢ areas.Deferred → IsPlace place
plain_place places.Incoming plain = tt
plain_place places.Active plain = tt
plain_place (places.Deferred due) plain = absurd (plain refl)
plain_place places.Hold plain = tt
plain_place places.Corrupt plain = tt

pub plain-name : (name : List ℕ) (place : Place) (id : Id) → area_of place ≢ areas.Deferred → IsId id → id_text id ≡ name → IsFileName (area_of place) name
plain-name name place id plain is_id is = record { id = id; place = place; is_id = is_id; is_place = plain_place place plain; area_is = refl; name_is = plain_text place id plain ∙ is }

pub plain-none : (name : List ℕ) (place : Place) → area_of place ≢ areas.Deferred → ((id : Id) → IsId id → id_text id ≢ name) → IsNoFileName (area_of place) name
plain-none name place plain none h = none h.id h.is_id (sym (plain_text h.place h.id (λ e. plain (sym h.area_is ∙ e))) ∙ h.name_is)
