-- What is told of an id, by what was found under it.
use Rattle.std.proofs.Common.{◌≡◌, ◌∙◌, ◌||◌, [], false, List, Option, Some, ℕ, ap, sym, true}
use Rattle.std.specs.Option.{option_map_or}
use Rattle.std.specs.Prelude.{is_some, unwrap_or}
use Rattle.q_model.specs.declared.id.Id.{Id}
use Rattle.q_model.specs.declared.rows.Place.{Place}
use Rattle.q_model.specs.Book.{Book, Damaged, damaged_of, stands}
use Rattle.q_model.specs.Message.{Message}
use Rattle.q_model.specs.SpoolFiles.{Files}
use Rattle.q_model.specs.Values.{Spot}
use Rattle.q_show.specs.declared.finding.Damage.{Damage}
use Rattle.q_show.specs.declared.finding.Sought.TheVariants as sought
use Rattle.q_show.specs.Finding.{IsSought}
use Rattle.q_show.specs.Shown.{bytes_text, damaged_text, message_text, shown_text}
use Rattle.q_walk.specs.declared.walk.Found.{Found}

abbrev text_by : Files → Option Message → Option Damaged → List ℕ
text_by f m d = option_map_or (message_text f) m (option_map_or (damaged_text f) d [])

module _ (f : Files) (b : Book) (id : Id) where
  pub text_found : (found : Found) (s : IsSought f b id (sought.Message found)) → message_text f s.0 ≡ shown_text f b id
  text_found found s = sym (ap (λ (o : Option Message). text_by f o (damaged_of b id)) s.1)

  pub stands_found : (found : Found) → IsSought f b id (sought.Message found) → true ≡ stands b id
  stands_found found s = sym (ap (λ (o : Option Message). is_some o || is_some (damaged_of b id)) s.1)

  pub text_damaged : (damage : Damage) (s : IsSought f b id (sought.Damaged damage)) → bytes_text damage.place damage.id s.2 ≡ shown_text f b id
  text_damaged damage s =
      let d : Damaged = s.1 in
      ap (λ (p : Place). bytes_text p damage.id s.2) s.5.same_place ∙ ap (λ (i : Id). bytes_text d.place i s.2) s.5.same_id
      ∙ sym (ap (λ (o : Option (List ℕ)). bytes_text d.place d.id (unwrap_or o [])) s.4)
      ∙ sym (ap (λ (o : Option Message). text_by f o (damaged_of b id)) s.0 ∙ ap (λ (o : Option Damaged). option_map_or (damaged_text f) o []) s.3)

  pub stands_damaged : (damage : Damage) → IsSought f b id (sought.Damaged damage) → true ≡ stands b id
  stands_damaged damage s = sym (ap (λ (o : Option Message). is_some o || is_some (damaged_of b id)) s.0 ∙ ap (λ (o : Option Damaged). is_some o) s.3)

  -- its bytes stand at the spot
  pub damage_there : (damage : Damage) (s : IsSought f b id (sought.Damaged damage)) → f damage.spot.area damage.spot.name ≡ Some s.2
  damage_there damage s = ap (λ (x : Spot). f x.area x.name) s.5.spot ∙ s.4

  pub text_nothing : IsSought f b id sought.Nothing → [] ≡ shown_text f b id
  text_nothing s = sym (ap (λ (o : Option Message). text_by f o (damaged_of b id)) s.0 ∙ ap (λ (o : Option Damaged). option_map_or (damaged_text f) o []) s.1)

  pub stands_nothing : IsSought f b id sought.Nothing → false ≡ stands b id
  stands_nothing s = sym (ap (λ (o : Option Message). is_some o || is_some (damaged_of b id)) s.0 ∙ ap (λ (o : Option Damaged). is_some o) s.1)
