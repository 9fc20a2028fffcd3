-- A spool of which no message stands in active is at rest.
use Rattle.std.proofs.Common.{◌≡◌, ◌∙◌, ◌||◌, ◌&&◌, ℕ, Bool, true, false, not, List, is_some, inl, inr, Some, None, Option, refl, sym, ap, subst}
use Rattle.std.specs.Option.{option_map_or}
use Rattle.std.specs.Prelude.{find, map}
use Rattle.std.proofs.lemmas.Bool.{or_left, or_right}
use Rattle.q_laws.proofs.Members.{all_from, find_none, in_either, in_unmap, IsIn}
use Rattle.q_model.specs.declared.id.Id.{Id}
use Rattle.q_model.specs.declared.rows.Place.{Place}
use Rattle.q_model.specs.declared.rows.Place.TheVariants as places
use Rattle.q_model.specs.Book.{all_ids, Book, Damaged, damaged_of, message_of, stands, stands_in}
use Rattle.q_model.specs.FilesStand.{Stands}
use Rattle.q_model.specs.IdTexts.{IsId}
use Rattle.q_model.specs.Ids.{bounce_of, cause_of, id_eq}
use Rattle.q_model.specs.Message.{Message}
use Rattle.q_model.specs.Orderly.{is_orderly, is_paired, is_sealed}
use Rattle.q_model.specs.Places.{is_active, is_incoming}
use Rattle.q_model.specs.SpoolFiles.{file_at, Files}
use Rattle.q_model.proofs.IdLaws.{id_eq-refl}
use Rattle.q_model.proofs.StandChanges.{Stands-message}
use Rattle.q_restart.proofs.SoundBooks.{orderly-paired}
use Rattle.q_super.specs.Plays.{IsAtRest}
use Rattle.q_tools.specs.Resting.{HasNoneActive}

true_not : true ≡ false → ⊥
true_not e = cc

-- ---- who is listed stands

found_some : {A : Type 0} (p : A → Bool) (x : A) (xs : List A) → IsIn x xs → p x ≡ true → is_some (find p xs) ≡ true
found_some p x xs there passes = by (find p xs) refl
  where
    by : (o : Option _) → find p xs ≡ o → is_some o ≡ true
    by None e = absurd (true_not (sym passes ∙ find_none p x xs e there))
    by (Some y) e = refl

same_id : (i id : Id) → i ≡ id → id_eq i id ≡ true
same_id i id e = subst (λ (x : Id). id_eq x id ≡ true) (sym e) (id_eq-refl id)

listed_stands : (b : Book) (id : Id) → IsIn id (all_ids b) → stands b id ≡ true
listed_stands b id h = elim (in_either id (map (λ (m : Message). m.id) b.messages) (map (λ (d : Damaged). d.id) b.damaged) h) [
  | inl whole ↦
      let (m, there, same) = in_unmap (λ (m : Message). m.id) id b.messages whole in
      or_left (is_some (message_of b id)) (is_some (damaged_of b id)) (found_some (λ (x : Message). id_eq x.id id) m b.messages there (same_id m.id id same))
  | inr broken ↦
      let (d, there, same) = in_unmap (λ (d : Damaged). d.id) id b.damaged broken in
      or_right (is_some (message_of b id)) (is_some (damaged_of b id)) (found_some (λ (x : Damaged). id_eq x.id id) d b.damaged there (same_id d.id id same))
]

-- ---- a bounce and its message

not_active : (f : Files) (p : Place) (id : Id) (bytes : List ℕ) → HasNoneActive f → IsId id → file_at f p id ≡ Some bytes → is_active p ≡ false
not_active f places.Active id bytes none form there = absurd (true_not (sym (ap is_some there) ∙ none id form))
not_active f places.Incoming id bytes none form there = refl
not_active f (places.Deferred due) id bytes none form there = refl
not_active f places.Hold id bytes none form there = refl
not_active f places.Corrupt id bytes none form there = refl

module _ (f : Files) (b : Book) (stood : Stands f b) (none : HasNoneActive f) where
  -- no message stands in active
  none_sealed : (id : Id) (o : Option Message) → message_of b id ≡ o → option_map_or (λ m. is_active m.place && is_sealed m) o false ≡ false
  none_sealed id None is = refl
  none_sealed id (Some m) is =
      let s = (Stands-message f b id m stood is).0 in
      ap (λ t. t && is_sealed m) (not_active f m.place m.id s.bytes none s.id s.there)

  -- of a bounce that stands the cause doesn't
  alone : (here sealed cause : Bool) → sealed ≡ false → (not true || not cause || (here && sealed)) ≡ true → cause ≡ false
  alone here true cause is h = cc
  alone here false false is h = refl
  alone true false true is h = absurd (true_not (sym h))
  alone false false true is h = absurd (true_not (sym h))

  cause_gone : (id : Id) → id.bounce ≡ true → is_paired b id ≡ true → stands b (cause_of id) ≡ false
  cause_gone id bounce paired =
      alone (stands_in is_incoming b id) (option_map_or (λ m. is_active m.place && is_sealed m) (message_of b (cause_of id)) false) (stands b (cause_of id))
      (none_sealed (cause_of id) (message_of b (cause_of id)) refl)
      (subst (λ (t : Bool). (not t || not (stands b (cause_of id)) || (stands_in is_incoming b id && option_map_or (λ m. is_active m.place && is_sealed m) (message_of b (cause_of id)) false)) ≡ true) bounce paired)

  same_cause : (id : Id) → id.bounce ≡ false → cause_of (bounce_of id) ≡ id
  same_cause id plain = ap (λ (t : Bool). record id { bounce = t }) (sym plain)

  apart : is_orderly b ≡ true → (id : Id) → IsIn id (all_ids b) → (t : Bool) → id.bounce ≡ t → (s : Bool) → stands b (bounce_of id) ≡ s → (t || not s) ≡ true
  apart orderly id there true is s here = refl
  apart orderly id there false is false here = refl
  apart orderly id there false is true here =
      let gone = cause_gone (bounce_of id) refl (orderly-paired b (bounce_of id) orderly here) in
      absurd (true_not (sym (ap (stands b) (same_cause id is) ∙ listed_stands b id there) ∙ gone))

  pub at_rest : is_orderly b ≡ true → IsAtRest b
  at_rest orderly = record {
    orderly = orderly;
    unpaired = all_from (λ (id : Id). id.bounce || not (stands b (bounce_of id))) (all_ids b) (λ id there. apart orderly id there id.bounce refl (stands b (bounce_of id)) refl);
  }
