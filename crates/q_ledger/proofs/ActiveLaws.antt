-- Who is in active and not in memory, as a message goes to another queue or is gone.
use Rattle.std.proofs.Common.{◌≡◌, Bool, true, false, cond, not, List, [], ◌∷◌, ◌++◌, map, filter, find, Option, Some, inl, inr, refl, sym, ap, ◌∙◌, if◌then◌else◌}
use Rattle.std.specs.List.{list_any}
use Rattle.std.specs.Prelude.{◌||◌}
use Rattle.q_laws.proofs.Books.{message_in, not_damaged}
use Rattle.q_laws.proofs.Distinct.{id_eq-sym}
use Rattle.q_laws.proofs.Members.{IsIn, in_filtered, in_unmap}
use Rattle.q_ledger.specs.Changed.{ids_without, stood_at}
use Rattle.q_model.proofs.IdLaws.{id_eq-true}
use Rattle.q_model.specs.declared.id.Id.{Id}
use Rattle.q_model.specs.declared.rows.Admitted.{Admitted}
use Rattle.q_model.specs.declared.rows.Place.{Place}
use Rattle.q_model.specs.Book.{all_ids, Book, Damaged, message_of}
use Rattle.q_model.specs.Finishing.{without}
use Rattle.q_model.specs.Ids.{are_distinct, id_eq}
use Rattle.q_model.specs.Message.{Message}
use Rattle.q_model.specs.Places.{is_active}

-- the ids of those in active
abbrev pub active_ids : List Message → List Id
active_ids ms = map (λ (m : Message). m.id) (filter (λ (m : Message). is_active m.place) ms)

-- those of damaged files
abbrev pub damaged_active : Book → List Id
damaged_active b = map (λ (d : Damaged). d.id) (filter (λ (d : Damaged). is_active d.place) b.damaged)

names_cond : (b : Bool) (m : Message) (ms : List Message) → map (λ (x : Message). x.id) (cond b (m ∷ ms) ms) ≡ cond b (m.id ∷ map (λ (x : Message). x.id) ms) (map (λ (x : Message). x.id) ms)
names_cond true m ms = refl
names_cond false m ms = refl

-- ---- a list without an id

kept_other : (id i : Id) (ids : List Id) (b : Bool) → id_eq i id ≡ false → ids_without id (cond b (i ∷ ids) ids) ≡ cond b (i ∷ ids_without id ids) (ids_without id ids)
kept_other id i ids true e = ap (λ t. cond (not t) (i ∷ ids_without id ids) (ids_without id ids)) e
kept_other id i ids false e = refl

dropped_same : (id i : Id) (ids : List Id) (b : Bool) → id_eq i id ≡ true → ids_without id (cond b (i ∷ ids) ids) ≡ ids_without id ids
dropped_same id i ids true e = ap (λ t. cond (not t) (i ∷ ids_without id ids) (ids_without id ids)) e
dropped_same id i ids false e = refl

-- ---- the messages in active

moved_step : (id : Id) (place : Place) (m : Message) (ms : List Message) → is_active place ≡ false → active_ids (map (stood_at id place) ms) ≡ ids_without id (active_ids ms) → (b : Bool) → id_eq m.id id ≡ b →
    active_ids ((if b then record m { place = place } else m) ∷ map (stood_at id place) ms) ≡ ids_without id (active_ids (m ∷ ms))
moved_step id place m ms out rest true e =
    ap (λ a. map (λ (x : Message). x.id) (cond a (record m { place = place } ∷ filter (λ (x : Message). is_active x.place) (map (stood_at id place) ms)) (filter (λ (x : Message). is_active x.place) (map (stood_at id place) ms)))) out
    ∙ rest ∙ sym (ap (ids_without id) (names_cond (is_active m.place) m (filter (λ (x : Message). is_active x.place) ms)) ∙ dropped_same id m.id (active_ids ms) (is_active m.place) e)
moved_step id place m ms out rest false e =
    names_cond (is_active m.place) m (filter (λ (x : Message). is_active x.place) (map (stood_at id place) ms))
    ∙ ap (λ (ids : List Id). cond (is_active m.place) (m.id ∷ ids) ids) rest
    ∙ sym (ap (ids_without id) (names_cond (is_active m.place) m (filter (λ (x : Message). is_active x.place) ms)) ∙ kept_other id m.id (active_ids ms) (is_active m.place) e)

-- the message has gone to a queue that isn't active
pub moved_out : (id : Id) (place : Place) → is_active place ≡ false → (ms : List Message) → active_ids (map (stood_at id place) ms) ≡ ids_without id (active_ids ms)
moved_out id place out [] = refl
moved_out id place out (m ∷ ms) = moved_step id place m ms out (moved_out id place out ms) (id_eq m.id id) refl

removed_step : (id : Id) (m : Message) (ms : List Message) → active_ids (filter (λ (x : Message). not (id_eq x.id id)) ms) ≡ ids_without id (active_ids ms) → (b : Bool) → id_eq m.id id ≡ b →
    active_ids (cond (not b) (m ∷ filter (λ (x : Message). not (id_eq x.id id)) ms) (filter (λ (x : Message). not (id_eq x.id id)) ms)) ≡ ids_without id (active_ids (m ∷ ms))
removed_step id m ms rest true e =
    rest ∙ sym (ap (ids_without id) (names_cond (is_active m.place) m (filter (λ (x : Message). is_active x.place) ms)) ∙ dropped_same id m.id (active_ids ms) (is_active m.place) e)
removed_step id m ms rest false e =
    names_cond (is_active m.place) m (filter (λ (x : Message). is_active x.place) (filter (λ (x : Message). not (id_eq x.id id)) ms))
    ∙ ap (λ (ids : List Id). cond (is_active m.place) (m.id ∷ ids) ids) rest
    ∙ sym (ap (ids_without id) (names_cond (is_active m.place) m (filter (λ (x : Message). is_active x.place) ms)) ∙ kept_other id m.id (active_ids ms) (is_active m.place) e)

-- the message is gone
pub removed_out : (id : Id) (ms : List Message) → active_ids (filter (λ (m : Message). not (id_eq m.id id)) ms) ≡ ids_without id (active_ids ms)
removed_out id [] = refl
removed_out id (m ∷ ms) = removed_step id m ms (removed_out id ms) (id_eq m.id id) refl

-- ---- those that pass a test, without the id

damaged_out : (id : Id) (p q : Id → Bool) → ((i : Id) → id_eq i id ≡ false → q i ≡ p i) → (ds : List Id) → ((i : Id) → IsIn i ds → id_eq i id ≡ false) → filter q ds ≡ ids_without id (filter p ds)
damaged_out id p q same [] other = refl
damaged_out id p q same (d ∷ ds) other =
    let e = other d (inl refl) in
    ap (λ b. cond b (d ∷ filter q ds) (filter q ds)) (same d e)
    ∙ ap (λ (ids : List Id). cond (p d) (d ∷ ids) ids) (damaged_out id p q same ds (λ i k. other i (inr k)))
    ∙ sym (kept_other id d (filter p ds) (p d) e)

out_step : (id : Id) (p q : Id → Bool) (x : Id) (xs ds : List Id) → ((i : Id) → id_eq i id ≡ false → q i ≡ p i) → filter q (ids_without id xs ++ ds) ≡ ids_without id (filter p (xs ++ ds)) → (t : Bool) → id_eq x id ≡ t →
    filter q (cond (not t) (x ∷ ids_without id xs) (ids_without id xs) ++ ds) ≡ ids_without id (filter p (x ∷ (xs ++ ds)))
out_step id p q x xs ds same rest true e = rest ∙ sym (dropped_same id x (filter p (xs ++ ds)) (p x) e)
out_step id p q x xs ds same rest false e =
    ap (λ b. cond b (x ∷ filter q (ids_without id xs ++ ds)) (filter q (ids_without id xs ++ ds))) (same x e)
    ∙ ap (λ (ids : List Id). cond (p x) (x ∷ ids) ids) rest
    ∙ sym (kept_other id x (filter p (xs ++ ds)) (p x) e)

pub filter_out : (id : Id) (p q : Id → Bool) → ((i : Id) → id_eq i id ≡ false → q i ≡ p i) → (xs ds : List Id) → ((i : Id) → IsIn i ds → id_eq i id ≡ false) → filter q (ids_without id xs ++ ds) ≡ ids_without id (filter p (xs ++ ds))
filter_out id p q same [] ds other = damaged_out id p q same ds other
filter_out id p q same (x ∷ xs) ds other = out_step id p q x xs ds same (filter_out id p q same xs ds other) (id_eq x id) refl

-- no damaged file has the id of a message
pub other_damaged : (b : Book) (id : Id) (m : Message) → are_distinct (all_ids b) ≡ true → message_of b id ≡ Some m → (i : Id) → IsIn i (damaged_active b) → id_eq i id ≡ false
other_damaged b id m distinct there i inside = which (id_eq i id) refl
  where
    which : (t : Bool) → id_eq i id ≡ t → t ≡ false
    which false e = refl
    which true e =
        let d = in_unmap (λ (x : Damaged). x.id) i (filter (λ (x : Damaged). is_active x.place) b.damaged) inside in
        let here = message_in b id m there in
        absurd (not_damaged b distinct m d.0 here.0 (in_filtered (λ (x : Damaged). is_active x.place) d.0 b.damaged d.1).0 (here.1 ∙ sym (d.2 ∙ id_eq-true i id e)))

-- ---- those in memory without one

any_step : (id i : Id) (a : Admitted) (few all : Bool) → id_eq i id ≡ false → few ≡ all → (t : Bool) → id_eq a.id id ≡ t → (xs : List Admitted) → list_any (λ (x : Admitted). id_eq x.id i) xs ≡ few →
    list_any (λ (x : Admitted). id_eq x.id i) (cond (not t) (a ∷ xs) xs) ≡ (id_eq a.id i || all)
any_step id i a few all other same true e xs h =
    let skip : id_eq a.id i ≡ false = ap (λ (j : Id). id_eq j i) (id_eq-true a.id id e) ∙ id_eq-sym i id other in
    h ∙ same ∙ sym (ap (λ b. b || all) skip)
any_step id i a few all other same false e xs h = ap (λ b. id_eq a.id i || b) (h ∙ same)

pub others_admitted : (id i : Id) → id_eq i id ≡ false → (xs : List Admitted) → list_any (λ (a : Admitted). id_eq a.id i) (without id xs) ≡ list_any (λ (a : Admitted). id_eq a.id i) xs
others_admitted id i other [] = refl
others_admitted id i other (a ∷ xs) =
    any_step id i a (list_any (λ (x : Admitted). id_eq x.id i) (without id xs)) (list_any (λ (x : Admitted). id_eq x.id i) xs) other (others_admitted id i other xs) (id_eq a.id id) refl (without id xs) refl

found_step : (id i : Id) (a : Admitted) (all : Option Admitted) → id_eq i id ≡ false → (t : Bool) → id_eq a.id id ≡ t → (xs : List Admitted) → find (λ (x : Admitted). id_eq x.id i) xs ≡ all →
    find (λ (x : Admitted). id_eq x.id i) (cond (not t) (a ∷ xs) xs) ≡ cond (id_eq a.id i) (Some a) all
found_step id i a all other true e xs h =
    let skip : id_eq a.id i ≡ false = ap (λ (j : Id). id_eq j i) (id_eq-true a.id id e) ∙ id_eq-sym i id other in
    h ∙ sym (ap (λ b. cond b (Some a) all) skip)
found_step id i a all other false e xs h = ap (cond (id_eq a.id i) (Some a)) h

pub others_found : (id i : Id) → id_eq i id ≡ false → (xs : List Admitted) → find (λ (a : Admitted). id_eq a.id i) (without id xs) ≡ find (λ (a : Admitted). id_eq a.id i) xs
others_found id i other [] = refl
others_found id i other (a ∷ xs) = found_step id i a (find (λ (x : Admitted). id_eq x.id i) xs) other (id_eq a.id id) refl (without id xs) (others_found id i other xs)
