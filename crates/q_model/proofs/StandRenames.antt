-- Files that stand for a book, when one file of an id moves, goes, or moves to corrupt, and when only Tmp changes.
use Rattle.std.proofs.Common.{◌≡◌, ◌≢◌, ℕ, Bool, true, false, ◌&&◌, List, map, Option, Some, None, refl, sym, ap, subst, ◌∙◌}
use Rattle.std.specs.List.{AllByRecursion, list_any}
use Rattle.std.proofs.lemmas.Bool.{and_parts, false_from_ne_true, or_from}
use Rattle.q_model.specs.declared.id.Id.{Id}
use Rattle.q_model.specs.declared.rows.Place.{Place}
use Rattle.q_model.specs.declared.spot.Area.{Area}
use Rattle.q_model.specs.declared.spot.Area.TheVariants as areas
use Rattle.q_model.specs.Book.{Book, Damaged, message_of, stands_in}
use Rattle.q_model.specs.BookChanges.{move_message, remove_message}
use Rattle.q_model.specs.FilesStand.{DamagedStands, MessageStands, Stands}
use Rattle.q_model.specs.Ids.{id_eq}
use Rattle.q_model.specs.IdTexts.{id_text, IsId}
use Rattle.q_model.specs.Message.{Message}
use Rattle.q_model.specs.Places.{is_corrupt, place_eq}
use Rattle.q_model.specs.SpoolFiles.{area_of, file_at, Files, IsPlace, name_at}
use Rattle.q_model.proofs.EachLaws.{each-none, each-same, each-unmap, none-each}
use Rattle.q_model.proofs.SpotLaws.{area_of-IsQueue, place_eq-refl, place_eq-true, same_spot}
use Rattle.q_model.proofs.StandChanges.{any-found, distinct-behind, distinct-front, IsOnly, only_one, Stands-message}
use Rattle.q_model.proofs.StandLaws.{BootStands-kept, DamagedStands-kept, MessageStands-kept, true_false}
use Rattle.q_model.proofs.StandMoves.{ChangesOnly, Stands-move, Stands-remove}

-- the same in all areas but Tmp
pub Stands-kept : (f g : Files) (b : Book) → ((a : Area) (n : List ℕ) → a ≢ areas.Tmp → g a n ≡ f a n) → Stands f b → Stands g b
Stands-kept f g b same h = record {
  boot = BootStands-kept f g b.generation (λ n. same areas.Boot n (λ e. absurd cc)) h.boot;
  distinct = h.distinct;
  messages = each-same (MessageStands f) (MessageStands g) b.messages (λ m k. MessageStands-kept f g m (same (area_of m.place) (name_at m.place m.id) (area_of-IsQueue m.place).not_tmp) (same areas.Bounce (id_text m.id) (λ e. absurd cc)) k) h.messages;
  damaged = each-same (DamagedStands f) (DamagedStands g) b.damaged (λ d k. DamagedStands-kept f g d (same (area_of d.place) (name_at d.place d.id) (area_of-IsQueue d.place).not_tmp) k) h.damaged;
  nothing_else = λ place i bytes hi hp there. h.nothing_else place i bytes hi hp (sym (same (area_of place) (name_at place i) (area_of-IsQueue place).not_tmp) ∙ there);
}

-- ---- a message's file stands at its place alone

-- where nothing of the book stands there is no file
pub nowhere_else : (f : Files) (b : Book) (id : Id) → Stands f b → IsId id → (place : Place) → IsPlace place → stands_in (place_eq place) b id ≡ false → file_at f place id ≡ None
nowhere_else f b id h hid place hp none = by (file_at f place id) refl
  where
    by : (o : Option (List ℕ)) → file_at f place id ≡ o → o ≡ None
    by None e = refl
    by (Some bytes) e = absurd (true_false (stands_in (place_eq place) b id) (h.nothing_else place id bytes hid hp e) none)

pub only_place : (f : Files) (b : Book) (id : Id) (m : Message) → Stands f b → message_of b id ≡ Some m → IsId id → (place : Place) → IsPlace place → m.place ≢ place → file_at f place id ≡ None
only_place f b id m h found hid place hp differ = nowhere_else f b id h hid place hp (or_from (list_any (λ (x : Message). id_eq x.id id && place_eq place x.place) b.messages) (list_any (λ (x : Damaged). id_eq x.id id && place_eq place x.place) b.damaged) no_message no_damaged)
  where
    here : AllByRecursion (IsOnly id m) b.messages
    here = only_one b.messages id m (distinct-front (map (λ (x : Message). x.id) b.messages) (map (λ (x : Damaged). x.id) b.damaged) h.distinct) found

    no_message : list_any (λ (x : Message). id_eq x.id id && place_eq place x.place) b.messages ≡ false
    no_message = each-none (λ (x : Message). id_eq x.id id && place_eq place x.place) b.messages (each-same (IsOnly id m) (λ x. (id_eq x.id id && place_eq place x.place) ≡ false) b.messages (λ x only. false_from_ne_true (id_eq x.id id && place_eq place x.place) (λ both.
        let two = and_parts (id_eq x.id id) (place_eq place x.place) both in
        differ (sym (place_eq-true place x.place two.1 ∙ ap (λ (y : Message). y.place) (only two.0))))) here)

    none : list_any (λ (i : Id). id_eq i id) (map (λ (x : Damaged). x.id) b.damaged) ≡ false
    none = distinct-behind (map (λ (x : Message). x.id) b.messages) (map (λ (x : Damaged). x.id) b.damaged) id h.distinct (any-found b.messages id m found)

    no_damaged : list_any (λ (x : Damaged). id_eq x.id id && place_eq place x.place) b.damaged ≡ false
    no_damaged = each-none (λ (x : Damaged). id_eq x.id id && place_eq place x.place) b.damaged (each-same (λ x. id_eq x.id id ≡ false) (λ x. (id_eq x.id id && place_eq place x.place) ≡ false) b.damaged (λ x other. false_from_ne_true (id_eq x.id id && place_eq place x.place) (λ both. true_false (id_eq x.id id) (and_parts (id_eq x.id id) (place_eq place x.place) both).0 other))
        (each-unmap (λ i. id_eq i id ≡ false) (λ (d : Damaged). d.id) b.damaged (none-each (λ i. id_eq i id) (map (λ (x : Damaged). x.id) b.damaged) none)))

-- ---- one file moves, or goes

-- both are one place and name
abbrev pub IsSpot : Area → List ℕ → Area → List ℕ → Type 0
IsSpot a n b m = (a ≡ b) × (n ≡ m)

-- the file of the first place stands at the second, and all else is as before
pub record IsRenamed (a : Area) (n : List ℕ) (b : Area) (m : List ℕ) (f g : Files) : Type 0 where
  pub here : g b m ≡ f a n
  pub gone : (IsSpot a n b m → ⊥) → g a n ≡ None
  pub others : (c : Area) (k : List ℕ) → (IsSpot a n c k → ⊥) → (IsSpot b m c k → ⊥) → g c k ≡ f c k

-- no file stands at the place, and all else is as before
pub record IsUnlinked (a : Area) (n : List ℕ) (f g : Files) : Type 0 where
  pub gone : g a n ≡ None
  pub others : (c : Area) (k : List ℕ) → (IsSpot a n c k → ⊥) → g c k ≡ f c k

-- the files of two ids, or of one at two places, are two
apart : (p q : Place) (i j : Id) → IsPlace p → IsPlace q → IsId i → IsId j → ((p ≡ q) × (i ≡ j) → ⊥) → IsSpot (area_of p) (name_at p i) (area_of q) (name_at q j) → ⊥
apart p q i j hp hq hi hj differ e = differ (same_spot p q i j hp hq hi hj e.0 e.1)

module _ (f g : Files) (p q : Place) (id : Id) (hp : IsPlace p) (hq : IsPlace q) (hid : IsId id) (r : IsRenamed (area_of p) (name_at p id) (area_of q) (name_at q id) f g) where
  -- what stands in no area of a queue
  pub renamed-elsewhere : (a : Area) (n : List ℕ) → a ≢ area_of p → a ≢ area_of q → g a n ≡ f a n
  renamed-elsewhere a n from to = r.others a n (λ e. from (sym e.0)) (λ e. to (sym e.0))

  pub renamed-bounce : (n : List ℕ) → g areas.Bounce n ≡ f areas.Bounce n
  renamed-bounce n = renamed-elsewhere areas.Bounce n (λ e. (area_of-IsQueue p).not_bounce (sym e)) (λ e. (area_of-IsQueue q).not_bounce (sym e))

  pub renamed-only : ChangesOnly id f g
  renamed-only = record {
    boot = λ n. renamed-elsewhere areas.Boot n (λ e. (area_of-IsQueue p).not_boot (sym e)) (λ e. (area_of-IsQueue q).not_boot (sym e));
    files = λ place i hplace hi other. r.others (area_of place) (name_at place i) (apart p place id i hp hplace hid hi (λ e. other (sym e.1))) (apart q place id i hq hplace hid hi (λ e. other (sym e.1)));
    logs = λ i hi other. renamed-bounce (id_text i);
  }

  gone_by : (place : Place) → IsPlace place → (place ≡ q → ⊥) → (t : Bool) → place_eq place p ≡ t → (place_eq place p ≡ false → file_at f place id ≡ None) → file_at g place id ≡ None
  gone_by place hplace other true e before =
      let same : place ≡ p = place_eq-true place p e in
      ap (λ (x : Place). file_at g x id) same ∙ r.gone (apart p q id id hp hq hid hid (λ k. other (same ∙ k.0)))
  gone_by place hplace other false e before =
      r.others (area_of place) (name_at place id) (apart p place id id hp hplace hid hid (λ k. true_false (place_eq place p) (ap (λ (x : Place). place_eq x p) (sym k.0) ∙ place_eq-refl p) e)) (apart q place id id hq hplace hid hid (λ k. other (sym k.0)))
      ∙ before e

  pub renamed-gone : ((place : Place) → IsPlace place → (p ≡ place → ⊥) → file_at f place id ≡ None) → (place : Place) → IsPlace place → (place ≡ q → ⊥) → file_at g place id ≡ None
  renamed-gone alone place hplace other = gone_by place hplace other (place_eq place p) refl
      (λ e. alone place hplace (λ same. true_false (place_eq place p) (ap (λ (x : Place). place_eq x p) (sym same) ∙ place_eq-refl p) e))

-- The file of a message was renamed: the files stand for the book in which it moved.
pub Stands-renamed : (f g : Files) (b : Book) (id : Id) (m : Message) (q : Place) → message_of b id ≡ Some m → IsPlace q → is_corrupt q ≡ false → IsRenamed (area_of m.place) (name_at m.place id) (area_of q) (name_at q id) f g
    → Stands f b → Stands g (move_message b id q)
Stands-renamed f g b id m q found hq sound r h =
    let old = Stands-message f b id m h found in
    let p = m.place in
    let hp = old.0.place in
    let hid : IsId id = subst IsId old.1 old.0.id in
    let was : file_at f p id ≡ Some old.0.bytes = sym (ap (file_at f p) old.1) ∙ old.0.there in
    Stands-move f g b id q m old.0.bytes found hq sound (renamed-only f g p q id hp hq hid r) was (r.here ∙ was)
    (renamed-gone f g p q id hp hq hid r (only_place f b id m h found hid)) (renamed-bounce f g p q id hp hq hid r (id_text id)) h

-- The file of a message was taken away: the files stand for the book without the message.
pub Stands-unlinked : (f g : Files) (b : Book) (id : Id) (m : Message) → message_of b id ≡ Some m → IsUnlinked (area_of m.place) (name_at m.place id) f g → Stands f b → Stands g (remove_message b id)
Stands-unlinked f g b id m found r h =
    let old = Stands-message f b id m h found in
    let p = m.place in
    let hp = old.0.place in
    let hid : IsId id = subst IsId old.1 old.0.id in
    Stands-remove f g b id m found (record {
      boot = λ n. r.others areas.Boot n (λ e. (area_of-IsQueue p).not_boot e.0);
      files = λ place i hplace hi other. r.others (area_of place) (name_at place i) (apart p place id i hp hplace hid hi (λ e. other (sym e.1)));
      logs = λ i hi other. r.others areas.Bounce (id_text i) (λ e. (area_of-IsQueue p).not_bounce e.0);
    }) (λ place hplace. by old.0.place hid place hplace (place_eq place p) refl) h
  where
    by : IsPlace m.place → IsId id → (place : Place) → IsPlace place → (t : Bool) → place_eq place m.place ≡ t → file_at g place id ≡ None
    by hp hid place hplace true e = ap (λ (x : Place). file_at g x id) (place_eq-true place m.place e) ∙ r.gone
    by hp hid place hplace false e =
        let differ : m.place ≢ place = λ same. true_false (place_eq place m.place) (ap (λ (x : Place). place_eq x m.place) (sym same) ∙ place_eq-refl m.place) e in
        r.others (area_of place) (name_at place id) (apart m.place place id id hp hplace hid hid (λ k. differ k.0)) ∙ only_place f b id m h found hid place hplace differ
