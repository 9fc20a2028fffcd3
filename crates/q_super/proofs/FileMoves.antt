-- A file is renamed: the book in which it moved, of a message or damaged.
use Rattle.std.proofs.Common.{◌≡◌, ◌⊎◌, ◌∙◌, ◌||◌, ◌&&◌, ◌∷◌, [], ℕ, Bool, true, false, List, map, is_some, Some, if◌then◌else◌, ⊎_elim, inl, inr, refl, sym, ap, subst}
use Rattle.std.specs.List.{list_any}
use Rattle.std.specs.Prelude.{find}
use Rattle.std.proofs.lemmas.Bool.{and_parts, false_from_ne_true, or_cases}
use Rattle.q_model.specs.declared.id.Id.{Id}
use Rattle.q_model.specs.declared.rows.Place.{Place}
use Rattle.q_model.specs.declared.rows.Place.TheVariants as places
use Rattle.q_model.specs.declared.spot.Area.TheVariants as areas
use Rattle.q_model.specs.Book.{all_ids, Book, Damaged, damaged_of, message_of, stands}
use Rattle.q_model.specs.BookChanges.{move_damaged, move_message}
use Rattle.q_model.specs.FilesStand.{Stands}
use Rattle.q_model.specs.Ids.{are_distinct, id_eq}
use Rattle.q_model.specs.IdTexts.{id_text}
use Rattle.q_model.specs.Message.{Message}
use Rattle.q_model.specs.Places.{is_corrupt, place_eq}
use Rattle.q_model.specs.SpoolFiles.{area_of, Files, IsPlace, name_at}
use Rattle.q_model.specs.ToolSteps.{after_step, is_tool_move, moves}
use Rattle.q_model.proofs.EachLaws.{any-map, find-any}
use Rattle.q_model.proofs.IdLaws.{id_eq-refl, id_eq-true}
use Rattle.q_model.proofs.SpotLaws.{area_of-IsQueue, place_eq-true}
use Rattle.q_model.proofs.StandChanges.{any-same}
use Rattle.q_model.proofs.StandDamaged.{crash-corrupt}
use Rattle.q_laws.proofs.Books.{not_damaged, only_message}
use Rattle.q_laws.proofs.Distinct.{distinct_parts, same_named}
use Rattle.q_laws.proofs.Members.{any_in, find_one, IsIn}
use Rattle.q_host.specs.Files.{moved, same_place}
use Rattle.q_host.specs.View.{View}
use Rattle.q_books.specs.HostStands.{HostStands, Takes, TellsCrashes, Tries}
use Rattle.q_books.specs.Spots.{spot_of}
use Rattle.q_books.proofs.Calls.{Carries, changed, may_change}
use Rattle.q_files.specs.Changes.{MovesMessage}
use Rattle.q_files.proofs.FileMoves.{MayRenamed, may_move_file, moves_file, Renamed}
use Rattle.q_files.proofs.OtherPlaces.{moved_renamed}
use Rattle.q_super.specs.declared.standing.Standing.{Standing}
use Rattle.q_super.specs.Moves.{MayMove, MovesFile, stands_there}
use Rattle.q_super.proofs.DamagedFiles.{Stands-moved}

-- ---- places between which tools move files

pub goal_fits : (from to : Place) → is_tool_move from to ≡ true → IsPlace to × (is_corrupt to ≡ false)
goal_fits from places.Incoming h = (tt, refl)
goal_fits from places.Active h = (tt, refl)
goal_fits from places.Hold h = (tt, refl)
goal_fits places.Incoming (places.Deferred due) h = absurd cc
goal_fits places.Active (places.Deferred due) h = absurd cc
goal_fits (places.Deferred since) (places.Deferred due) h = absurd cc
goal_fits places.Hold (places.Deferred due) h = absurd cc
goal_fits places.Corrupt (places.Deferred due) h = absurd cc
goal_fits places.Incoming places.Corrupt h = absurd cc
goal_fits places.Active places.Corrupt h = absurd cc
goal_fits (places.Deferred since) places.Corrupt h = absurd cc
goal_fits places.Hold places.Corrupt h = absurd cc
goal_fits places.Corrupt places.Corrupt h = absurd cc

from_sound : (from to : Place) → is_tool_move from to ≡ true → is_corrupt from ≡ false
from_sound places.Incoming to h = refl
from_sound places.Active to h = refl
from_sound (places.Deferred due) to h = refl
from_sound places.Hold to h = refl
from_sound places.Corrupt places.Incoming h = absurd cc
from_sound places.Corrupt places.Active h = absurd cc
from_sound places.Corrupt (places.Deferred due) h = absurd cc
from_sound places.Corrupt places.Hold h = absurd cc
from_sound places.Corrupt places.Corrupt h = absurd cc

pub places_apart : (from to : Place) (n m : List ℕ) → is_tool_move from to ≡ true → same_place (area_of from) n (area_of to) m ≡ false
unfolding same_place
places_apart places.Incoming places.Hold n m h = refl
places_apart (places.Deferred due) places.Hold n m h = refl
places_apart places.Hold places.Incoming n m h = refl
places_apart (places.Deferred due) places.Incoming n m h = refl
places_apart places.Incoming places.Active n m h = refl
places_apart (places.Deferred due) places.Active n m h = refl
places_apart places.Hold places.Active n m h = refl
places_apart from to n m h = absurd cc

-- ---- what stands there

-- the file is that of a message, and no damaged one is of its id
pub record IsOfMessage (b : Book) (s : Standing) : Type 0 where
  pub message : Message
  pub found : message_of b s.id ≡ Some message
  pub place : message.place ≡ s.place
  pub alone : (d : Damaged) → IsIn d b.damaged → id_eq d.id s.id ≡ false

-- the file is damaged, and no message is of its id
pub record IsDamagedOne (b : Book) (s : Standing) : Type 0 where
  pub damaged : Damaged
  pub found : damaged_of b s.id ≡ Some damaged
  pub place : damaged.place ≡ s.place
  pub alone : (m : Message) → IsIn m b.messages → id_eq m.id s.id ≡ false

module _ (b : Book) (distinct : are_distinct (all_ids b) ≡ true) (s : Standing) where
  of_message : (m : Message) → IsIn m b.messages → m.id ≡ s.id → m.place ≡ s.place → IsOfMessage b s
  of_message m there same place = record {
    message = m;
    found = find_one (λ (x : Message). id_eq x.id s.id) m b.messages there (ap (λ i. id_eq i s.id) same ∙ id_eq-refl s.id)
        (λ y inside passes. only_message b distinct y m inside there (id_eq-true y.id s.id passes ∙ sym same));
    place = place;
    alone = λ d inside. false_from_ne_true (id_eq d.id s.id) (λ e. not_damaged b distinct m d there inside (same ∙ sym (id_eq-true d.id s.id e)));
  }

  of_damaged : (d : Damaged) → IsIn d b.damaged → d.id ≡ s.id → d.place ≡ s.place → IsDamagedOne b s
  of_damaged d there same place = record {
    damaged = d;
    found = find_one (λ (x : Damaged). id_eq x.id s.id) d b.damaged there (ap (λ i. id_eq i s.id) same ∙ id_eq-refl s.id)
        (λ y inside passes. same_named (λ (x : Damaged). x.id) y d b.damaged (distinct_parts (map (λ (m : Message). m.id) b.messages) (map (λ (x : Damaged). x.id) b.damaged) distinct).1 inside there (id_eq-true y.id s.id passes ∙ sym same));
    place = place;
    alone = λ m inside. false_from_ne_true (id_eq m.id s.id) (λ e. not_damaged b distinct m d inside there (id_eq-true m.id s.id e ∙ sym same));
  }

  -- one or the other
  pub which : stands_there b s ≡ true → IsOfMessage b s ⊎ IsDamagedOne b s
  which there = ⊎_elim
      (λ whole. let one = any_in (λ (m : Message). id_eq m.id s.id && place_eq s.place m.place) b.messages whole in
      let two = and_parts (id_eq one.0.id s.id) (place_eq s.place one.0.place) one.2 in
      inl (of_message one.0 one.1 (id_eq-true one.0.id s.id two.0) (sym (place_eq-true s.place one.0.place two.1))))
      (λ broken. let one = any_in (λ (d : Damaged). id_eq d.id s.id && place_eq s.place d.place) b.damaged broken in
      let two = and_parts (id_eq one.0.id s.id) (place_eq s.place one.0.place) one.2 in
      inr (of_damaged one.0 one.1 (id_eq-true one.0.id s.id two.0) (sym (place_eq-true s.place one.0.place two.1))))
      (or_cases (list_any (λ (m : Message). id_eq m.id s.id && place_eq s.place m.place) b.messages) (list_any (λ (d : Damaged). id_eq d.id s.id && place_eq s.place d.place) b.damaged) there)

-- ---- the book after it

unmoved_files : (id : Id) (q : Place) (ds : List Damaged) → ((d : Damaged) → IsIn d ds → id_eq d.id id ≡ false) → map (λ (d : Damaged). if id_eq d.id id then record d { place = q } else d) ds ≡ ds
unmoved_files id q [] none = refl
unmoved_files id q (d ∷ ds) none =
    ap (λ t. (if t then record d { place = q } else d) ∷ map (λ (x : Damaged). if id_eq x.id id then record x { place = q } else x) ds) (none d (inl refl))
    ∙ ap (λ (xs : List Damaged). d ∷ xs) (unmoved_files id q ds (λ x inside. none x (inr inside)))

unmoved_messages : (id : Id) (q : Place) (ms : List Message) → ((m : Message) → IsIn m ms → id_eq m.id id ≡ false) → map (λ (m : Message). if id_eq m.id id then record m { place = q } else m) ms ≡ ms
unmoved_messages id q [] none = refl
unmoved_messages id q (m ∷ ms) none =
    ap (λ t. (if t then record m { place = q } else m) ∷ map (λ (x : Message). if id_eq x.id id then record x { place = q } else x) ms) (none m (inl refl))
    ∙ ap (λ (xs : List Message). m ∷ xs) (unmoved_messages id q ms (λ x inside. none x (inr inside)))

pub message_moved : (b : Book) (s : Standing) (q : Place) → IsOfMessage b s → after_step b (moves s.id q) ≡ move_message b s.id q
message_moved b s q is = ap (λ (ds : List Damaged). record (move_message b s.id q) { damaged = ds }) (unmoved_files s.id q b.damaged is.alone)

pub damaged_moved : (b : Book) (s : Standing) (q : Place) → IsDamagedOne b s → after_step b (moves s.id q) ≡ move_damaged b s.id q
damaged_moved b s q is = ap (λ (ms : List Message). record (move_damaged b s.id q) { messages = ms }) (unmoved_messages s.id q b.messages is.alone)

-- ---- a damaged file

elsewhere : (f : Files) (p q : Place) (n m k : List ℕ) → moved f (area_of p) n (area_of q) m areas.Bounce k ≡ f areas.Bounce k
elsewhere f p q n m k = (moved_renamed f (area_of p) n (area_of q) m).others areas.Bounce k (λ e. (area_of-IsQueue p).not_bounce e.0) (λ e. (area_of-IsQueue q).not_bounce e.0)

put_id : (id i : Id) (q : Place) (d : Damaged) (t : Bool) → id_eq (if t then record d { place = q } else d).id i ≡ id_eq d.id i
put_id id i q d true = refl
put_id id i q d false = refl

-- the same ids stand in the book
pub stands-moved : (b : Book) (id : Id) (q : Place) (i : Id) → stands (move_damaged b id q) i ≡ stands b i
stands-moved b id q i = ap (λ (t : Bool). is_some (message_of b i) || t)
    (find-any (λ (d : Damaged). id_eq d.id i) (move_damaged b id q).damaged
    ∙ any-map (λ (d : Damaged). id_eq d.id i) (λ (d : Damaged). if id_eq d.id id then record d { place = q } else d) b.damaged
    ∙ any-same (λ (d : Damaged). id_eq (if id_eq d.id id then record d { place = q } else d).id i) (λ (d : Damaged). id_eq d.id i) b.damaged (λ d. put_id id i q d (id_eq d.id id))
    ∙ sym (find-any (λ (d : Damaged). id_eq d.id i) b.damaged))

moving_damaged : (b : Book) (id : Id) (d : Damaged) (q : Place) → damaged_of b id ≡ Some d → IsPlace q → is_corrupt d.place ≡ false → Carries b (λ k. move_damaged k id q) (λ f. moved f (area_of d.place) (name_at d.place id) (area_of q) (name_at q id))
moving_damaged b id d q found hq sound = record {
  reads = λ f h. by f b found h;
  left = λ f l after h. by f l (ap (λ (ds : List Damaged). find (λ (x : Damaged). id_eq x.id id) ds) after.damaged ∙ found) h;
  crash = λ l after. crash-corrupt b l id q after;
  logs = λ f own i hi absent. elsewhere f d.place q (name_at d.place id) (name_at q id) (id_text i) ∙ own i hi (sym (stands-moved b id q i) ∙ absent);
}
  where
    by : (f : Files) (k : Book) → damaged_of k id ≡ Some d → Stands f k → Stands (moved f (area_of d.place) (name_at d.place id) (area_of q) (name_at q id)) (move_damaged k id q)
    by f k there h = Stands-moved f (moved f (area_of d.place) (name_at d.place id) (area_of q) (name_at q id)) k id d q there hq sound (moved_renamed f (area_of d.place) (name_at d.place id) (area_of q) (name_at q id)) h

-- ---- the call

module _ (s : Standing) (to : Place) (may : MayMove s to) (b k : Book) (v w : View) (lawful : TellsCrashes v) (ch : MovesFile s to b k) (h : HostStands v b) where
  abbrev hq : IsPlace to
  hq = (goal_fits s.place to may.allowed).0

  abbrev sound : is_corrupt to ≡ false
  sound = (goal_fits s.place to may.allowed).1

  as_message : IsOfMessage b s → MovesMessage (spot_of s.place s.id) (spot_of to s.id) b k
  as_message is = record {
    id = s.id;
    message = is.message;
    place = to;
    file = record { found = is.found; spot = ap (λ (p : Place). spot_of p s.id) (sym is.place) };
    goal = record { place = hq; sound = sound; spot = refl };
    changed = ch.changed ∙ message_moved b s to is;
  }

  damaged_sound : (is : IsDamagedOne b s) → is_corrupt is.damaged.place ≡ false
  damaged_sound is = ap is_corrupt is.place ∙ from_sound s.place to may.allowed

  carries : (is : IsDamagedOne b s) → Carries b (λ x. move_damaged x s.id to) (λ f. moved f (area_of s.place) (name_at s.place s.id) (area_of to) (name_at to s.id))
  carries is = subst (λ (p : Place). Carries b (λ x. move_damaged x s.id to) (λ f. moved f (area_of p) (name_at p s.id) (area_of to) (name_at to s.id))) is.place
      (moving_damaged b s.id is.damaged to is.found hq (damaged_sound is))

  pub moves_by_rename : Renamed (spot_of s.place s.id) (spot_of to s.id) v w → Takes b k v w
  moves_by_rename d = ⊎_elim
      (λ is. moves_file (spot_of s.place s.id) (spot_of to s.id) b k v w lawful (as_message is) d h)
      (λ is. subst (λ (x : Book). Takes b x v w) (sym (ch.changed ∙ damaged_moved b s to is)) (changed b (λ x. move_damaged x s.id to) (λ f. moved f (area_of s.place) (name_at s.place s.id) (area_of to) (name_at to s.id)) (carries is) v w lawful d h))
      (which b h.reads.distinct s ch.there)

  pub may_move_by_rename : MayRenamed (spot_of s.place s.id) (spot_of to s.id) v w → Tries b k v w
  may_move_by_rename d = ⊎_elim
      (λ is. may_move_file (spot_of s.place s.id) (spot_of to s.id) b k v w lawful (as_message is) d h)
      (λ is. subst (λ (x : Book). Tries b x v w) (sym (ch.changed ∙ damaged_moved b s to is)) (may_change b (λ x. move_damaged x s.id to) (λ f. moved f (area_of s.place) (name_at s.place s.id) (area_of to) (name_at to s.id)) (carries is) v w lawful d h))
      (which b h.reads.distinct s ch.there)
