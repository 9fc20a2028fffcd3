-- A rename goes with a move of a message, and of a damaged file to corrupt.
use Rattle.std.proofs.Common.{◌≡◌, ◌∙◌, ℕ, Bool, true, false, ◌||◌, List, is_some, Some, if◌then◌else◌, refl, sym, ap, subst}
use Rattle.std.specs.Prelude.{find}
use Rattle.q_model.specs.declared.id.Id.{Id}
use Rattle.q_model.specs.declared.rows.Place.{Place}
use Rattle.q_model.specs.declared.rows.Place.TheVariants as places
use Rattle.q_model.specs.declared.spot.Area.TheVariants as areas
use Rattle.q_model.specs.Book.{Book, Damaged, damaged_of, message_of, stands}
use Rattle.q_model.specs.BookChanges.{move_damaged, move_message}
use Rattle.q_model.specs.FilesStand.{Stands}
use Rattle.q_model.specs.Ids.{id_eq}
use Rattle.q_model.specs.IdTexts.{id_text}
use Rattle.q_model.specs.Message.{Message}
use Rattle.q_model.specs.Places.{is_corrupt}
use Rattle.q_model.specs.SpoolFiles.{area_of, Files, IsPlace, name_at}
use Rattle.q_model.proofs.CrashChanges.{crash-message, crash-move}
use Rattle.q_model.proofs.EachLaws.{any-map, find-any}
use Rattle.q_model.proofs.SpotLaws.{area_of-IsQueue}
use Rattle.q_model.proofs.StandChanges.{any-same}
use Rattle.q_model.proofs.StandDamaged.{crash-corrupt, Stands-corrupt}
use Rattle.q_model.proofs.StandRenames.{Stands-renamed}
use Rattle.q_host.specs.Files.{moved}
use Rattle.q_books.proofs.Calls.{Carries}
use Rattle.q_books.proofs.Ids.{own_logs-changed}
use Rattle.q_files.proofs.OtherPlaces.{moved_renamed}

-- a file of no queue stays
elsewhere : (f : Files) (p q : Place) (n m k : List ℕ) → moved f (area_of p) n (area_of q) m areas.Bounce k ≡ f areas.Bounce k
elsewhere f p q n m k = (moved_renamed f (area_of p) n (area_of q) m).others areas.Bounce k (λ e. (area_of-IsQueue p).not_bounce e.0) (λ e. (area_of-IsQueue q).not_bounce e.0)

-- a rename goes with a move
pub renaming : (b : Book) (id : Id) (m : Message) (q : Place) → message_of b id ≡ Some m → IsPlace q → is_corrupt q ≡ false → Carries b (λ k. move_message k id q) (λ f. moved f (area_of m.place) (name_at m.place id) (area_of q) (name_at q id))
renaming b id m q found hq sound = record {
  reads = λ f h. moves f b m found h;
  left = λ f l after h. let next = crash-message b l id m after found in
      subst (λ (p : Place). Stands (moved f (area_of p) (name_at p id) (area_of q) (name_at q id)) (move_message l id q)) next.2.place (moves f l next.0 next.1 h);
  crash = λ l after. crash-move b l id q after;
  logs = λ f own. own_logs-changed f (moved f (area_of m.place) (name_at m.place id) (area_of q) (name_at q id)) b id (λ (x : Message). record x { place = q }) (λ x. refl)
      (elsewhere f m.place q (name_at m.place id) (name_at q id)) own;
}
  where
    moves : (f : Files) (k : Book) (x : Message) → message_of k id ≡ Some x → Stands f k → Stands (moved f (area_of x.place) (name_at x.place id) (area_of q) (name_at q id)) (move_message k id q)
    moves f k x there h = Stands-renamed f (moved f (area_of x.place) (name_at x.place id) (area_of q) (name_at q id)) k id x q there hq sound (moved_renamed f (area_of x.place) (name_at x.place id) (area_of q) (name_at q id)) h

-- ---- a damaged file

put_id : (id i : Id) (q : Place) (d : Damaged) (t : Bool) → id_eq (if t then record d { place = q } else d).id i ≡ id_eq d.id i
put_id id i q d true = refl
put_id id i q d false = refl

-- the same ids stand in the book
stands-aside : (b : Book) (id : Id) (q : Place) (i : Id) → stands (move_damaged b id q) i ≡ stands b i
stands-aside b id q i = ap (λ (t : Bool). is_some (message_of b i) || t)
    (find-any (λ (d : Damaged). id_eq d.id i) (move_damaged b id q).damaged
    ∙ any-map (λ (d : Damaged). id_eq d.id i) (λ (d : Damaged). if id_eq d.id id then record d { place = q } else d) b.damaged
    ∙ any-same (λ (d : Damaged). id_eq (if id_eq d.id id then record d { place = q } else d).id i) (λ (d : Damaged). id_eq d.id i) b.damaged (λ d. put_id id i q d (id_eq d.id id))
    ∙ sym (find-any (λ (d : Damaged). id_eq d.id i) b.damaged))

pub putting_aside : (b : Book) (id : Id) (d : Damaged) → damaged_of b id ≡ Some d → Carries b (λ k. move_damaged k id places.Corrupt) (λ f. moved f (area_of d.place) (name_at d.place id) areas.Corrupt (id_text id))
putting_aside b id d found = record {
  reads = λ f h. aside f b found h;
  left = λ f l after h. aside f l (ap (λ (ds : List Damaged). find (λ (x : Damaged). id_eq x.id id) ds) after.damaged ∙ found) h;
  crash = λ l after. crash-corrupt b l id places.Corrupt after;
  logs = λ f own i hi absent. elsewhere f d.place places.Corrupt (name_at d.place id) (id_text id) (id_text i) ∙ own i hi (sym (stands-aside b id places.Corrupt i) ∙ absent);
}
  where
    aside : (f : Files) (k : Book) → damaged_of k id ≡ Some d → Stands f k → Stands (moved f (area_of d.place) (name_at d.place id) areas.Corrupt (id_text id)) (move_damaged k id places.Corrupt)
    aside f k there h = Stands-corrupt f (moved f (area_of d.place) (name_at d.place id) areas.Corrupt (id_text id)) k id d there (moved_renamed f (area_of d.place) (name_at d.place id) areas.Corrupt (id_text id)) h
