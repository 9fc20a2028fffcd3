-- The calls that write and sync marks.
use Rattle.std.proofs.Common.{◌≢◌, ◌≤◌, ◌∙◌, ℕ, List, [], ◌∷◌, take, sym, ap, subst}
use Rattle.std.specs.Option.{option_map}
use Rattle.q_model.specs.declared.spot.Area.TheVariants as areas
use Rattle.q_model.specs.Book.{Book}
use Rattle.q_model.specs.SpoolFiles.{Files}
use Rattle.q_model.specs.Values.{Spot}
use Rattle.q_host.specs.Calls.{Stays, Syncs, Writes}
use Rattle.q_host.specs.Files.{written}
use Rattle.q_host.specs.View.{View}
use Rattle.q_host.proofs.Puts.{other_area, put-other}
use Rattle.q_books.specs.HostStands.{HostStands, KeepsNotes, Takes, TellsCrashes, Tries}
use Rattle.q_books.proofs.Calls.{stayed}
use Rattle.q_files.specs.Changes.{MarksRecipient, SyncsMarks}
use Rattle.q_files.proofs.MarkSyncs.{synced_marks}
use Rattle.q_files.proofs.MarkWrites.{may_mark, written_mark}

module _ (spot : Spot) (at : ℕ) (b k : Book) (v w : View) (lawful : TellsCrashes v) (ch : MarksRecipient spot at b k) where
  pub marks : Writes spot.area spot.name at (68 ∷ []) 1 v w → HostStands v b → Takes b k v w
  marks d h = subst (λ (x : Book). Takes b x v w) (sym ch.changed)
      (written_mark b ch.id ch.message ch.position at ch.file.found ch.mark.here ch.mark.offset v w lawful (subst (λ (s : Spot). Writes s.area s.name at (68 ∷ []) 1 v w) ch.file.spot d) h)

  pub may_marks : (i : ℕ) × (i ≤ 1) × Writes spot.area spot.name at (68 ∷ []) i v w → HostStands v b → Tries b k v w
  may_marks d h = subst (λ (x : Book). Tries b x v w) (sym ch.changed)
      (may_mark b ch.id ch.message ch.position at ch.file.found ch.mark.here ch.mark.offset v w lawful d.0 d.1 (subst (λ (s : Spot). Writes s.area s.name at (68 ∷ []) d.0 v w) ch.file.spot d.2) h)

module _ (spot : Spot) (b k : Book) (v w : View) (lawful : TellsCrashes v) (ch : SyncsMarks spot b k) where
  pub syncs : Syncs spot.area spot.name v w → HostStands v b → Takes b k v w
  syncs d h = subst (λ (x : Book). Takes b x v w) (sym ch.changed)
      (synced_marks b ch.id ch.message ch.file.found v w lawful (subst (λ (s : Spot). Syncs s.area s.name v w) ch.file.spot d) h)

  pub may_sync : Stays v w → HostStands v b → Tries b k v w
  may_sync d h = stayed b k v w lawful d h

-- a write in another area changes no deferral log
pub writes_no_notes : (spot : Spot) (at i : ℕ) (bytes : List ℕ) (v w : View) → Writes spot.area spot.name at bytes i v w → spot.area ≢ areas.Defer → KeepsNotes v w
writes_no_notes spot at i bytes v w wr differ n =
    ap (λ (f : Files). f areas.Defer n) wr.files
    ∙ put-other v.files spot.area spot.name (option_map (written at (take i bytes)) (v.files spot.area spot.name)) areas.Defer n (other_area spot.area spot.name areas.Defer n (λ e. differ (sym e)))
