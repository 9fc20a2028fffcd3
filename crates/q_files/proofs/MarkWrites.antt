-- A mark is written: what the files stand for, and what a crash leaves of it.
use Rattle.std.proofs.Common.{◌≡◌, ◌<◌, ◌≤◌, ℕ, zero, suc, List, [], ◌∷◌, length, take, Option, Some, refl, sym, ap, subst, ◌∙◌, inl, inr, arith}
use Rattle.std.specs.Prelude.{false}
use Rattle.std.specs.Option.{option_map}
use Rattle.q_model.specs.declared.id.Id.{Id}
use Rattle.q_model.specs.declared.rows.Mark.TheVariants as marks
use Rattle.q_model.specs.declared.rows.Place.{Place}
use Rattle.q_model.specs.declared.spot.Area.{Area}
use Rattle.q_model.specs.declared.spot.Area.TheVariants as areas
use Rattle.q_model.specs.Book.{Book, message_of}
use Rattle.q_model.specs.BookChanges.{change_message}
use Rattle.q_model.specs.FilesStand.{file_message, Stands}
use Rattle.q_model.specs.Marking.{with_mark}
use Rattle.q_model.specs.Message.{Message}
use Rattle.q_model.specs.QueueFileBytes.{mark_at}
use Rattle.q_model.specs.SpoolFiles.{area_of, file_at, Files, name_at}
use Rattle.q_model.proofs.CrashChanges.{crash-message, mark_at-after, recipients-length}
use Rattle.q_model.proofs.MarkChanges.{mark-in_file, Stands-mark_crash}
use Rattle.q_model.proofs.SpotLaws.{area_of-IsQueue}
use Rattle.q_model.proofs.StandChanges.{Stands-message}
use Rattle.q_model.proofs.StandEntries.{Stands-mark}
use Rattle.q_host.specs.Calls.{Writes}
use Rattle.q_host.specs.Files.{put, same_place, written}
use Rattle.q_host.specs.Steps.{Tear}
use Rattle.q_host.specs.View.{LeavesOnly, Remains, View}
use Rattle.q_host.proofs.Puts.{other_area, put-here, put-is, put-other, put-same}
use Rattle.q_books.specs.HostStands.{Between, HostStands, IsLeftOf, Takes, TellsCrashes, Tries}
use Rattle.q_books.proofs.Calls.{meanwhile, tried}
use Rattle.q_books.proofs.Ids.{own_logs-changed}
use Rattle.q_files.proofs.OtherPlaces.{same_but}
use Rattle.q_logfile.proofs.TornBytes.{nothing_written, torn_byte, torn_nothing}

module _ (b : Book) (id : Id) (m : Message) (position at : ℕ) (found : message_of b id ≡ Some m) (here : position < length m.recipients) (is : at ≡ mark_at (file_message m) position) where
  abbrev marked : Book
  marked = change_message b id (with_mark position)

  -- the mark's place is in what a crash left of the file
  inside : (d : Remains) (old : List ℕ) → IsLeftOf b d → file_at d.files m.place id ≡ Some old → at < length old
  inside d old left was =
      let next = crash-message b left.left id m left.after found in
      let x = next.0 in
      mark-in_file d.files left.left id x position at old next.1 (omega (arith, here, recipients-length m.recipients x.recipients next.2.recipients)) (is ∙ sym (mark_at-after m x position next.2))
      (ap (λ (p : Place). file_at d.files p id) next.2.place ∙ was) left.stands

  -- a write of the mark that a crash cuts short leaves the mark or not
  torn : (d c : Remains) → IsLeftOf b d → Tear (area_of m.place) (name_at m.place id) at 1 d c → IsLeftOf marked c
  torn d c left t =
      let one = torn_byte at t.old t.new (inside d t.old left t.was) t.torn in
      let new = Stands-mark_crash d.files c.files b left.left id m position at one.0 t.old found here is left.after t.was
      (same_but d.files c.files (area_of m.place) (name_at m.place id) t.others) (t.is ∙ ap (λ (xs : List ℕ). Some xs) one.1) left.stands in
      record { left = new.0; after = new.1; stands = new.2 }

  module _ (v w : View) (lawful : TellsCrashes v) where
    abbrev file_over : ℕ → Option (List ℕ)
    file_over k = option_map (written at (take k (68 ∷ []))) (file_at v.files m.place id)

    other : (k : ℕ) → Writes (area_of m.place) (name_at m.place id) at (68 ∷ []) k v w → (a : Area) (n : List ℕ) → same_place (area_of m.place) (name_at m.place id) a n ≡ false → w.files a n ≡ v.files a n
    other k wr a n differ = ap (λ (f : Files). f a n) wr.files ∙ put-other v.files (area_of m.place) (name_at m.place id) (file_over k) a n differ

    bounce : (k : ℕ) → Writes (area_of m.place) (name_at m.place id) at (68 ∷ []) k v w → (n : List ℕ) → w.files areas.Bounce n ≡ v.files areas.Bounce n
    bounce k wr n = other k wr areas.Bounce n (other_area (area_of m.place) (name_at m.place id) areas.Bounce n (λ e. (area_of-IsQueue m.place).not_bounce (sym e)))

    writing : (k : ℕ) → Writes (area_of m.place) (name_at m.place id) at (68 ∷ []) k v w → HostStands v b → LeavesOnly v w (Between b marked v.told)
    writing k wr h = meanwhile b marked v w lawful wr.goes (λ d c may left t. (t.told, inr (torn d c left t))) h

    there : HostStands v b → (file : List ℕ) × (file_at v.files m.place id ≡ Some file)
    there h = let old = Stands-message v.files b id m h.reads found in (old.0.bytes, sym (ap (file_at v.files m.place) old.1) ∙ old.0.there)

    pub written_mark : Writes (area_of m.place) (name_at m.place id) at (68 ∷ []) 1 v w → HostStands v b → Takes b marked v w
    written_mark wr h =
        let file = there h in
        let now : file_at w.files m.place id ≡ Some (written at (68 ∷ []) file.0) = ap (λ (f : Files). f (area_of m.place) (name_at m.place id)) wr.files ∙ put-here v.files (area_of m.place) (name_at m.place id) (file_over 1) ∙ ap (option_map (written at (68 ∷ []))) file.1 in
        record {
          told = wr.told;
          stands = record {
            reads = Stands-mark v.files w.files b id m file.0 position 68 marks.Written found here refl file.1
                (same_but v.files w.files (area_of m.place) (name_at m.place id) (other 1 wr)) (subst (λ (n : ℕ). file_at w.files m.place id ≡ Some (written n (68 ∷ []) file.0)) is now) h.reads;
            crash = λ c may. let d = wr.goes.crash c may in torn d.0 c (h.crash d.0 d.1) d.2;
          };
          logs = λ own. own_logs-changed v.files w.files b id (with_mark position) (λ x. refl) (bounce 1 wr) own;
          moments = writing 1 wr h;
        }

    -- nothing was written
    unwritten : Writes (area_of m.place) (name_at m.place id) at (68 ∷ []) 0 v w → HostStands v b → HostStands w b
    unwritten wr h =
        let file = there h in
        let same : w.files ≡ v.files = wr.files ∙ ap (λ (o : Option (List ℕ)). put v.files (area_of m.place) (name_at m.place id) (option_map (written at []) o)) file.1 ∙ put-same v.files (area_of m.place) (name_at m.place id) (Some (written at [] file.0)) (file.1 ∙ ap (λ (xs : List ℕ). Some xs) (sym (nothing_written at file.0))) in
        record {
          reads = subst (λ (f : Files). Stands f b) (sym same) h.reads;
          crash = λ c may. let d = wr.goes.crash c may in still d.0 c (h.crash d.0 d.1) d.2;
        }
      where
        still : (d c : Remains) → IsLeftOf b d → Tear (area_of m.place) (name_at m.place id) at 0 d c → IsLeftOf b c
        still d c left t =
            let file : c.files (area_of m.place) (name_at m.place id) ≡ d.files (area_of m.place) (name_at m.place id) = t.is ∙ ap (λ (xs : List ℕ). Some xs) (torn_nothing at t.old t.new t.torn) ∙ sym t.was in
            let same : c.files ≡ d.files = put-is d.files c.files (area_of m.place) (name_at m.place id) (d.files (area_of m.place) (name_at m.place id)) file t.others ∙ put-same d.files (area_of m.place) (name_at m.place id) (d.files (area_of m.place) (name_at m.place id)) refl in
            record { left = left.left; after = left.after; stands = subst (λ (f : Files). Stands f left.left) (sym same) left.stands }

    pub may_mark : (k : ℕ) → k ≤ 1 → Writes (area_of m.place) (name_at m.place id) at (68 ∷ []) k v w → HostStands v b → Tries b marked v w
    may_mark k le wr h = by k le wr
      where
        by : (n : ℕ) → n ≤ 1 → Writes (area_of m.place) (name_at m.place id) at (68 ∷ []) n v w → Tries b marked v w
        by zero le wr = record { told = wr.told; stands = inl (unwritten wr h); moments = writing 0 wr h }
        by (suc zero) le wr = tried b marked v w lawful (written_mark wr h)
        by (suc (suc n)) le wr = absurd (omega (arith, le))
