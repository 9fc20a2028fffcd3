-- What the entries of an outcome ask of the calls that write them.
use Rattle.std.proofs.Common.{◌≡◌, ◌≤◌, ◌∙◌, ◌⊎◌, ⊎_elim, ℕ, Bool, inr, IsTrue, None, Option, Some, refl, subst, sym, length}
use Rattle.std.specs.Option.{IfSome, IsSome, IsSomeAnd}
use Rattle.q_files.proofs.PlaceReads.{mark-found, unmarked-found}
use Rattle.q_files.specs.MarkPlaces.{FindsMark}
use Rattle.q_model.specs.FilesStand.{file_message, Stands}
use Rattle.q_model.specs.QueueFileBytes.{mark_at}
use Rattle.q_model.specs.SpoolFiles.{Files}
use Rattle.q_model.specs.declared.entry.Entry.TheVariants as entries
use Rattle.q_model.specs.declared.id.Id.{Id}
use Rattle.q_model.specs.declared.outcome.Failure.{Failure}
use Rattle.q_model.specs.declared.rows.Place.TheVariants as places
use Rattle.q_model.specs.Ledger.{Ledger}
use Rattle.q_model.specs.Settings.{World}
use Rattle.q_model.specs.Step.{change}
use Rattle.q_model.specs.Values.{Spot}
use Rattle.q_host.specs.View.{View}
use Rattle.q_model.specs.Message.{Message}
use Rattle.q_books.specs.Spots.{IsFileAt, IsMarkAt, spot_of}
use Rattle.q_core.specs.declared.decision.Decision.TheVariants as decisions
use Rattle.q_files.specs.Changes.{AddsFailure, MarksRecipient}
use Rattle.q_places.specs.Kept.{kept_mark}
use Rattle.q_engine.specs.MarkOffsets.{FindsOffset, HasBareMark}
use Rattle.q_engine.specs.Stands.{HasDecided}
use Rattle.q_engine.specs.declared.engine.Engine.{Engine}
use Rattle.q_engine.proofs.FirstOutcomes.{log_speaks, mark_bare, mark_inside}
use Rattle.q_engine.proofs.KeptPlaces.{of_message}
use Rattle.q_engine.proofs.Speaking.{file_there, in_active}

module _ (w : World) (l : Ledger) (id : Id) (p : ℕ) (engine : Engine) (v : View) (h : HasDecided w l (decisions.Mark id p) (entries.Mark id p) engine v) (s : Spot) (is : s ≡ spot_of places.Active id) where
  -- the file of the message is there
  pub mark_there : IsSome (v.files s.area s.name)
  mark_there = let b = mark_bare w l id p h.was.consistent h.following in
      file_there v l.book id b.message s h.host (in_active l id b.message b.active s is)

  -- its recipient has no mark
  pub mark_has_bare : HasBareMark v s p
  mark_has_bare = let b = mark_bare w l id p h.was.consistent h.following in
      record { book = l.book; id = id; message = b.message; host = h.host; file = in_active l id b.message b.active s is; bare = b.bare }

  -- the offset that was kept, or else was read, is that of the mark
  pub mark_is_at : (tells : Bool) (kept : Option ℕ) (at : ℕ) → IsTrue tells → kept ≡ kept_mark engine.places id p → (kept ≡ Some at) ⊎ (IsTrue tells → FindsOffset v s p at) → (m : Message) → IsFileAt l.book id m s → IsMarkAt m p at
  mark_is_at tells kept at t known which m file =
      ⊎_elim (λ same. of_message l.book id m (λ x. IsMarkAt x p at) file.found (h.places.marks id p at (sym known ∙ same))) (λ read. read t l.book id m h.host file) which

  module _ (at : ℕ) (finds : (m : Message) → IsFileAt l.book id m s → IsMarkAt m p at) where
    -- the mark is the entry's
    pub mark_changes : MarksRecipient s at l.book (change w l (entries.Mark id p)).book
    mark_changes = let b = mark_bare w l id p h.was.consistent h.following in
        let file = in_active l id b.message b.active s is in
        record { id = id; message = b.message; position = p; file = file; mark = finds b.message file; changed = refl }

    -- and stands within the file
    pub mark_fits : IsSomeAnd (v.files s.area s.name) (λ file. at ≤ length file)
    unfolding mark_changes
    mark_fits = let m = mark_changes in mark_inside v l.book id m.message s p at h.host m.file m.mark

-- what is found of the mark
pub offset_at : (tells : Bool) (kept : Option ℕ) (v : View) (s : Spot) (p : ℕ) (o : Option ℕ) (at : ℕ) → o ≡ Some at → IfSome o (λ a. (kept ≡ Some a) ⊎ (IsTrue tells → FindsOffset v s p a)) → (kept ≡ Some at) ⊎ (IsTrue tells → FindsOffset v s p at)
offset_at tells kept v s p o at is h = subst (λ (x : Option ℕ). IfSome x (λ a. (kept ≡ Some a) ⊎ (IsTrue tells → FindsOffset v s p a))) is h

-- the mark of a recipient that has none is found in the file
pub bare_found : (v : View) (f : Files) (s : Spot) (p : ℕ) (found : Option ℕ) → f ≡ v.files → HasBareMark v s p → FindsMark f s p found → found ≡ None → ⊥
bare_found v f s p found same has finds none =
    let here : found ≡ Some (mark_at (file_message has.message) p) = finds has.book has.id has.message (subst (λ (x : Files). Stands x has.book) (sym same) has.host.reads) has.file ∙ unmarked-found has.message p has.bare in
    let bad : None ≡ Some (mark_at (file_message has.message) p) = sym none ∙ here in
    cc

-- what is read of the mark
pub found_offset : (tells : Bool) (kept : Option ℕ) (v : View) (f : Files) (s : Spot) (p : ℕ) (o : Option ℕ) → (IsTrue tells → f ≡ v.files) → (IsTrue tells → FindsMark f s p o) → IfSome o (λ at. (kept ≡ Some at) ⊎ (IsTrue tells → FindsOffset v s p at))
found_offset tells kept v f s p None same finds = tt
found_offset tells kept v f s p (Some at) same finds = inr (λ t b id m h file. mark-found m p at (sym (finds t b id m (subst (λ (x : Files). Stands x b) (sym (same t)) h.reads) file)))

-- the record of the failure is the entry's
pub log_changes : (w : World) (l : Ledger) (id : Id) (f : Failure) (engine : Engine) (v : View) → HasDecided w l (decisions.Log id f) (entries.Log id f) engine v → AddsFailure id f l.book (change w l (entries.Log id f)).book
log_changes w l id f engine v h =
    let m = log_speaks w l id f h.was.consistent h.following in
    record { message = m.message; found = m.there; here = m.here; fresh = m.fresh; firm = m.firm; changed = refl }
