-- An event that the core has heard, told.
use Rattle.std.proofs.Common.{◌≡◌, true, false, sym, subst, refl, ap, ◌∙◌}
use Rattle.std.proofs.lemmas.Bool.{and_from, or_left}
use Rattle.q_model.specs.Book.{Book}
use Rattle.q_model.specs.Ledger.{Ledger}
use Rattle.q_model.specs.Past.{is_living}
use Rattle.q_model.specs.Settings.{Table, World}
use Rattle.q_model.specs.Step.{after, allowed, change, may}
use Rattle.q_model.specs.declared.entry.Entry.{Entry}
use Rattle.q_host.specs.declared.error.HostError.{HostError}
use Rattle.q_host.specs.View.{View}
use Rattle.q_lives.proofs.Books.{after_is}
use Rattle.q_transport.specs.Routing.{table_of}
use Rattle.q_core.specs.Agrees.{Agrees}
use Rattle.q_books.specs.HostStands.{TellsCrashes}
use Rattle.q_entries.specs.Entries.{DoesEntry, StopsEntry}
use Rattle.q_entries.proofs.Lines.{as_it_was, stands_still}
use Rattle.q_lives.specs.Standing.{is_remove_of}
use Rattle.q_model.specs.declared.id.Id.{Id}
use Rattle.q_places.specs.declared.places.Places.{Places}
use Rattle.q_engine.specs.Heard.{WasDone}
use Rattle.q_engine.specs.KeptNotes.{StoresNotes}
use Rattle.q_engine.specs.KeptPlaces.{ArePlaced}
use Rattle.q_engine.proofs.KeptPlaces.{none_leave, placed_after}
use Rattle.q_engine.specs.Stands.{EngineStands, HasCounts}
use Rattle.q_engine.specs.declared.engine.Engine.{Engine}

-- an entry from outside is allowed where its row says so
pub allowed_by : (w : World) (l : Ledger) (e : Entry) → is_living l ≡ true → may w l e ≡ true → allowed w l e ≡ true
unfolding allowed
allowed_by w l e living can = and_from _ _ (or_left (is_living l) _ living) can

module _ (w : World) (l : Ledger) (e : Entry) (engine : Engine) (v : View) (h : EngineStands w engine v l) where
  abbrev lines : Table
  lines = table_of engine.table

  -- it was done and told; the engine that is left has the core that heard it
  pub done : (left : Engine) (k : Book) (x : View) → left.table ≡ engine.table → left.places ≡ engine.places → ((id : Id) → is_remove_of id e ≡ false) → Agrees w left.core.value (after w l e) → HasCounts left (after w l e) → k ≡ (change w l e).book → DoesEntry lines e l.book k v x → StoresNotes w l e v.files x.files → WasDone w l e left v x
  done left k x table places stays core counts is does stores =
      let there : k ≡ (after w l e).book = is ∙ sym (after_is w l e).book in
      let told = subst (λ (t : Table). DoesEntry t e l.book (after w l e).book v x) (sym h.table) (subst (λ (b : Book). DoesEntry lines e l.book b v x) there does) in
      record {
        does = told;
        stands = record { table = h.table ∙ ap table_of (sym table); core = core; counts = counts; host = told.stands; logs = told.logs h.logs; places = subst (λ (p : Places). ArePlaced p (after w l e).book) (sym places) (placed_after w l e engine.places h.core.consistent (none_leave engine.places e stays) h.places) };
        notes = stores;
      }

  pub stopped : (k : Book) (error : HostError) (x : View) → k ≡ (change w l e).book → StopsEntry lines e l.book k error v x → StopsEntry w.table e l.book (after w l e).book error v x
  stopped k error x is stops =
      let there : k ≡ (after w l e).book = is ∙ sym (after_is w l e).book in
      subst (λ (t : Table). StopsEntry t e l.book (after w l e).book error v x) (sym h.table) (subst (λ (b : Book). StopsEntry lines e l.book b error v x) there stops)

  -- nothing was done
  pub not_done : (error : HostError) → TellsCrashes v → StopsEntry w.table e l.book (after w l e).book error v v
  not_done error lawful = stopped (change w l e).book error v refl (as_it_was lines e l.book (change w l e).book error v v lawful (stands_still v) h.host)
