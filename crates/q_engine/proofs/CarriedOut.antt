-- An entry that the core has taken over, carried out on disk and told.
use Rattle.std.proofs.Common.{◌≡◌, ◌≢◌, ◌+◌, ◌-◌, ◌^◌, ℕ, min, false, true, Some, sym, subst, refl, ◌∙◌}
use Rattle.q_model.specs.Book.{Book}
use Rattle.q_model.specs.CutOff.{cut_off}
use Rattle.q_model.specs.declared.id.Id.{Id}
use Rattle.q_model.specs.Ledger.{Ledger}
use Rattle.q_model.specs.Past.{is_arrive, is_life}
use Rattle.q_model.specs.Settings.{Table, World}
use Rattle.q_model.specs.Step.{after, change}
use Rattle.q_model.specs.declared.entry.Entry.{Entry}
use Rattle.q_host.specs.declared.error.HostError.{HostError}
use Rattle.q_host.specs.declared.error.HostError.TheVariants.{Tell}
use Rattle.q_host.specs.View.{View}
use Rattle.q_lives.proofs.Books.{after_is}
use Rattle.q_lives.specs.Standing.{is_remove_of}
use Rattle.q_transport.specs.Routing.{table_of}
use Rattle.q_core.specs.declared.decision.Decision.{Decision}
use Rattle.q_books.specs.HostStands.{Takes, TellsCrashes, Tries, TriesLoosely}
use Rattle.q_entries.specs.Entries.{DoesEntry, StopsEntry}
use Rattle.q_entries.proofs.Lines.{as_it_was, changed_does, changed_stops, may_stop, may_stop_loosely, stands_still}
use Rattle.q_engine.specs.KeptNotes.{StoresNotes}
use Rattle.q_places.specs.Kept.{IsFewer}
use Rattle.q_places.specs.declared.places.Places.{Places}
use Rattle.q_engine.specs.KeptPlaces.{ArePlaced}
use Rattle.q_core.specs.declared.decision.Decision.TheVariants as decisions
use Rattle.q_engine.specs.Stands.{EngineStands, HasDecided, is_preempt, IsNextEntry}
use Rattle.q_engine.specs.Steps.{WasCarriedOut, WasGivenUp}
use Rattle.q_engine.specs.declared.engine.Engine.{Engine}
use Rattle.q_engine.proofs.Counting.{counts_preempt, counts_stay}
use Rattle.q_engine.proofs.KeptPlaces.{KeepsOthers, none_leave, placed_after, placed_fewer}

-- the entry neither begins a life, nor is it counted, and no message leaves by it
pub record IsUncounted (e : Entry) : Type 0 where
  pub life : is_life e ≡ false
  pub arrive : is_arrive e ≡ false
  pub preempt : is_preempt e ≡ false
  pub stays : (id : Id) → is_remove_of id e ≡ false

module _ (w : World) (l : Ledger) (d : Decision) (e : Entry) (engine : Engine) (v : View) (h : HasDecided w l d e engine v) where
  abbrev next_book : Book
  next_book = (after w l e).book

  abbrev lines : Table
  lines = table_of engine.table

  -- what is kept stays true where nothing is kept of a message that leaves
  places_stay : KeepsOthers engine.places e → ArePlaced engine.places next_book
  places_stay gone = placed_after w l e engine.places h.was.consistent gone h.places

  -- it was done and told
  pub carried_left : (k : Book) (x : View) → is_life e ≡ false → is_arrive e ≡ false → is_preempt e ≡ false → KeepsOthers engine.places e → k ≡ (change w l e).book → DoesEntry lines e l.book k v x → StoresNotes w l e v.files x.files → WasCarriedOut w l engine v x
  carried_left k x life arrive preempt gone is does stores =
      let there : k ≡ next_book = is ∙ sym (after_is w l e).book in
      let done = subst (λ (t : Table). DoesEntry t e l.book next_book v x) (sym h.table) (subst (λ (b : Book). DoesEntry lines e l.book b v x) there does) in
      record {
        entry_told = e;
        following = h.following;
        does = done;
        stands = record { table = h.table; core = h.core; counts = counts_stay w l e engine life arrive preempt h.counts; host = done.stands; logs = done.logs h.logs; places = places_stay gone };
        notes = stores;
      }

  -- the same, where no message leaves
  pub carried : (k : Book) (x : View) → IsUncounted e → k ≡ (change w l e).book → DoesEntry lines e l.book k v x → StoresNotes w l e v.files x.files → WasCarriedOut w l engine v x
  carried k x plain is does stores = carried_left k x plain.life plain.arrive plain.preempt (none_leave engine.places e plain.stays) is does stores

  -- a preemption was told, and is counted
  pub carried_preempt : (more : ℕ) (x : View) → is_life e ≡ false → is_arrive e ≡ false → is_preempt e ≡ true → ((id : Id) → is_remove_of id e ≡ false) → l.book ≡ (change w l e).book → more ≡ min (engine.preempts + 1) (2 ^ 64 - 1) → DoesEntry lines e l.book l.book v x → StoresNotes w l e v.files x.files
      → WasCarriedOut w l (record engine { preempts = more }) v x
  carried_preempt more x life arrive preempt stays is next does stores =
      let there : l.book ≡ next_book = is ∙ sym (after_is w l e).book in
      let done = subst (λ (t : Table). DoesEntry t e l.book next_book v x) (sym h.table) (subst (λ (b : Book). DoesEntry lines e l.book b v x) there does) in
      record {
        entry_told = e;
        following = h.following;
        does = done;
        stands = record { table = h.table; core = h.core; counts = counts_preempt w l e engine more life arrive preempt next h.counts; host = done.stands; logs = done.logs h.logs; places = places_stay (none_leave engine.places e stays) };
        notes = stores;
      }

  -- it was given up
  pub given_up : (k : Book) (error : HostError) (x : View) → k ≡ (change w l e).book → StopsEntry lines e l.book k error v x → WasGivenUp w l error v x
  given_up k error x is stops =
      let there : k ≡ next_book = is ∙ sym (after_is w l e).book in
      record {
        entry_told = e;
        following = h.following;
        stops = subst (λ (t : Table). StopsEntry t e l.book next_book error v x) (sym h.table) (subst (λ (b : Book). StopsEntry lines e l.book b error v x) there stops);
      }

  -- the disk changed first, and then the line was told
  pub carried_behind : (k : Book) (m x : View) → IsUncounted e → k ≡ (change w l e).book → Takes l.book k v m → DoesEntry lines e k k m x → StoresNotes w l e v.files x.files → WasCarriedOut w l engine v x
  carried_behind k m x plain is takes does stores = carried k x plain is (changed_does lines e l.book k v m x takes does) stores

  -- the same, where a message leaves of which nothing is kept
  pub left_behind : (k : Book) (m x : View) → is_life e ≡ false → is_arrive e ≡ false → is_preempt e ≡ false → KeepsOthers engine.places e → k ≡ (change w l e).book → Takes l.book k v m → DoesEntry lines e k k m x → StoresNotes w l e v.files x.files → WasCarriedOut w l engine v x
  left_behind k m x life arrive preempt gone is takes does stores = carried_left k x life arrive preempt gone is (changed_does lines e l.book k v m x takes does) stores

  -- the disk changed, and the line was refused
  pub given_up_behind : (k : Book) (error : HostError) (m x : View) → k ≡ (change w l e).book → Takes l.book k v m → StopsEntry lines e k k error m x → WasGivenUp w l error v x
  given_up_behind k error m x is takes stops = given_up k error x is (changed_stops lines e l.book k v m x takes error stops)

  -- the disk refused
  pub refused : (k : Book) (error : HostError) (m : View) → k ≡ (change w l e).book → Tries l.book k v m → WasGivenUp w l error v m
  refused k error m is tries = given_up k error m is (may_stop lines e l.book k error v m tries)

  -- disk or memory refused, and what was changed may be loose
  pub refused_loosely : (k : Book) (error : HostError) (m : View) → error ≢ Tell → k ≡ (change w l e).book → TriesLoosely l.book k (cut_off e k) v m → WasGivenUp w l error v m
  refused_loosely k error m other is tries = given_up k error m is (may_stop_loosely lines e l.book k error v m other tries)

  -- nothing was done
  pub untouched : (error : HostError) → TellsCrashes v → WasGivenUp w l error v v
  untouched error lawful = given_up (change w l e).book error v refl (as_it_was lines e l.book (change w l e).book error v v lawful (stands_still v) h.host)

-- where less is kept
pub decided_fewer : (w : World) (l : Ledger) (d : Decision) (e : Entry) (engine : Engine) (v : View) (places : Places) → IsFewer engine.places places → HasDecided w l d e engine v → HasDecided w l d e (record engine { places = places }) v
decided_fewer w l d e engine v places less h = record {
  before = h.before;
  table = h.table;
  of = h.of;
  following = h.following;
  was = h.was;
  core = h.core;
  placed = h.placed;
  started = h.started;
  skipped = h.skipped;
  counts = record { begun = h.counts.begun; generation = h.counts.generation; arrivals = h.counts.arrivals; preempts = h.counts.preempts };
  host = h.host;
  logs = h.logs;
  places = placed_fewer engine.places places l.book less h.places;
}

stands_fewer : (w : World) (l : Ledger) (engine : Engine) (v : View) (places : Places) → IsFewer engine.places places → EngineStands w engine v l → EngineStands w (record engine { places = places }) v l
stands_fewer w l engine v places less h = record {
  table = h.table;
  core = h.core;
  counts = record { begun = h.counts.begun; generation = h.counts.generation; arrivals = h.counts.arrivals; preempts = h.counts.preempts };
  host = h.host;
  logs = h.logs;
  places = placed_fewer engine.places places l.book less h.places;
}

pub next_fewer : (w : World) (l : Ledger) (d : Decision) (engine : Engine) (v : View) (places : Places) → IsFewer engine.places places → IsNextEntry w l (Some d) engine v → IsNextEntry w l (Some d) (record engine { places = places }) v
next_fewer w l (decisions.Read id from max) engine v places less n = record { message = n.message; there = n.there; room = n.room; following = n.following; stands = stands_fewer w l engine v places less n.stands }
next_fewer w l d engine v places less n = (n.0, decided_fewer w l d n.0 engine v places less n.1)
