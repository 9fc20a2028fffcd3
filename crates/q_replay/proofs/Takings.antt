-- An item of a list, carried out by a life: the first of a life, one that is heard, and the last.
use Rattle.std.proofs.Common.{◌≡◌, ◌<◌, ◌+◌, ◌-◌, ◌^◌, ◌++◌, ⊎_elim, inl, ℕ, Bool, true, false, List, [], ◌∷◌, Option, Some, None, refl, sym, ap, subst, ◌∙◌, append-nil, arith, if◌then◌else◌, zero, suc}
use Rattle.std.specs.Option.{option_map_or}
use Rattle.std.specs.Result.{IsErrAnd}
use Rattle.std.specs.Prelude.{Err, IfErr, IsErrOf, nat_lt, not, Ok, Result, take, ◌||◌}
use Rattle.std.proofs.lemmas.Bool.{lt-ltb, ltb-true}
use Rattle.q_books.specs.HostStands.{HostStands, IsLeftOf, TellsCrashes}
use Rattle.q_books.proofs.Joining.{reads_keep}
use Rattle.q_engine.specs.Beginnings.{BeginsLife, EndsLife, first_entry, is_of_spool, StopsBeginning, StopsEnding}
use Rattle.q_engine.proofs.StoredNotes.{files_keep, life_notes, plain_notes}
use Rattle.q_engine.specs.KeptNotes.{AddsAllNotes}
use Rattle.q_engine.specs.Refusals.{is_of_event, is_of_host, is_unreadable, refusal_of, refused_event}
use Rattle.q_engine.specs.Stands.{EngineStands}
use Rattle.q_engine.specs.Steps.{HaltsTurn, TakesTurn}
use Rattle.q_engine.specs.declared.engine.Engine.{Engine}
use Rattle.q_engine.specs.declared.error.EngineError.{EngineError}
use Rattle.q_engine.specs.declared.error.EngineError.TheVariants as engine_errors
use Rattle.q_entries.specs.Entries.{DoesEntry, IsWithinEntry, StopsEntry}
use Rattle.q_entries.specs.Runs.{HaltsRun, IsLeftOfRun, PlaysRun}
use Rattle.q_entries.proofs.Playing.{plays_given_up, plays_halts, plays_more, plays_none, plays_reads}
use Rattle.q_model.specs.declared.limits.Bound.{Bound}
use Rattle.q_model.specs.declared.limits.Bound.TheVariants.{Generation}
use Rattle.q_events.specs.declared.list_item.ListItem.{ListItem}
use Rattle.q_events.specs.declared.list_item.ListItem.TheVariants.{End, Restart, Step}
use Rattle.q_host.specs.Calls.{Stays}
use Rattle.q_host.proofs.Moments.{leaves_here, leaves_on}
use Rattle.q_host.specs.View.{Remains, View}
use Rattle.q_host.specs.declared.error.HostError.{HostError}
use Rattle.q_host.specs.declared.error.HostError.TheVariants as faults
use Rattle.q_laws.specs.Laws.{opened_ledger}
use Rattle.q_lives.proofs.Books.{after_is}
use Rattle.q_model.specs.Book.{Book}
use Rattle.q_model.specs.Ledger.{Ledger}
use Rattle.q_model.specs.Run.{entry_of, turn}
use Rattle.q_model.specs.Settings.{Settings, Table, World}
use Rattle.q_model.specs.Step.{after, after_all}
use Rattle.q_model.specs.Text.{line as line_of, text}
use Rattle.q_model.specs.declared.entry.Entry.{Entry}
use Rattle.q_model.specs.declared.entry.Entry.TheVariants as entries
use Rattle.q_model.specs.declared.event.Event.{Event}
use Rattle.q_model.specs.declared.event.LifeEvent.TheVariants.{Begin, Finish, Heard}
use Rattle.q_model.specs.declared.event.Mode.{Mode}
use Rattle.q_model.specs.declared.event.Mode.TheVariants.{Deliver}
use Rattle.q_model.specs.declared.spot.Area.{Area}
use Rattle.q_replay.specs.Reading.{is_spent, refusal_at}
use Rattle.q_replay.specs.Takings.{BeginsAnew, entries_taken, GivesUpItem, GivesUpNext, HaltsItem, MayBegin, NeverBegins, NotTaken, RefusedItem, replay_error, TakesItem, TakesNext, TookItem}
use Rattle.q_replay.specs.declared.error.ReplayError.{ReplayError}
use Rattle.q_replay.proofs.Modes.{begins_on, begun_timed, untimed_quiet}
use Rattle.q_replay.proofs.RunNotes.{adds_one}
use Rattle.q_restart.specs.Damages.{IsDamage}
use Rattle.q_restart.specs.Openings.{begun}
use Rattle.q_transport.specs.Contents.{Contents}
use Rattle.q_transport.specs.Routing.{table_of}

text_none : (t : Table) → text t [] ≡ []
unfolding text
text_none t = refl

-- ---- nothing was done

pub still : (w : World) (l : Ledger) (u v : View) → TellsCrashes u → HostStands u l.book → v ≡ u → PlaysRun w l [] u v
still w l u v lawful h same = subst (λ x. PlaysRun w l [] u x) (sym same) (plays_none w l u lawful h)

pub looked : (w : World) (l : Ledger) (u v : View) → TellsCrashes u → HostStands u l.book → Stays u v → PlaysRun w l [] u v
unfolding after_all
looked w l u v lawful h stays = plays_reads w l [] u u v (plays_none w l u lawful h) (reads_keep l.book l.book u v lawful stays h)

-- ---- a life that begins

spent_is : (l : Ledger) → nat_lt l.book.generation (2 ^ 32 - 1) ≡ false → is_spent l ≡ true
spent_is l h = ap not h

unspent : (l : Ledger) → nat_lt l.book.generation (2 ^ 32 - 1) ≡ true → is_spent l ≡ false
unspent l h = ap not h

refused_spent : (l : Ledger) → nat_lt l.book.generation (2 ^ 32 - 1) ≡ false → refusal_at l Restart ≡ Some (engine_errors.Limit Generation)
refused_spent l h = ap (λ b. if b then Some (engine_errors.Limit Generation) else None) (spent_is l h)

accepted_fresh : (l : Ledger) → nat_lt l.book.generation (2 ^ 32 - 1) ≡ true → refusal_at l Restart ≡ None
accepted_fresh l h = ap (λ b. if b then Some (engine_errors.Limit Generation) else None) (unspent l h)

turn_begin : (w : World) (l : Ledger) → turn w l Begin ≡ entry_of l Begin ∷ []
unfolding turn
turn_begin w l =
    let quiet = ap (λ (k : Ledger). k.timed) (begins_on w l) ∙ begun_timed w l.mode l.book in
    ap (λ (es : List Entry). entry_of l Begin ∷ es) (untimed_quiet w (after w l (entry_of l Begin)) quiet)

turn_end : (w : World) (l : Ledger) → turn w l Finish ≡ entries.End ∷ []
unfolding turn
turn_end w l = refl

-- one entry, and nothing before it
plays_one : (w : World) (l : Ledger) (e : Entry) (k : Book) (u v : View) → k ≡ (after w l e).book → TellsCrashes u → HostStands u l.book → DoesEntry w.table e l.book k u v → PlaysRun w l (e ∷ []) u v
unfolding after_all
plays_one w l e k u v is lawful h does = plays_more w l [] e k u u v is (plays_none w l u lawful h) does

halts_one : (w : World) (l : Ledger) (e : Entry) (k : Book) (error : HostError) (u v : View) → k ≡ (after w l e).book → TellsCrashes u → HostStands u l.book → StopsEntry w.table e l.book k error u v → HaltsRun w l (e ∷ []) error u v
unfolding after_all
halts_one w l e k error u v is lawful h stops = plays_halts w l [] e [] k error u u v is (plays_none w l u lawful h) stops

module _ (params : Settings) (table : Contents) (mode : Mode) (w : World) (l : Ledger) (u : View) (may : MayBegin params table mode w l u) (lawful : TellsCrashes u) where
  abbrev own : Entry
  own = entry_of l Begin

  book_is : begun l.book ≡ (after w l own).book
  book_is = sym (after_is w l own).book

  same_own : first_entry l.book mode ≡ own
  same_own = ap (λ (m : Mode). entries.Life (l.book.generation + 1) m) (sym may.mode_is)

  ledger_is : opened_ledger w mode l.book ≡ after w l own
  ledger_is = sym (begins_on w l ∙ ap (λ (m : Mode). opened_ledger w m l.book) may.mode_is)

  told_own : (v : View) → DoesEntry (table_of table) (first_entry l.book mode) l.book (begun l.book) u v → DoesEntry w.table own l.book (begun l.book) u v
  told_own v does = subst (λ (t : Table). DoesEntry t own l.book (begun l.book) u v) (sym may.table_is) (subst (λ (e : Entry). DoesEntry (table_of table) e l.book (begun l.book) u v) same_own does)

  stopped_own : (error : HostError) (v : View) → StopsEntry (table_of table) (first_entry l.book mode) l.book (begun l.book) error u v → StopsEntry w.table own l.book (begun l.book) error u v
  stopped_own error v stops = subst (λ (t : Table). StopsEntry t own l.book (begun l.book) error u v) (sym may.table_is) (subst (λ (e : Entry). StopsEntry (table_of table) e l.book (begun l.book) error u v) same_own stops)

  pub took_life : (engine : Engine) (v : View) → BeginsLife params table mode engine u v → TookItem w l Restart (Some engine) u v
  unfolding after_all
  took_life engine v begins =
      let began = begins l.book may.host in
      let fits : l.book.generation + 1 < 2 ^ 32 = began.does.stands.reads.boot.fits in
      let below : l.book.generation < 2 ^ 32 - 1 = omega (arith, fits) in
      let stands = began.stands may.host.reads.distinct may.orderly w may.settings may.table_is in
      record {
        accepted = accepted_fresh l (lt-ltb l.book.generation (2 ^ 32 - 1) below);
        plays = subst (λ (es : List Entry). PlaysRun w l es u v) (sym (turn_begin w l)) (plays_one w l own (begun l.book) u v book_is lawful may.host (told_own v began.does));
        notes = subst (λ (es : List Entry). AddsAllNotes w l es u.files v.files) (sym (turn_begin w l)) (adds_one w l own u.files v.files (life_notes w l (l.book.generation + 1) l.mode u.files v.files began.logs));
        stands = subst (λ (es : List Entry). EngineStands w engine v (after_all w l es)) (sym (turn_begin w l)) (subst (EngineStands w engine v) ledger_is stands);
      }

  -- no generation is left, so that none was begun
  none_begun : nat_lt l.book.generation (2 ^ 32 - 1) ≡ false → l.book.generation + 1 < 2 ^ 32 → ⊥
  none_begun spent fits =
      let below : l.book.generation < 2 ^ 32 - 1 = omega (arith, fits) in
      let bad : true ≡ false = sym (lt-ltb l.book.generation (2 ^ 32 - 1) below) ∙ spent in
      absurd cc

  never_stands : (v : View) → nat_lt l.book.generation (2 ^ 32 - 1) ≡ false → HostStands v (begun l.book) → ⊥
  never_stands v spent h = none_begun spent h.reads.boot.fits

  never_left : (c : Remains) → nat_lt l.book.generation (2 ^ 32 - 1) ≡ false → IsLeftOf (begun l.book) c → ⊥
  never_left c spent h = none_begun spent (subst (λ (g : ℕ). g < 2 ^ 32) h.after.generation h.stands.boot.fits)

  no_text : u.told ++ [] ≡ (u.told ++ text w.table []) ++ []
  no_text = ap (λ (xs : List ℕ). u.told ++ xs) (sym (text_none w.table)) ∙ sym (append-nil (u.told ++ text w.table []))

  none_told : (part : ℕ) (told : List ℕ) → told ≡ u.told ++ take part (line_of w.table own) → (0 < part → ⊥) → told ≡ (u.told ++ text w.table []) ++ []
  none_told zero told is first = is ∙ no_text
  none_told (suc n) told is first = absurd (first (omega arith))

  none_left : (c : Remains) → u.may_leave c → IsLeftOfRun w l [] u.told c
  unfolding after_all
  none_left c may_leave = record {
    done = [];
    rest = [];
    all = refl;
    part = 0;
    short = omega arith;
    told = lawful.told c may_leave ∙ sym (append-nil u.told) ∙ no_text;
    book = inl (may.host.crash c may_leave);
    disk_first = λ some. absurd (omega arith);
  }

  left_none : (c : Remains) → nat_lt l.book.generation (2 ^ 32 - 1) ≡ false → IsWithinEntry w.table own l.book (begun l.book) u.told c → IsLeftOfRun w l [] u.told c
  unfolding after_all
  left_none c spent within = record {
    done = [];
    rest = [];
    all = refl;
    part = 0;
    short = omega arith;
    told = none_told within.part c.told within.told (λ some. never_left c spent (within.disk_first some));
    book = inl (⊎_elim (λ h. h) (λ h. absurd (never_left c spent h)) within.book);
    disk_first = λ some. absurd (omega arith);
  }

  pub halts_none : (error : HostError) (v : View) → nat_lt l.book.generation (2 ^ 32 - 1) ≡ false → StopsEntry w.table own l.book (begun l.book) error u v → HaltsRun w l [] error u v
  unfolding after_all
  halts_none error v spent stops = record {
    done = [];
    rest = [];
    all = refl;
    part = 0;
    short = omega arith;
    told = none_told stops.part v.told stops.told (λ some. never_stands v spent (stops.disk_first some));
    only_tell = λ other. refl;
    stands = ⊎_elim (λ h. h) (λ more. absurd (never_stands v spent (⊎_elim (λ h. h) (λ h. h.1) more))) stops.stands;
    disk_first = λ some. absurd (omega arith);
    moments = leaves_on (IsLeftOfRun w l [] u.told) (leaves_here (IsLeftOfRun w l [] u.told) u lawful.only (λ c left. none_left c left)) stops.moments (λ c a. a) (λ c a. left_none c spent a);
  }

  halts_life_by : (error : HostError) (v : View) (t : Bool) → nat_lt l.book.generation (2 ^ 32 - 1) ≡ t → StopsEntry w.table own l.book (begun l.book) error u v → HaltsItem w l Restart error u v
  halts_life_by error v true fresh stops =
      let all : entries_taken w l Restart ≡ own ∷ [] = ap (λ (o : Option EngineError). option_map_or (λ (why : EngineError). []) o (turn w l Begin)) (accepted_fresh l fresh) ∙ turn_begin w l in
      subst (λ (es : List Entry). HaltsRun w l es error u v) (sym all) (halts_one w l own (begun l.book) error u v book_is lawful may.host stops)
  halts_life_by error v false spent stops =
      let all : entries_taken w l Restart ≡ [] = ap (λ (o : Option EngineError). option_map_or (λ (why : EngineError). []) o (turn w l Begin)) (refused_spent l spent) in
      subst (λ (es : List Entry). HaltsRun w l es error u v) (sym all) (halts_none error v spent stops)

  halts_life : (error : HostError) (v : View) → StopsBeginning table mode error u v → HaltsItem w l Restart error u v
  halts_life error v stops = halts_life_by error v (nat_lt l.book.generation (2 ^ 32 - 1)) refl (stopped_own error v (stops l.book may.host))

  -- the spool is refused, as no generation is left
  spent_by : (error : EngineError) (t : Bool) → nat_lt l.book.generation (2 ^ 32 - 1) ≡ t → is_of_spool error ≡ true → (l.book.generation < 2 ^ 32 - 1 → is_of_spool error ≡ false) → nat_lt l.book.generation (2 ^ 32 - 1) ≡ false
  spent_by error false h of orderly = h
  spent_by error true h of orderly =
      let bad : true ≡ false = sym of ∙ orderly (ltb-true l.book.generation (2 ^ 32 - 1) h) in
      absurd cc

  spent : (error : EngineError) → is_of_spool error ≡ true → (l.book.generation < 2 ^ 32 - 1 → is_of_spool error ≡ false) → nat_lt l.book.generation (2 ^ 32 - 1) ≡ false
  spent error of orderly = spent_by error (nat_lt l.book.generation (2 ^ 32 - 1)) refl of orderly

  -- what the beginning of a life says of its refusal
  pub record IsNeverBegun (error : EngineError) (v : View) : Type 0 where
    pub kinds : (is_of_host error || is_of_spool error) ≡ true
    pub stops : (fault : HostError) → error ≡ refusal_of fault → StopsBeginning table mode fault u v
    pub untouched : is_of_spool error ≡ true → Stays u v
    pub damage : (area : Area) (name : List ℕ) → error ≡ engine_errors.Damaged area name → IsDamage u.files area name
    pub limit : (bound : Bound) → error ≡ engine_errors.Limit bound → bound ≡ Generation
    pub orderly : l.book.generation < 2 ^ 32 - 1 → is_of_spool error ≡ false

  pub never_begins : (line : ℕ) (error : EngineError) (v : View) → IsNeverBegun error v → NotTaken w l Restart line (replay_error line error) u v
  never_begins line engine_errors.Disk v h = halts_life faults.Disk v (h.stops faults.Disk refl)
  never_begins line engine_errors.Tell v h = halts_life faults.Tell v (h.stops faults.Tell refl)
  never_begins line engine_errors.NoMemory v h = halts_life faults.NoMemory v (h.stops faults.NoMemory refl)
  never_begins line (engine_errors.Unknown number) v h = let bad : false ≡ true = h.kinds in absurd cc
  never_begins line (engine_errors.WrongCount number want got) v h = let bad : false ≡ true = h.kinds in absurd cc
  never_begins line engine_errors.Untimed v h = let bad : false ≡ true = h.kinds in absurd cc
  never_begins line (engine_errors.Unreadable area name) v h = let bad : false ≡ true = h.kinds in absurd cc
  never_begins line (engine_errors.Limit bound) v h =
      let none = refused_spent l (spent (engine_errors.Limit bound) refl h.orderly) in
      record {
        why = engine_errors.Limit Generation;
        refused = none;
        names = ap (λ (x : Bound). replay_error line (engine_errors.Limit x)) (h.limit bound refl);
        stays = looked w l u v lawful may.host (h.untouched refl);
        files = (h.untouched refl).files;
      }
  never_begins line (engine_errors.Damaged area name) v h = record {
    damage = subst (λ f. IsDamage f area name) (sym (h.untouched refl).files) (h.damage area name refl);
    refused = (engine_errors.Limit Generation, refused_spent l (spent (engine_errors.Damaged area name) refl h.orderly));
    stays = looked w l u v lawful may.host (h.untouched refl);
    files = (h.untouched refl).files;
  }

-- ---- an event that is heard

module _ (w : World) (l : Ledger) (engine : Engine) (event : Event) (at : ℕ) (u : View) (stands : EngineStands w engine u l) (lawful : TellsCrashes u) where
  pub heard : (next : Engine) (v : View) → refused_event l event ≡ None → TakesTurn event engine next u v → TookItem w l (Step event at) (Some next) u v
  heard next v accepted turns =
      let took = turns w l stands in
      record { accepted = accepted; plays = took.plays; notes = took.notes.adds; stands = took.stands }

  -- what a step says of its refusal
  pub record IsNeverHeard (error : EngineError) (v : View) : Type 1 where
    pub kinds : (is_of_host error || (is_of_event error || is_unreadable error)) ≡ true
    pub readable : is_unreadable error ≡ false
    pub halts : (fault : HostError) → error ≡ refusal_of fault → HaltsTurn event engine fault u v
    pub refused : (why : EngineError) → refused_event l event ≡ Some why → v ≡ u
    pub only : is_of_event error ≡ true → refused_event l event ≡ Some error

  halts_by : (fault : HostError) (v : View) (o : Option EngineError) → refused_event l event ≡ o → ((why : EngineError) → o ≡ Some why → v ≡ u) → HaltsTurn event engine fault u v → HaltsItem w l (Step event at) fault u v
  halts_by fault v None e refused halts =
      let all : entries_taken w l (Step event at) ≡ turn w l (Heard event) = ap (λ (o : Option EngineError). option_map_or (λ (why : EngineError). []) o (turn w l (Heard event))) e in
      subst (λ (es : List Entry). HaltsRun w l es fault u v) (sym all) (halts w l stands)
  halts_by fault v (Some why) e refused halts =
      let all : entries_taken w l (Step event at) ≡ [] = ap (λ (o : Option EngineError). option_map_or (λ (why : EngineError). []) o (turn w l (Heard event))) e in
      subst (λ (es : List Entry). HaltsRun w l es fault u v) (sym all) (plays_given_up w l [] [] fault u v (still w l u v lawful stands.host (refused why refl)))

  halted : (fault : HostError) (error : EngineError) (v : View) → error ≡ refusal_of fault → IsNeverHeard error v → HaltsItem w l (Step event at) fault u v
  halted fault error v is h = halts_by fault v (refused_event l event) refl h.refused (h.halts fault is)

  event_refused : (line : ℕ) (error : EngineError) (v : View) → is_of_event error ≡ true → IsNeverHeard error v → RefusedItem w l (Step event at) line (replay_error line error) u v
  event_refused line error v of h = record {
    why = error;
    refused = h.only of;
    names = refl;
    stays = still w l u v lawful stands.host (h.refused error (h.only of));
    files = ap (λ (x : View). x.files) (h.refused error (h.only of));
  }

  pub never_heard : (line : ℕ) (error : EngineError) (v : View) → IsNeverHeard error v → NotTaken w l (Step event at) line (replay_error line error) u v
  never_heard line engine_errors.Disk v h = halted faults.Disk engine_errors.Disk v refl h
  never_heard line engine_errors.Tell v h = halted faults.Tell engine_errors.Tell v refl h
  never_heard line engine_errors.NoMemory v h = halted faults.NoMemory engine_errors.NoMemory v refl h
  never_heard line (engine_errors.Unknown number) v h = event_refused line (engine_errors.Unknown number) v refl h
  never_heard line (engine_errors.WrongCount number want got) v h = event_refused line (engine_errors.WrongCount number want got) v refl h
  never_heard line engine_errors.Untimed v h = event_refused line engine_errors.Untimed v refl h
  never_heard line (engine_errors.Limit bound) v h = event_refused line (engine_errors.Limit bound) v refl h
  never_heard line (engine_errors.Damaged area name) v h = let bad : false ≡ true = h.kinds in absurd cc
  never_heard line (engine_errors.Unreadable area name) v h = let bad : true ≡ false = h.readable in absurd cc

-- ---- the end

module _ (w : World) (l : Ledger) (engine : Engine) (u : View) (stands : EngineStands w engine u l) (lawful : TellsCrashes u) where
  pub took_end : (v : View) → EndsLife engine u v → v.files ≡ u.files → TookItem w l End None u v
  took_end v ends same = record {
    accepted = refl;
    plays = subst (λ (es : List Entry). PlaysRun w l es u v) (sym (turn_end w l)) (plays_one w l entries.End (after w l entries.End).book u v refl lawful stands.host (ends w l stands));
    notes = subst (λ (es : List Entry). AddsAllNotes w l es u.files v.files) (sym (turn_end w l)) (adds_one w l entries.End u.files v.files (plain_notes w l entries.End u v refl (files_keep u v same)).adds);
    stands = tt;
  }

  halts_end : (fault : HostError) (v : View) → StopsEnding engine fault u v → HaltsItem w l End fault u v
  halts_end fault v stops = subst (λ (es : List Entry). HaltsRun w l es fault u v) (sym (turn_end w l)) (halts_one w l entries.End (after w l entries.End).book fault u v refl lawful stands.host (stops w l stands))

  pub never_ends : (line : ℕ) (error : EngineError) (v : View) → is_of_host error ≡ true → ((fault : HostError) → error ≡ refusal_of fault → StopsEnding engine fault u v) → NotTaken w l End line (replay_error line error) u v
  never_ends line engine_errors.Disk v of stops = halts_end faults.Disk v (stops faults.Disk refl)
  never_ends line engine_errors.Tell v of stops = halts_end faults.Tell v (stops faults.Tell refl)
  never_ends line engine_errors.NoMemory v of stops = halts_end faults.NoMemory v (stops faults.NoMemory refl)
  never_ends line (engine_errors.Unknown number) v of stops = let bad : false ≡ true = of in absurd cc
  never_ends line (engine_errors.WrongCount number want got) v of stops = let bad : false ≡ true = of in absurd cc
  never_ends line engine_errors.Untimed v of stops = let bad : false ≡ true = of in absurd cc
  never_ends line (engine_errors.Unreadable area name) v of stops = let bad : false ≡ true = of in absurd cc
  never_ends line (engine_errors.Limit bound) v of stops = let bad : false ≡ true = of in absurd cc
  never_ends line (engine_errors.Damaged area name) v of stops = let bad : false ≡ true = of in absurd cc

-- the error that an answer holds
pub error_is : {T : Type 0} (e f : EngineError) → e ≡ f → IsErrOf {T = T} (Err e) f
error_is e f h = ap (λ (x : EngineError). Err x) h

-- an event that was heard wasn't refused
pub not_refused : (r : Result Engine EngineError) (next : Engine) (o : Option EngineError) → r ≡ Ok next → ((why : EngineError) → o ≡ Some why → IsErrOf r why) → o ≡ None
not_refused r next None is h = refl
not_refused r next (Some why) is h = let bad : Ok next ≡ Err why = sym is ∙ h why refl in absurd cc

-- ---- any item

-- an item is this one
pub for_item : (params : Settings) (engine : Engine) (i j : ListItem) (next : Option Engine) (u v : View) → j ≡ i → TakesItem engine i next u v → TakesNext params engine j next u v
for_item params engine i j next u v is h w l stands settings mode = subst (λ k. TookItem w l k next u v) (sym is) (h w l stands)

pub for_item_up : (params : Settings) (engine : Engine) (i j : ListItem) (line : ℕ) (error : ReplayError) (u v : View) → j ≡ i → GivesUpItem engine i line error u v → GivesUpNext params engine j line error u v
for_item_up params engine i j line error u v is h w l stands settings mode = subst (λ k. NotTaken w l k line error u v) (sym is) (h w l stands)

-- the life that follows may begin
may_restart : (params : Settings) (table : Contents) (engine : Engine) (w : World) (l : Ledger) (u : View) → table ≡ engine.table → EngineStands w engine u l → params ≡ w.settings → l.mode ≡ Deliver → MayBegin params table Deliver w l u
may_restart params table engine w l u same h settings mode = record { host = h.host; orderly = h.core.consistent.book.orderly; mode_is = mode; settings = settings; table_is = h.table ∙ ap table_of (sym same) }

pub restarts : (params : Settings) (table : Contents) (engine next : Engine) (item : ListItem) (u v : View) → item ≡ Restart → table ≡ engine.table → BeginsAnew params table Deliver next u v → TakesNext params engine item (Some next) u v
restarts params table engine next item u v is same h w l stands settings mode =
    subst (λ k. TookItem w l k (Some next) u v) (sym is) (h w l (may_restart params table engine w l u same stands settings mode))

pub never_restarts : (params : Settings) (table : Contents) (engine : Engine) (item : ListItem) (line : ℕ) (error : ReplayError) (u v : View) → item ≡ Restart → table ≡ engine.table → NeverBegins params table Deliver line error u v → GivesUpNext params engine item line error u v
never_restarts params table engine item line error u v is same h w l stands settings mode =
    subst (λ k. NotTaken w l k line error u v) (sym is) (h w l (may_restart params table engine w l u same stands settings mode))

-- the error that a `?` passes on
pub passed_on : {T : Type 0} (r : Result T ReplayError) (inner : ReplayError) (P : ReplayError → Type 0) → IsErrAnd r (λ x. x ≡ inner) → P inner → IfErr r P
passed_on (Ok x) inner P is p = absurd is
passed_on (Err x) inner P is p = subst P (sym is) p
