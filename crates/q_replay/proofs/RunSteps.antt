-- One item more of a run: it is taken, refused, or given up.
use Rattle.std.proofs.Common.{◌≡◌, ℕ, Bool, true, false, List, [], ◌∷◌, ◌++◌, append-nil, Option, Some, None, refl, sym, ap, ◌∙◌, subst}
use Rattle.std.specs.Option.{option_map_or}
use Rattle.std.specs.Prelude.{Err, Ok}
use Rattle.q_books.specs.HostStands.{HostStands, TellsCrashes}
use Rattle.q_engine.specs.KeptNotes.{AddsAllNotes}
use Rattle.q_engine.specs.declared.error.EngineError.{EngineError}
use Rattle.q_engine.specs.declared.error.EngineError.TheVariants as engine_errors
use Rattle.q_entries.specs.Runs.{HaltsRun, PlaysRun}
use Rattle.q_entries.proofs.Playing.{halts_behind, plays_given_up, plays_none, plays_then}
use Rattle.q_events.specs.Readings.{is_list_end}
use Rattle.q_model.specs.declared.limits.Bound.{Bound}
use Rattle.q_events.specs.declared.list_item.ListItem.{ListItem}
use Rattle.q_host.specs.View.{View}
use Rattle.q_host.specs.declared.error.HostError.{HostError}
use Rattle.q_host.specs.declared.error.HostError.TheVariants as faults
use Rattle.q_model.specs.Book.{Book}
use Rattle.q_model.specs.Ledger.{Ledger, opening}
use Rattle.q_model.specs.Run.{turn}
use Rattle.q_model.specs.Settings.{World}
use Rattle.q_model.specs.Step.{after_all}
use Rattle.q_model.specs.declared.entry.Entry.{Entry}
use Rattle.q_model.specs.declared.event.LifeEvent.{LifeEvent}
use Rattle.q_model.specs.declared.event.Mode.{Mode}
use Rattle.q_replay.specs.Listings.{gives, Listing}
use Rattle.q_replay.specs.Reading.{ended, event_of, faulty, items_in, limited, read_items, reading_behind, refusal_at, refused_in, TakenItems}
use Rattle.q_replay.specs.RunEnds.{entries_on, HaltsIn, IsFrontOf, IsTold, IsToldInPart, NotesStand, RunEnds}
use Rattle.q_replay.specs.Takings.{entries_at, HaltsItem, NotTaken, replay_error, TookItem}
use Rattle.q_replay.specs.declared.error.ReplayError.{ReplayError}
use Rattle.q_replay.specs.declared.error.ReplayError.TheVariants as errors
use Rattle.q_replay.proofs.Readings.{behind_both, behind_none, comes_to_end, entries_more, entries_none, goes_on, ledger_more, ledger_none, ledger_on, refused_item, taken_item}
use Rattle.q_replay.proofs.RunNotes.{notes_none, notes_then}

-- ---- runs

pub told_more : (w : World) (mode : Mode) (b : Book) (items : List LifeEvent) (item : LifeEvent) (u v x : View) → IsTold w mode b items u v → PlaysRun w (ledger_on w mode b items) (turn w (ledger_on w mode b items) item) v x
    → AddsAllNotes w (ledger_on w mode b items) (turn w (ledger_on w mode b items) item) v.files x.files → IsTold w mode b (items ++ item ∷ []) u x
told_more w mode b items item u v x p q adds =
    let es = entries_on w mode b items in
    let fs = turn w (ledger_on w mode b items) item in
    let all : es ++ fs ≡ entries_on w mode b (items ++ item ∷ []) = sym (entries_more w mode b items item) in
    record {
      plays = subst (λ (xs : List Entry). PlaysRun w (opening mode b) xs u x) all (plays_then w (opening mode b) es fs u v x p.plays q);
      notes = subst (λ (xs : List Entry). NotesStand w (opening mode b) xs x.files) all (notes_then w (opening mode b) es fs v.files x.files p.notes adds);
    }

pub told_still : (w : World) (mode : Mode) (b : Book) (items : List LifeEvent) (u v x : View) → IsTold w mode b items u v → PlaysRun w (ledger_on w mode b items) [] v x → x.files ≡ v.files → IsTold w mode b items u x
told_still w mode b items u v x p q same =
    let es = entries_on w mode b items in
    record {
      plays = subst (λ (xs : List Entry). PlaysRun w (opening mode b) xs u x) (append-nil es) (plays_then w (opening mode b) es [] u v x p.plays q);
      notes = subst (NotesStand w (opening mode b) es) (sym same) p.notes;
    }

pub halted_more : (w : World) (mode : Mode) (b : Book) (items : List LifeEvent) (item : LifeEvent) (error : HostError) (u v x : View) → IsTold w mode b items u v → HaltsRun w (ledger_on w mode b items) (turn w (ledger_on w mode b items) item) error v x → IsToldInPart w mode b (items ++ item ∷ []) error u x
halted_more w mode b items item error u v x p q =
    subst (λ (es : List Entry). HaltsRun w (opening mode b) es error u x) (sym (entries_more w mode b items item)) (halts_behind w (opening mode b) (entries_on w mode b items) (turn w (ledger_on w mode b items) item) error u v x p.plays q)

pub halted_still : (w : World) (mode : Mode) (b : Book) (items : List LifeEvent) (error : HostError) (u v x : View) → IsTold w mode b items u v → HaltsRun w (ledger_on w mode b items) [] error v x → IsToldInPart w mode b items error u x
halted_still w mode b items error u v x p q =
    subst (λ (es : List Entry). HaltsRun w (opening mode b) es error u x) (append-nil (entries_on w mode b items)) (halts_behind w (opening mode b) (entries_on w mode b items) [] error u v x p.plays q)

pub given_up : (w : World) (mode : Mode) (b : Book) (items : List LifeEvent) (error : HostError) (u v : View) → IsTold w mode b items u v → IsToldInPart w mode b items error u v
given_up w mode b items error u v p =
    subst (λ (es : List Entry). HaltsRun w (opening mode b) es error u v) (append-nil (entries_on w mode b items)) (plays_given_up w (opening mode b) (entries_on w mode b items) [] error u v p.plays)

pub none_noted : (w : World) (mode : Mode) (b : Book) (v : View) → NotesStand w (opening mode b) (entries_on w mode b []) v.files
none_noted w mode b v = subst (λ (es : List Entry). NotesStand w (opening mode b) es v.files) (sym (entries_none w mode b)) (notes_none w (opening mode b) v.files)

pub none_told : (w : World) (mode : Mode) (b : Book) (u : View) → TellsCrashes u → HostStands u b → IsTold w mode b [] u u
none_told w mode b u lawful h = record {
  plays = subst (λ (es : List Entry). PlaysRun w (opening mode b) es u u) (sym (entries_none w mode b)) (plays_none w (opening mode b) u lawful h);
  notes = none_noted w mode b u;
}

-- ---- refusals

limit_names : (line : ℕ) (why : EngineError) (bound : Bound) → errors.Limit bound ≡ replay_error line why → refused_in line why ≡ limited [] bound
limit_names line (engine_errors.Limit other) bound names = let same : bound ≡ other = cc in ap (λ (n : Bound). limited [] n) (sym same)
limit_names line engine_errors.Disk bound names = absurd cc
limit_names line engine_errors.Tell bound names = absurd cc
limit_names line engine_errors.NoMemory bound names = absurd cc
limit_names line (engine_errors.Unknown number) bound names = absurd cc
limit_names line (engine_errors.WrongCount number want got) bound names = absurd cc
limit_names line engine_errors.Untimed bound names = absurd cc
limit_names line (engine_errors.Unreadable area name) bound names = absurd cc
limit_names line (engine_errors.Damaged area name) bound names = absurd cc

bad_names : (line : ℕ) (why : EngineError) (n : ℕ) → errors.BadEvent n ≡ replay_error line why → refused_in line why ≡ faulty [] n
bad_names line (engine_errors.Limit other) n names = absurd cc
bad_names line engine_errors.Disk n names = absurd cc
bad_names line engine_errors.Tell n names = absurd cc
bad_names line engine_errors.NoMemory n names = absurd cc
bad_names line (engine_errors.Unknown number) n names = let same : n ≡ line = cc in ap (faulty []) (sym same)
bad_names line (engine_errors.WrongCount number want got) n names = let same : n ≡ line = cc in ap (faulty []) (sym same)
bad_names line engine_errors.Untimed n names = let same : n ≡ line = cc in ap (faulty []) (sym same)
bad_names line (engine_errors.Damaged area name) n names = absurd cc
bad_names line (engine_errors.Unreadable area name) n names = absurd cc

-- ---- one item

-- Which items are taken is what these are, and what follows them: this item and then more.
pub record IsAt (w : World) (mode : Mode) (b : Book) (taken : TakenItems) (items : List LifeEvent) (item : ListItem) (n : ℕ) (more : Listing) : Type 0 where
  pub is : taken ≡ reading_behind items (read_items w (ledger_on w mode b items) (gives item n more))

pub at_first : (w : World) (mode : Mode) (b : Book) (item : ListItem) (n : ℕ) (more : Listing) → IsAt w mode b (read_items w (opening mode b) (gives item n more)) [] item n more
at_first w mode b item n more = record {
  is = ap (λ (l : Ledger). read_items w l (gives item n more)) (sym (ledger_none w mode b)) ∙ sym (behind_none (read_items w (ledger_on w mode b []) (gives item n more)));
}

module _ (w : World) (mode : Mode) (b : Book) (taken : TakenItems) (items : List LifeEvent) (item : ListItem) (n : ℕ) (more : Listing) (at : IsAt w mode b taken items item n more) where
  abbrev l : Ledger
  l = ledger_on w mode b items

  refused_taken : (why : EngineError) → refusal_at l item ≡ Some why → taken ≡ reading_behind items (refused_in n why)
  refused_taken why refused = at.is ∙ ap (reading_behind items) (refused_item w l item n more why refused)

  -- the item is taken, and others may follow
  pub taken_next : is_list_end item ≡ false → refusal_at l item ≡ None → taken ≡ reading_behind (items ++ event_of item ∷ []) (read_items w (ledger_on w mode b (items ++ event_of item ∷ [])) more)
  taken_next going accepted =
      at.is ∙ ap (reading_behind items) (taken_item w l item n more accepted ∙ goes_on w l item n more going)
      ∙ behind_both items (event_of item ∷ []) (read_items w (after_all w l (turn w l (event_of item))) more)
      ∙ ap (λ (k : Ledger). reading_behind (items ++ event_of item ∷ []) (read_items w k more)) (sym (ledger_more w mode b items (event_of item)))

  -- the item is the last
  taken_last : is_list_end item ≡ true → refusal_at l item ≡ None → taken ≡ ended (items ++ event_of item ∷ [])
  taken_last last accepted = at.is ∙ ap (reading_behind items) (taken_item w l item n more accepted ∙ comes_to_end w l item n more last)

  items_behind : (xs : List LifeEvent) (x : TakenItems) → items_in (reading_behind xs x) ≡ xs ++ items_in x
  items_behind xs (ended more) = refl
  items_behind xs (faulty more n) = refl
  items_behind xs (limited more bound) = refl

  front_so_far : IsFrontOf taken items
  front_so_far = let others = read_items w l (gives item n more) in (items_in others, ap items_in at.is ∙ items_behind items others)

  front_with : (last : Bool) → is_list_end item ≡ last → refusal_at l item ≡ None → IsFrontOf taken (items ++ event_of item ∷ [])
  front_with false going accepted =
      let others = read_items w (ledger_on w mode b (items ++ event_of item ∷ [])) more in
      (items_in others, ap items_in (taken_next going accepted) ∙ items_behind (items ++ event_of item ∷ []) others)
  front_with true last accepted = ([], ap items_in (taken_last last accepted) ∙ sym (append-nil (items ++ event_of item ∷ [])))

  module _ (u v : View) (told : IsTold w mode b items u v) where
    -- the host gave up
    halted_at : (fault : HostError) (x : View) (o : Option EngineError) → refusal_at l item ≡ o → HaltsItem w l item fault v x → HaltsIn w mode b taken fault u x
    halted_at fault x None e halts =
        let run = subst (λ (o : Option EngineError). HaltsRun w l (option_map_or (λ (why : EngineError). []) o (entries_at w l item)) fault v x) e halts in
        (items ++ event_of item ∷ [], front_with (is_list_end item) refl e, halted_more w mode b items (event_of item) fault u v x told run)
    halted_at fault x (Some why) e halts =
        let run = subst (λ (o : Option EngineError). HaltsRun w l (option_map_or (λ (y : EngineError). []) o (entries_at w l item)) fault v x) e halts in
        (items, front_so_far, halted_still w mode b items fault u v x told run)

    -- the item wasn't taken
    pub untaken_ends : (x : View) (error : ReplayError) → NotTaken w l item n error v x → RunEnds w mode b taken u x (Err error)
    untaken_ends x errors.Disk r = halted_at faults.Disk x (refusal_at l item) refl r
    untaken_ends x errors.Tell r = halted_at faults.Tell x (refusal_at l item) refl r
    untaken_ends x errors.NoMemory r = halted_at faults.NoMemory x (refusal_at l item) refl r
    untaken_ends x errors.Source r = absurd r
    untaken_ends x (errors.Unreadable area name) r = absurd r
    untaken_ends x (errors.BadEvent line) r =
        (items, refused_taken r.why r.refused ∙ ap (reading_behind items) (bad_names n r.why line r.names) ∙ ap (λ (xs : List LifeEvent). faulty xs line) (append-nil items), told_still w mode b items u v x told r.stays r.files)
    untaken_ends x (errors.Limit bound) r =
        (items, refused_taken r.why r.refused ∙ ap (reading_behind items) (limit_names n r.why bound r.names) ∙ ap (λ (xs : List LifeEvent). limited xs bound) (append-nil items), told_still w mode b items u v x told r.stays r.files)
    untaken_ends x (errors.Damaged area name) r = (items, front_so_far, told_still w mode b items u v x told r.stays r.files, r.damage)

    -- the last item was taken
    pub last_ends : (x : View) (done : Unit {0}) → is_list_end item ≡ true → TookItem w l item None v x → RunEnds w mode b taken u x (Ok done)
    last_ends x done last took = (items ++ event_of item ∷ [], taken_last last took.accepted, told_more w mode b items (event_of item) u v x told took.plays took.notes)
