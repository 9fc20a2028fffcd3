-- An intake life begins, or doesn't.
use Rattle.std.proofs.Common.{◌≡◌, ◌+◌, ℕ, Bool, true, false, if◌then◌else◌, List, [], ◌∷◌, ◌++◌, length, Option, Some, None, refl, sym, ap, ◌∙◌, arith, subst, append-nil}
use Rattle.std.proofs.lemmas.Option.{same_Some}
use Rattle.std.specs.Option.{option_map_or}
use Rattle.std.specs.Prelude.{Err}
use Rattle.q_books.specs.HostStands.{HostStands, TellsCrashes}
use Rattle.q_drain.specs.Told.{moment_after, moments_of}
use Rattle.q_engine.specs.KeptNotes.{AddsAllNotes}
use Rattle.q_engine.specs.declared.engine.Engine.{Engine}
use Rattle.q_engine.specs.declared.error.EngineError.{EngineError}
use Rattle.q_engine.specs.declared.error.EngineError.TheVariants as engine_errors
use Rattle.q_entries.specs.Runs.{HaltsRun, PlaysRun}
use Rattle.q_events.specs.declared.list_item.ListItem.TheVariants.{Restart}
use Rattle.q_host.specs.View.{View}
use Rattle.q_host.specs.declared.error.HostError.{HostError}
use Rattle.q_host.specs.declared.error.HostError.TheVariants as faults
use Rattle.q_laws.proofs.Tidied.{tidy_scan_is}
use Rattle.q_laws.specs.Traces.{AreAllowed}
use Rattle.q_listen.proofs.Arriving.{life_arrivals}
use Rattle.q_listen.proofs.Asked.{halts_as}
use Rattle.q_listen.proofs.DoorSteps.{done_none}
use Rattle.q_listen.proofs.Moments.{front_none}
use Rattle.q_listen.proofs.Linking.{cut_none}
use Rattle.q_listen.specs.Courses.{Start}
use Rattle.q_listen.specs.ListenEnds.{ListenEnds, Outside, StopsWithin}
use Rattle.q_listen.specs.Listens.{ServesSome}
use Rattle.q_listen.specs.Phases.{GoesOn}
use Rattle.q_listen.specs.Refusals.{listen_error}
use Rattle.q_listen.specs.Runs.{IsRun}
use Rattle.q_listen.specs.Sessions.{IsUnbound}
use Rattle.q_listen.specs.Stories.{HasGiven, Story}
use Rattle.q_listen.specs.Told.{events_of, life_told, mails_told}
use Rattle.q_listen.specs.declared.listened.ListenError.TheVariants as errors
use Rattle.q_model.specs.Book.{Book}
use Rattle.q_model.specs.Ledger.{Ledger, opening}
use Rattle.q_model.specs.Past.{arrivals}
use Rattle.q_model.specs.Run.{turn}
use Rattle.q_model.specs.Settings.{World}
use Rattle.q_model.specs.Step.{after, after_all, change, noted}
use Rattle.q_model.specs.declared.entry.Entry.{Entry}
use Rattle.q_model.specs.declared.entry.Entry.TheVariants as entries
use Rattle.q_model.specs.declared.event.Event.{Event}
use Rattle.q_model.specs.declared.event.LifeEvent.{LifeEvent}
use Rattle.q_model.specs.declared.event.LifeEvent.TheVariants.{Begin}
use Rattle.q_model.specs.declared.event.Mode.TheVariants.{Intake}
use Rattle.q_model.specs.declared.limits.Bound.{Bound}
use Rattle.q_model.specs.declared.limits.Bound.TheVariants.{Generation}
use Rattle.q_replay.proofs.AllowedItems.{first_allowed}
use Rattle.q_replay.proofs.Modes.{begun_timed, untimed_quiet}
use Rattle.q_replay.proofs.Readings.{entries_more, entries_none, ledger_none, ledger_on}
use Rattle.q_replay.proofs.RunSteps.{none_told, told_more, told_still}
use Rattle.q_replay.specs.Deliveries.{life_of}
use Rattle.q_replay.specs.Reading.{is_spent}
use Rattle.q_replay.specs.RunEnds.{entries_on, IsTold}
use Rattle.q_replay.specs.Takings.{HaltsItem, NotTaken, replay_error, TookItem}
use Rattle.q_replay.specs.declared.error.ReplayError.{ReplayError}
use Rattle.q_replay.specs.declared.error.ReplayError.TheVariants as replay_errors
use Rattle.q_smtpd.specs.Places.{Mail}

-- with these entries told, and nothing else done
abbrev pub nothing_behind : List Entry → Story
nothing_behind es = record { told = es; moments = []; binds = 0; ports = []; accepts = 0; rests = 0; records = [] }

given_none : (clock : Option (List ℕ)) (es : List Entry) → HasGiven clock clock (nothing_behind es)
given_none clock es = λ given is. (given, is, sym (append-nil given))

module _ (w : World) (b : Book) where
  abbrev l : Ledger
  l = opening Intake b

  abbrev own : Entry
  own = entries.Life (b.generation + 1) Intake

  begin_turn : turn w l Begin ≡ own ∷ []
  unfolding turn
  begin_turn = ap (λ (ds : List Entry). own ∷ ds) (untimed_quiet w (after w l own) (begun_timed w Intake b))

  entries_first : entries_on w Intake b (Begin ∷ []) ≡ turn w l Begin
  entries_first =
      entries_more w Intake b [] Begin
      ∙ ap (λ (xs : List Entry). xs ++ turn w (ledger_on w Intake b []) Begin) (entries_none w Intake b)
      ∙ ap (λ (k : Ledger). turn w k Begin) (ledger_none w Intake b)

  -- its line names nothing
  record AreSilent (es : List Entry) : Type 0 where
    events_are : events_of es ≡ []
    moments_are : moments_of es ≡ []
    mails_are : mails_told es ≡ []

  first_silent : AreSilent (turn w l Begin)
  first_silent = subst AreSilent (sym begin_turn) (record { events_are = refl; moments_are = refl; mails_are = refl })

  first_named : (es : List Entry) → AreSilent es → life_told es ≡ Begin ∷ []
  first_named es silent = ap (λ (xs : List Event). life_of xs) silent.events_are

  unbound : (es : List Entry) → AreSilent es → IsUnbound (nothing_behind es)
  unbound es silent = record { binds = refl; ports = refl; accepts = refl; rests = refl; records = refl; moments = refl; mails = silent.mails_are }

  life_now : (after w l own).now ≡ 0
  unfolding after
  life_now = let t = tidy_scan_is (noted own (change w l own)) in ap (λ (x : Ledger). x.now) t.2

  one_after : after_all w l (own ∷ []) ≡ after w l own
  unfolding after_all
  one_after = refl

  now_first : (after_all w l (turn w l Begin)).now ≡ 0
  now_first = ap (λ (es : List Entry). (after_all w l es).now) begin_turn ∙ ap (λ (k : Ledger). k.now) one_after ∙ life_now

  arrived_first : arrivals (after_all w l (turn w l Begin)) ≡ length (mails_told (turn w l Begin))
  arrived_first =
      ap (λ (es : List Entry). arrivals (after_all w l es)) begin_turn
      ∙ ap (λ (k : Ledger). arrivals k) one_after
      ∙ life_arrivals w b
      ∙ sym (ap (λ (ms : List Mail). length ms) first_silent.mails_are)

  -- ---- it begins

  module _ {H : Type 0} (view : H → View) (host : H) (z : Outside) (v : View) (engine : Engine) (lawful : TellsCrashes (view host)) (stands : HostStands (view host) b) (took : TookItem w l Restart (Some engine) (view host) v) where
    abbrev u : View
    u = view host

    abbrev es : List Entry
    es = turn w l Begin

    abbrev from : Start H
    from = record { host = host; world = w; book = b; outside = z }

    first_run : IsRun w b u v es
    first_run = record {
      is = subst (λ (items : List LifeEvent). IsTold w Intake b items u v) (sym (first_named es first_silent))
          (told_more w Intake b [] Begin u u v (none_told w Intake b u lawful stands)
          (subst (λ (k : Ledger). PlaysRun w k (turn w k Begin) u v) (sym (ledger_none w Intake b)) took.plays)
          (subst (λ (k : Ledger). AddsAllNotes w k (turn w k Begin) u.files v.files) (sym (ledger_none w Intake b)) took.notes));
      own = sym entries_first ∙ ap (λ (items : List LifeEvent). entries_on w Intake b items) (sym (first_named es first_silent));
      fits = subst (AreAllowed w l) (sym (first_named es first_silent)) (first_allowed w Intake b took.accepted);
      arrived = arrived_first;
    }

    moment_first : (es : List Entry) → es ≡ own ∷ [] → moment_after 0 es ≡ 0
    moment_first es is = ap (moment_after 0) is

    pub begins_to : GoesOn view from z v IsUnbound (record { engine = engine; given = 0; first = true })
    begins_to = record {
      story = nothing_behind es;
      course = record {
        run = first_run;
        stands = took.stands;
        clocked = first_silent.moments_are;
        now = now_first;
        named = moment_first es begin_turn;
        first = refl;
        given = given_none z.clock es;
        rested = refl;
      };
      done = done_none z.door (nothing_behind es) (IsUnbound (nothing_behind es)) refl refl refl refl refl (unbound es first_silent);
    }

  -- ---- it doesn't

  module _ (z : Outside) (u v : View) (port count : ℕ) (lawful : TellsCrashes u) (stands : HostStands u b) where
    front_silent : (done rest : List Entry) → turn w l Begin ≡ done ++ rest → AreSilent done
    front_silent done rest all = on done (sym begin_turn ∙ all)
      where
        on : (done : List Entry) → own ∷ [] ≡ done ++ rest → AreSilent done
        on [] is = record { events_are = refl; moments_are = refl; mails_are = refl }
        on (e ∷ es) is =
            let same : own ≡ e = cc in
            let more : [] ≡ es ++ rest = cc in
            subst AreSilent (ap (λ (x : Entry). x ∷ []) same ∙ ap (λ (xs : List Entry). e ∷ xs) (sym (front_none es rest (sym more)))) (record { events_are = refl; moments_are = refl; mails_are = refl })

    none_silent : (done rest : List Entry) → [] ≡ done ++ rest → AreSilent done
    none_silent [] rest all = record { events_are = refl; moments_are = refl; mails_are = refl }
    none_silent (e ∷ done) rest all = cc

    -- of no item, or of the first
    stops_before : (fault : HostError) (items others : List LifeEvent) → AreAllowed w l items → Begin ∷ [] ≡ items ++ others → (q : HaltsRun w l (entries_on w Intake b items) fault u v) → AreSilent q.done → StopsWithin w b count (record { before = z; behind = z }) fault u v
    stops_before fault items others fits all q silent = record {
      story = nothing_behind q.done;
      items = items;
      fits = fits;
      halts = q;
      told = refl;
      others = [];
      few = omega arith;
      front = (others, append-nil (life_told q.done) ∙ first_named q.done silent ∙ all);
      clocked = ([], sym (append-nil (moments_of q.done) ∙ silent.moments_are));
      is = record {
        given = given_none z.clock q.done;
        done = done_none z.door (nothing_behind q.done) (ServesSome count (nothing_behind q.done)) refl refl refl refl refl (cut_none count (nothing_behind q.done) (unbound q.done silent));
      };
    }

    halted_first : (fault : HostError) (spent : Bool) → is_spent l ≡ spent → HaltsRun w l (option_map_or (λ (why : EngineError). []) (if spent then Some (engine_errors.Limit Generation) else None) (turn w l Begin)) fault u v
        → StopsWithin w b count (record { before = z; behind = z }) fault u v
    halted_first fault true spent q =
        let same = halts_as w l [] (entries_on w Intake b []) fault u v (sym (entries_none w Intake b)) q in
        stops_before fault [] (Begin ∷ []) tt refl same.0 (subst AreSilent (sym same.1) (none_silent q.done q.rest q.all))
    halted_first fault false fresh q =
        let same = halts_as w l (turn w l Begin) (entries_on w Intake b (Begin ∷ [])) fault u v (sym entries_first) q in
        stops_before fault (Begin ∷ []) [] (first_allowed w Intake b (ap (λ (s : Bool). if s then Some (engine_errors.Limit Generation) else None) fresh)) refl same.0 (subst AreSilent (sym same.1) (front_silent q.done q.rest q.all))

    halted_item : (fault : HostError) → HaltsItem w l Restart fault u v → StopsWithin w b count (record { before = z; behind = z }) fault u v
    halted_item fault q = halted_first fault (is_spent l) refl q

    none_taken : PlaysRun w l [] u v → v.files ≡ u.files → IsTold w Intake b [] u v
    none_taken plays files = told_still w Intake b [] u u v (none_told w Intake b u lawful stands) (subst (λ (k : Ledger). PlaysRun w k [] u v) (sym (ledger_none w Intake b)) plays) files

    spent_by : (s : Bool) (why : EngineError) → (if s then Some (engine_errors.Limit Generation) else None) ≡ Some why → (s ≡ true) × (engine_errors.Limit Generation ≡ why)
    spent_by true why is = (refl, same_Some (engine_errors.Limit Generation) why is)
    spent_by false why is = cc

    pub never_begins : (e : ReplayError) → NotTaken w l Restart 0 e u v → ListenEnds w b port count (record { before = z; behind = z }) u v (Err (listen_error e))
    never_begins replay_errors.Disk r = halted_item faults.Disk r
    never_begins replay_errors.Tell r = halted_item faults.Tell r
    never_begins replay_errors.NoMemory r = halted_item faults.NoMemory r
    never_begins replay_errors.Source r = absurd r
    never_begins (replay_errors.Unreadable area name) r = absurd r
    never_begins (replay_errors.BadEvent line) r =
        let s = spent_by (is_spent l) r.why r.refused in
        let names : replay_errors.BadEvent line ≡ replay_errors.Limit Generation = r.names ∙ ap (replay_error 0) (sym s.1) in
        absurd cc
    never_begins (replay_errors.Limit bound) r =
        let s = spent_by (is_spent l) r.why r.refused in
        let names : replay_errors.Limit bound ≡ replay_errors.Limit Generation = r.names ∙ ap (replay_error 0) (sym s.1) in
        let same : bound ≡ Generation = cc in
        subst (λ (n : Bound). ListenEnds w b port count (record { before = z; behind = z }) u v (Err (errors.Limit n))) (sym same) (s.0, none_taken r.stays r.files)
    never_begins (replay_errors.Damaged area name) r = (none_taken r.stays r.files, r.damage)
