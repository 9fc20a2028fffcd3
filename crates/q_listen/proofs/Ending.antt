-- A life that listens, from its beginning to its end.
use Rattle.std.proofs.Common.{◌≡◌, ◌≤◌, ◌-◌, ◌^◌, ℕ, true, List, [], ◌∷◌, ◌++◌, length, Option, Some, None, refl, sym, ap, ◌∙◌, arith, subst, append-nil}
use Rattle.std.specs.Prelude.{Err, Ok}
use Rattle.q_door.specs.Doors.{Binds, DoorView}
use Rattle.q_door.specs.declared.door.DoorError.{DoorError}
use Rattle.q_drain.proofs.GivingUp.{halts_after}
use Rattle.q_drain.specs.Told.{moments_of}
use Rattle.q_engine.specs.Stands.{EngineStands}
use Rattle.q_entries.specs.Runs.{PlaysRun}
use Rattle.q_events.specs.declared.list_item.ListItem.TheVariants.{End}
use Rattle.q_host.specs.View.{View}
use Rattle.q_host.specs.declared.error.HostError.{HostError}
use Rattle.q_host.specs.declared.error.HostError.TheVariants as faults
use Rattle.q_laws.specs.Traces.{AreAllowed}
use Rattle.q_listen.proofs.DoorSteps.{done_as, done_bind, done_port, done_still}
use Rattle.q_listen.proofs.Going.{clocked_so_far}
use Rattle.q_listen.proofs.Moments.{first_same, front_none}
use Rattle.q_listen.proofs.Running.{halted_behind}
use Rattle.q_listen.proofs.Linking.{binds, cut_between, cut_unbound, ends, gives_none}
use Rattle.q_listen.specs.Courses.{IsCourse, Start}
use Rattle.q_listen.specs.ListenEnds.{HasNoSerial, LeavesOff, ListenEnds, ListensToAll, Outside, Outsides, StopsBehind, StopsWithin}
use Rattle.q_listen.specs.Listens.{IsClockedSoFar, ServesAll, ServesClosed, ServesSome, ServesWhole}
use Rattle.q_listen.specs.Phases.{GivesUp, GoesOn, IsLeft, IsRefused}
use Rattle.q_listen.specs.Refusals.{listen_error}
use Rattle.q_listen.specs.Runs.{IsHalted, IsRun, IsStopped, ledger_of}
use Rattle.q_listen.specs.Sessions.{IsBetween, IsUnbound}
use Rattle.q_listen.specs.Stories.{HasDone, HasGiven, Story, with_bind, with_port, with_told}
use Rattle.q_listen.specs.Told.{event_of, events_of, life_told, mails_told}
use Rattle.q_replay.specs.Deliveries.{life_of}
use Rattle.q_model.specs.declared.event.Event.{Event}
use Rattle.q_drain.proofs.Adding.{moments_added}
use Rattle.q_engine.specs.KeptNotes.{AddsAllNotes}
use Rattle.std.proofs.lemmas.Grind.{flat_map-append}
use Rattle.q_listen.specs.declared.hearing.Life.{Life}
use Rattle.q_listen.specs.declared.listened.ListenError.{ListenError}
use Rattle.q_listen.specs.declared.listened.ListenError.TheVariants as errors
use Rattle.q_model.specs.Book.{Book}
use Rattle.q_model.specs.Ledger.{Ledger, opening}
use Rattle.q_model.specs.Run.{entry_of, turn}
use Rattle.q_model.specs.Settings.{World}
use Rattle.q_model.specs.Step.{after_all, allowed}
use Rattle.q_model.specs.declared.entry.Entry.{Entry}
use Rattle.q_model.specs.declared.entry.Entry.TheVariants as entries
use Rattle.q_model.specs.declared.event.LifeEvent.{LifeEvent}
use Rattle.q_model.specs.declared.event.LifeEvent.TheVariants.{Finish}
use Rattle.q_model.specs.declared.event.Mode.TheVariants.{Intake}
use Rattle.q_model.specs.declared.limits.Bound.TheVariants as bounds
use Rattle.q_replay.proofs.AllowedItems.{allowed_more, item_allowed}
use Rattle.q_replay.proofs.Readings.{entries_more, ledger_on}
use Rattle.q_replay.proofs.RunSteps.{told_more}
use Rattle.q_replay.specs.RunEnds.{entries_on}
use Rattle.q_replay.specs.Takings.{HaltsItem, NotTaken, TookItem}
use Rattle.q_replay.specs.declared.error.ReplayError.{ReplayError}
use Rattle.q_replay.specs.declared.error.ReplayError.TheVariants as replay_errors

-- ---- the port

module _ {H : Type 0} (view : H → View) (o : Start H) (clock : Option (List ℕ)) (d e : DoorView) (u : View) (life : Life) (port count : ℕ) where
  course_bound : (s : Story) → IsCourse view o clock u life s → IsCourse view o clock u life (with_port port s)
  course_bound s c = record {
    run = c.run;
    stands = c.stands;
    clocked = c.clocked;
    now = c.now;
    named = c.named;
    first = first_same life.first s (with_port port s) refl c.first;
    given = c.given;
    rested = c.rested;
  }

  pub bind_goes : (done : Unit {0}) → Binds port (Ok done) d e → GoesOn view o (record { clock = clock; door = d }) u IsUnbound life → GoesOn view o (record { clock = clock; door = e }) u (IsBetween (record { port = port; count = count; served = 0 })) life
  bind_goes done b g = record {
    story = with_port port g.story;
    course = course_bound g.story g.course;
    done = done_port done port o.outside.door d e g.story (IsUnbound g.story) (IsBetween (record { port = port; count = count; served = 0 }) (with_port port g.story)) b.told
        (λ un. record { cases = []; heard = 0; serving = binds port count g.story un }) g.done;
  }

  bind_refused : (why : DoorError) (error : ListenError) → Binds port (Err why) d e → ((s : Story) → ServesWhole count s → GivesUp count error s) → ((s : Story) → IsCourse view o clock u life s → IsStopped o.world o.book error (view o.host) u s.told)
      → GoesOn view o (record { clock = clock; door = d }) u IsUnbound life → IsRefused view o (record { clock = clock; door = e }) u (GivesUp count error) error
  bind_refused why error b whole stopped g = record {
    story = with_bind g.story;
    gave_up = record { stopped = stopped g.story g.course; clocked = clocked_so_far g.story (g.course).clocked; given = (g.course).given };
    done = done_bind why port o.outside.door d e g.story (IsUnbound g.story) (GivesUp count error (with_bind g.story)) b.told (λ un. whole (with_bind g.story) (cut_unbound count g.story un)) g.done;
  }

  pub bind_failed : (why : DoorError) → Binds port (Err why) d e → GoesOn view o (record { clock = clock; door = d }) u IsUnbound life → IsRefused view o (record { clock = clock; door = e }) u (GivesUp count errors.Door) errors.Door
  bind_failed why b g = bind_refused why errors.Door b (λ s h. h) (λ s c. c.run) g

  pub bind_spent : (why : DoorError) → Binds port (Err why) d e → GoesOn view o (record { clock = clock; door = d }) u IsUnbound life → IsRefused view o (record { clock = clock; door = e }) u (GivesUp count errors.NoMemory) errors.NoMemory
  bind_spent why b g = bind_refused why errors.NoMemory b (λ s h. h.0) (λ s c. halted_behind o.world o.book (view o.host) u s.told faults.NoMemory c.run) g

-- ---- how it ends

module _ {H : Type 0} (view : H → View) (o : Start H) (z : Outside) (v : View) (port count : ℕ) where
  abbrev w : World
  w = o.world

  abbrev b : Book
  b = o.book

  abbrev os : Outsides
  os = record { before = o.outside; behind = z }

  -- so many rests were given
  pub left_off : (rests : ℕ) → IsLeft view o z v (ServesClosed count) rests → LeavesOff w b count rests os (view o.host) v
  left_off rests h = record {
    story = h.story;
    fits = (h.run).fits;
    told = (h.run).is;
    clocked = h.clocked;
    is = record { given = h.given; done = h.done };
    rests_given = h.rested;
  }

  stops_within : (fault : HostError) (s : Story) → IsHalted w b fault (view o.host) v s.told → HasGiven o.outside.clock z.clock s → HasDone o.outside.door z.door s (ServesSome count s) → IsClockedSoFar s → StopsWithin w b count os fault (view o.host) v
  stops_within fault s h given done clocked = record {
    story = s;
    items = h.items;
    fits = h.fits;
    halts = h.halts;
    told = h.done;
    others = h.others;
    few = h.few;
    front = h.front;
    clocked = clocked;
    is = record { given = given; done = done };
  }

  stops_behind : (s : Story) → IsRun w b (view o.host) v s.told → HasGiven o.outside.clock z.clock s → HasDone o.outside.door z.door s (ServesWhole count s) → IsClockedSoFar s → StopsBehind w b count os (view o.host) v
  stops_behind s h given done clocked = record { story = s; fits = h.fits; told = h.is; clocked = clocked; is = record { given = given; done = done } }

  no_serial : (s : Story) → IsRun w b (view o.host) v s.told → 2 ^ 32 - 1 ≤ length (mails_told s.told) → HasGiven o.outside.clock z.clock s → HasDone o.outside.door z.door s (ServesSome count s) → IsClockedSoFar s → HasNoSerial w b count os (view o.host) v
  no_serial s h full given done clocked = record { story = s; fits = h.fits; told = h.is; full = full; clocked = clocked; is = record { given = given; done = done } }

  -- it was given up
  pub refused_ends : (error : ListenError) → IsRefused view o z v (GivesUp count error) error → ListenEnds w b port count os (view o.host) v (Err error)
  refused_ends errors.Disk h = stops_within faults.Disk h.story (h.gave_up).stopped (h.gave_up).given h.done (h.gave_up).clocked
  refused_ends errors.Tell h = stops_within faults.Tell h.story (h.gave_up).stopped (h.gave_up).given h.done (h.gave_up).clocked
  refused_ends errors.NoMemory h = stops_within faults.NoMemory h.story (h.gave_up).stopped (h.gave_up).given h.done (h.gave_up).clocked
  refused_ends errors.Door h = stops_behind h.story (h.gave_up).stopped (h.gave_up).given h.done (h.gave_up).clocked
  refused_ends (errors.Limit bounds.Serial) h = let stopped = (h.gave_up).stopped in (refl, no_serial h.story stopped.1 stopped.2 (h.gave_up).given h.done (h.gave_up).clocked)
  refused_ends (errors.Limit bounds.Content) h = let stopped = (h.gave_up).stopped in let bad = stopped.0 in absurd cc
  refused_ends (errors.Limit bounds.Recipients) h = let stopped = (h.gave_up).stopped in let bad = stopped.0 in absurd cc
  refused_ends (errors.Limit bounds.Generation) h = let stopped = (h.gave_up).stopped in let bad = stopped.0 in absurd cc
  refused_ends (errors.Limit bounds.Input) h = let stopped = (h.gave_up).stopped in let bad = stopped.0 in absurd cc
  refused_ends (errors.Limit bounds.Deliveries) h = let stopped = (h.gave_up).stopped in let bad = stopped.0 in absurd cc
  refused_ends (errors.Damaged area name) h = absurd (h.gave_up).stopped
  refused_ends (errors.Unreadable area name) h = absurd (h.gave_up).stopped

  -- ---- its end

  module _ (life : Life) (u : View) (g : GoesOn view o z u (IsBetween (record { port = port; count = count; served = count })) life) where
    abbrev s : Story
    s = g.story

    abbrev k : Ledger
    k = ledger_of w b s.told

    same_ledger : ledger_on w Intake b (life_told s.told) ≡ k
    same_ledger = ap (after_all w (opening Intake b)) (sym ((g.course).run).own)

    pub stands_end : EngineStands w life.engine u k
    stands_end = (g.course).stands

    fits_end : AreAllowed w (opening Intake b) (life_told s.told ++ Finish ∷ [])
    fits_end = allowed_more w (opening Intake b) (life_told s.told) Finish ((g.course).run).fits
        (subst (λ (l : Ledger). allowed w l (entry_of l Finish) ≡ true) (sym same_ledger) (item_allowed w k End (stands_end.core).living tt refl))

    pub listens_to_all : TookItem w k End None u v → ListensToAll w b port count os (view o.host) v
    listens_to_all took = record {
      story = s;
      fits = fits_end;
      told = told_more w Intake b (life_told s.told) Finish (view o.host) u v ((g.course).run).is
          (subst (λ (l : Ledger). PlaysRun w l (turn w l Finish) u v) (sym same_ledger) took.plays)
          (subst (λ (l : Ledger). AddsAllNotes w l (turn w l Finish) u.files v.files) (sym same_ledger) took.notes);
      clocked = (g.course).clocked;
      is = record {
        given = (g.course).given;
        done = done_as o.outside.door z.door s (IsBetween (record { port = port; count = count; served = count }) s) (ServesAll port count s) (λ h. ends h.serving refl) g.done;
      };
    }

    -- or it was given up
    end_turn : turn w k Finish ≡ entries.End ∷ []
    unfolding turn
    end_turn = refl

    front_end : (done rest : List Entry) → turn w k Finish ≡ done ++ rest → (events_of done ≡ []) × (moments_of done ≡ []) × (mails_told done ≡ [])
    front_end done rest all = on done (sym end_turn ∙ all)
      where
        on : (done : List Entry) → entries.End ∷ [] ≡ done ++ rest → (events_of done ≡ []) × (moments_of done ≡ []) × (mails_told done ≡ [])
        on [] is = (refl, refl, refl)
        on (e ∷ es) is =
            let same : entries.End ≡ e = cc in
            let more : [] ≡ es ++ rest = cc in
            subst (λ (xs : List Entry). (events_of xs ≡ []) × (moments_of xs ≡ []) × (mails_told xs ≡ [])) (ap (λ (x : Entry). x ∷ []) same ∙ ap (λ (xs : List Entry). e ∷ xs) (sym (front_none es rest (sym more)))) (refl, refl, refl)

    halts_end : (fault : HostError) → HaltsItem w k End fault u v → StopsWithin w b count os fault (view o.host) v
    halts_end fault q =
        let run = (g.course).run in
        let plays : PlaysRun w (opening Intake b) s.told (view o.host) u = subst (λ (xs : List Entry). PlaysRun w (opening Intake b) xs (view o.host) u) (sym run.own) (run.is).plays in
        let longer : entries_on w Intake b (life_told s.told ++ Finish ∷ []) ≡ s.told ++ turn w k Finish =
        entries_more w Intake b (life_told s.told) Finish
        ∙ ap (λ (l : Ledger). entries_on w Intake b (life_told s.told) ++ turn w l Finish) same_ledger
        ∙ ap (λ (xs : List Entry). xs ++ turn w k Finish) (sym run.own) in
        let h = halts_after w (opening Intake b) s.told (turn w k Finish) (entries_on w Intake b (life_told s.told ++ Finish ∷ [])) k fault (view o.host) u v longer refl plays q in
        let (no_events, no_moments, no_mails) = front_end q.done q.rest q.all in
        let r = with_told q.done s in
        let named : life_told r.told ≡ life_told s.told = ap life_of (flat_map-append event_of s.told q.done ∙ ap (λ (xs : List Event). events_of s.told ++ xs) no_events ∙ append-nil (events_of s.told)) in
        record {
          story = r;
          items = life_told s.told ++ Finish ∷ [];
          fits = fits_end;
          halts = h.0;
          told = h.1;
          others = Finish ∷ [];
          few = omega arith;
          front = ([], ap (λ (xs : List LifeEvent). xs ++ Finish ∷ []) named ∙ sym (append-nil (life_told s.told ++ Finish ∷ [])));
          clocked = ([], sym (moments_added s.told q.done ∙ ap (λ (xs : List ℕ). moments_of s.told ++ xs) no_moments ∙ append-nil (moments_of s.told) ∙ (g.course).clocked) ∙ sym (append-nil (moments_of r.told)));
          is = record {
            given = (g.course).given;
            done = done_still o.outside.door z.door s r (IsBetween (record { port = port; count = count; served = count }) s) (ServesSome count r) refl refl refl refl refl
                (λ h. (cut_between (gives_none q.done h.serving no_mails) (omega arith)).0) g.done;
          };
        }

    pub never_ends : (e : ReplayError) → NotTaken w k End 0 e u v → ListenEnds w b port count os (view o.host) v (Err (listen_error e))
    never_ends replay_errors.Disk q = halts_end faults.Disk q
    never_ends replay_errors.Tell q = halts_end faults.Tell q
    never_ends replay_errors.NoMemory q = halts_end faults.NoMemory q
    never_ends replay_errors.Source q = absurd q
    never_ends (replay_errors.BadEvent n) q = let no : None ≡ Some q.why = q.refused in absurd cc
    never_ends (replay_errors.Limit bound) q = let no : None ≡ Some q.why = q.refused in absurd cc
    never_ends (replay_errors.Damaged area name) q = let no : None ≡ Some q.refused.0 = q.refused.1 in absurd cc
    never_ends (replay_errors.Unreadable area name) q = absurd q
