-- A life that listens goes on, is left off or given up, by what its calls answer.
use Rattle.std.proofs.Common.{◌≡◌, ◌≢◌, ◌≤◌, ◌<◌, ◌+◌, ℕ, Bool, true, false, List, [], ◌∷◌, ◌++◌, Option, Some, None, refl, sym, ap, ◌∙◌, ⊎_elim, arith, subst, append-nil}
use Rattle.std.proofs.lemmas.Bool.{cases_lt}
use Rattle.std.specs.Prelude.{Err, IfErr, Ok, Result}
use Rattle.q_door.specs.Doors.{Accepts, Closed, Closes, DoorView, IsFresh, StaysOpen, ToldDoor, closed}
use Rattle.q_engine.specs.Refusals.{ForAgreed}
use Rattle.q_host.specs.View.{View}
use Rattle.q_host.specs.declared.error.HostError.TheVariants as faults
use Rattle.q_link.specs.Views.{Told, View as LinkView}
use Rattle.q_listen.proofs.DoorSteps.{done_accept, done_as, done_open, done_record, done_rest, done_still, record_of}
use Rattle.q_listen.proofs.Moments.{first_same}
use Rattle.q_listen.proofs.Polls.{IsBegun, given_up_begun, given_up_session, moment_begins, moment_on, over_ended, over_late, over_stopped, polled_on, rested_on, session_begins, stopped_taking, taken_on}
use Rattle.q_listen.proofs.Running.{halted_behind}
use Rattle.q_listen.proofs.Linking.{accepts, closes, cut, cut_accepted, cut_closed, cut_unrecorded}
use Rattle.q_listen.specs.Courses.{GaveUp, IsCourse, IsFirst, Start}
use Rattle.q_listen.specs.Links.{IsCutOff, IsServed}
use Rattle.q_listen.specs.ListenEnds.{Outside}
use Rattle.q_listen.specs.Listens.{IsClocked, IsClockedSoFar, ServesClosed, ServesSome, ServesWhole, greatest}
use Rattle.q_listen.specs.Phases.{GivesUp, GoesOn, IsRefused, PolledTo, RestsOnce, ServedTo, unrecorded}
use Rattle.q_listen.specs.Runs.{IsStopped, ledger_of}
use Rattle.q_listen.specs.Serving.{Task, next_task}
use Rattle.q_listen.specs.Sessions.{InSession, IsAccepted, IsBetween, IsGivenUp, IsOver}
use Rattle.q_listen.specs.Stories.{HasDone, Story, with_accept, with_moment, with_record, with_rest, with_told}
use Rattle.q_listen.specs.Told.{mails_told}
use Rattle.q_listen.specs.Turns.{HearsMoment, StopsMail, StopsMoment, TakesMail}
use Rattle.q_listen.specs.declared.hearing.Life.{Life}
use Rattle.q_listen.specs.declared.listened.ListenError.{ListenError}
use Rattle.q_listen.specs.declared.listened.ListenError.TheVariants as errors
use Rattle.q_listen.specs.declared.polling.Polled.{Polled}
use Rattle.q_listen.specs.declared.polling.Polled.TheVariants.{Onward, Over, Spent}
use Rattle.q_model.specs.declared.entry.Entry.{Entry}
use Rattle.q_smtpd.specs.Places.{Mail}
use Rattle.q_smtpd.specs.Polls.{Brings, ComesTo, CompletesAt, IsHeardBy, Stops, TimesOut, is_message, mails_in}
use Rattle.q_smtpd.specs.Sessions.{IsNew, IsUnused, Serves, with_taken}
use Rattle.q_smtpd.specs.Traffic.{Tells}
use Rattle.q_smtpd.specs.declared.served.Served.{Served}
use Rattle.q_smtpd.specs.declared.served.Served.TheVariants.{Over as Ended, Working}
use Rattle.q_smtpd.specs.declared.session.Session.{Session}

pub clocked_so_far : (s : Story) → IsClocked s → IsClockedSoFar s
clocked_so_far s c = ([], sym c ∙ sym (append-nil _))

module _ {H : Type 0} (view : H → View) (o : Start H) where
  -- engine.now() is the greatest moment
  pub at_greatest : (clock : Option (List ℕ)) (u : View) (life : Life) (s : Story) (now : ℕ) → ForAgreed life.engine (λ w l. now ≡ l.now) → IsCourse view o clock u life s → now ≡ greatest s.moments
  at_greatest clock u life s now says c = says o.world (ledger_of o.world o.book s.told) (c.stands).core (c.stands).counts ∙ c.now

  gave_up_behind : (clock : Option (List ℕ)) (u : View) (life : Life) (s : Story) (error : ListenError) → IsStopped o.world o.book error (view o.host) u s.told → IsCourse view o clock u life s → GaveUp view o clock u error s
  gave_up_behind clock u life s error stopped c = record { stopped = stopped; clocked = clocked_so_far s c.clocked; given = c.given }

  -- what was done with the door may be said otherwise
  pub goes_as : (z : Outside) (u : View) (P Q : Story → Type 0) (life : Life) → ((s : Story) → IsCourse view o z.clock u life s → P s → Q s) → GoesOn view o z u P life → GoesOn view o z u Q life
  goes_as z u P Q life f g = record {
    story = g.story;
    course = g.course;
    done = done_as o.outside.door z.door g.story (P g.story) (Q g.story) (f g.story g.course) g.done;
  }

  -- memory ran out, and nothing more was done
  pub refused_memory : (z : Outside) (u : View) (P Q : Story → Type 0) (life : Life) → ((s : Story) → P s → Q s) → GoesOn view o z u P life → IsRefused view o z u Q errors.NoMemory
  refused_memory z u P Q life f g = record {
    story = g.story;
    gave_up = gave_up_behind z.clock u life g.story errors.NoMemory (halted_behind o.world o.book (view o.host) u (g.story).told faults.NoMemory (g.course).run) g.course;
    done = done_as o.outside.door z.door g.story (P g.story) (Q g.story) (f g.story) g.done;
  }

  -- ---- a moment

  module _ (old new : Option (List ℕ)) (d : DoorView) (u v : View) (life : Life) (P Q : Story → Type 0)
      (lift : (s : Story) → (es : List Entry) → (t : ℕ) → IsFirst life.first s → mails_told es ≡ [] → P s → Q (with_moment es t s)) where
    pub moment_goes : (next : Life) → HearsMoment view old new u v life next → GoesOn view o (record { clock = old; door = d }) u P life → GoesOn view o (record { clock = new; door = d }) v Q next
    moment_goes next hears g =
        let h = hears o g.story g.course in
        let r = with_moment h.entries_told h.moment g.story in
        record {
          story = r;
          course = h.course;
          done = done_still o.outside.door d g.story r (P g.story) (Q r) refl refl refl refl refl (lift g.story h.entries_told h.moment (g.course).first h.no_mail) g.done;
        }

    pub moment_refused : (error : ListenError) → StopsMoment view old new u v life error → GoesOn view o (record { clock = old; door = d }) u P life → IsRefused view o (record { clock = new; door = d }) v Q error
    moment_refused error stops g =
        let h = stops o g.story g.course in
        let r = with_moment h.entries_told h.moment g.story in
        record {
          story = r;
          gave_up = h.gave_up;
          done = done_still o.outside.door d g.story r (P g.story) (Q r) refl refl refl refl refl (lift g.story h.entries_told h.moment (g.course).first h.no_mail) g.done;
        }

  -- ---- a poll that waited

  course_rested : (clock : Option (List ℕ)) (u : View) (life : Life) (s : Story) → IsCourse view o clock u life s → IsCourse view o clock u (record life { given = life.given + 1 }) (with_rest s)
  course_rested clock u life s c = record {
    run = c.run;
    stands = c.stands;
    clocked = c.clocked;
    now = c.now;
    named = c.named;
    first = first_same life.first s (with_rest s) refl c.first;
    given = c.given;
    rested = ap (λ (n : ℕ). n + 1) c.rested;
  }

  pub waits_to : (clock : Option (List ℕ)) (d e : DoorView) (u : View) (k : Task) (l m : LinkView) (i : Session) (life : Life) (rests : ℕ) (polled : Polled) → RestsOnce d e l m life rests polled
      → GoesOn view o (record { clock = clock; door = d }) u (InSession k 1 l i) life → PolledTo view o (record { clock = clock; door = e }) u k m i rests (Ok polled)
  waits_to clock d e u k l m i life rests (Onward next) (is, less, rest, link) g =
      subst (λ (x : Life). GoesOn view o (record { clock = clock; door = e }) u (InSession k 0 m i) x) (sym is) (record {
        story = with_rest g.story;
        course = course_rested clock u life g.story g.course;
        done = done_rest o.outside.door d e g.story (InSession k 1 l i g.story) (InSession k 0 m i (with_rest g.story)) rest.0 (rested_on k l m i g.story link) g.done;
      })
  waits_to clock d e u k l m i life rests (Over next) h g = absurd h
  waits_to clock d e u k l m i life rests Spent (all, door, link) g = record {
    story = g.story;
    run = (g.course).run;
    clocked = clocked_so_far g.story (g.course).clocked;
    given = (g.course).given;
    rested = (g.course).rested ∙ all;
    done = subst (λ (x : DoorView). HasDone o.outside.door x g.story (IsGivenUp k m g.story)) (sym door)
        (done_as o.outside.door d g.story (InSession k 1 l i g.story) (IsGivenUp k m g.story) (λ h. given_up_session k 1 m i g.story (omega arith) (subst (λ (x : LinkView). InSession k 1 x i g.story) (sym link) h)) g.done);
  }

  -- ---- a poll that gave a message

  module _ (clock : Option (List ℕ)) (d : DoorView) (u v : View) (k : Task) (l m : LinkView) (i j : Session) (mail : Mail) (life : Life) (now : ℕ) (says : ForAgreed life.engine (λ w l. now ≡ l.now)) (brings : Brings i l m (mail ∷ [])) (heard : IsHeardBy now i j) where
    pub mail_goes : (next : Life) (taken : Session) → taken ≡ with_taken j → (Serves i l → Serves taken m) → TakesMail view u v mail life next → GoesOn view o (record { clock = clock; door = d }) u (InSession k 1 l i) life
        → GoesOn view o (record { clock = clock; door = d }) v (InSession k 0 m taken) next
    mail_goes next taken is serves takes g =
        let t = takes clock o g.story g.course in
        let r = with_told t.entries_told g.story in
        subst (λ (x : Session). GoesOn view o (record { clock = clock; door = d }) v (InSession k 0 m x) next) (sym is) (record {
          story = r;
          course = t.course;
          done = done_still o.outside.door d g.story r (InSession k 1 l i g.story) (InSession k 0 m (with_taken j) r) refl refl refl refl refl
              (taken_on k now l m i j mail t.entries_told g.story (at_greatest clock u life g.story now says g.course) (subst (λ (x : Session). Serves i l → Serves x m) is serves) brings heard t.mail_is) g.done;
        })

    pub mail_refused : (error : ListenError) → j.outbox ≡ [] → j.untaken ≡ true → (Serves i l → Serves j m) → (Serves i l → Tells (CompletesAt mail) l m) → StopsMail view u v mail life error
        → GoesOn view o (record { clock = clock; door = d }) u (InSession k 1 l i) life → IsRefused view o (record { clock = clock; door = d }) v (IsGivenUp k m) error
    mail_refused error outbox untaken serves completes stops g =
        let t = stops clock o g.story g.course in
        let r = with_told t.entries_told g.story in
        record {
          story = r;
          gave_up = t.gave_up;
          done = done_still o.outside.door d g.story r (InSession k 1 l i g.story) (IsGivenUp k m r) refl refl refl refl refl
              (λ h. stopped_taking k l m i j mail t.entries_told g.story outbox untaken serves brings completes h t.mail_is) g.done;
        }

  -- ---- by what a poll answers

  module _ (clock : Option (List ℕ)) (d e : DoorView) (u : View) (k : Task) (l m : LinkView) (i j : Session) (life : Life) (now : ℕ) (says : ForAgreed life.engine (λ w l. now ≡ l.now)) where
    abbrev here : Outside
    here = record { clock = clock; door = d }

    pub working_to : (n : LinkView) (served : Served) (rests : ℕ) (polled : Polled) → served ≡ Working → (Serves i l → Serves j m) → Brings i l m (mails_in served) → IsHeardBy now i j → RestsOnce d e m n life rests polled
        → GoesOn view o here u (InSession k 1 l i) life → PolledTo view o (record { clock = clock; door = e }) u k n j rests (Ok polled)
    working_to n served rests polled is serves brings heard rest g =
        waits_to clock d e u k m n j life rests polled rest
        (goes_as here u (InSession k 1 l i) (InSession k 1 m j) life
        (λ s c h. polled_on k now l m i j s (at_greatest clock u life s now says c) serves (subst (λ (v : Served). Brings i l m (mails_in v)) is brings) heard h) g)

    pub late_to : i.heard + 300 ≤ now → Tells TimesOut l m → GoesOn view o here u (InSession k 1 l i) life → GoesOn view o here u (IsOver k m) life
    late_to late tells g = goes_as here u (InSession k 1 l i) (IsOver k m) life (λ s c h. over_late k now l m i s (at_greatest clock u life s now says c) late tells h) g

    pub over_to : (served : Served) → served ≡ Ended → j.untaken ≡ is_message served → ((i.heard + 300 ≤ now) → Tells TimesOut l m) → (now < i.heard + 300 → ComesTo served j l m) → (now < i.heard + 300 → Serves i l → Serves j m) → Brings i l m (mails_in served)
        → GoesOn view o here u (InSession k 1 l i) life → GoesOn view o here u (IsOver k m) life
    over_to served is untaken late comes serves brings g = ⊎_elim
        (λ timely. goes_as here u (InSession k 1 l i) (IsOver k m) life
        (λ s c h. over_ended k l m i j s (subst (λ (v : Served). ComesTo v j l m) is (comes timely)) (untaken ∙ ap is_message is) (serves timely) (subst (λ (v : Served). Brings i l m (mails_in v)) is brings) h) g)
        (λ after. late_to after (late after) g)
        (cases_lt now (i.heard + 300))

    pub memory_to : Stops i l m → GoesOn view o here u (InSession k 1 l i) life → IsRefused view o here u (IsGivenUp k m) errors.NoMemory
    memory_to stops g = refused_memory here u (InSession k 1 l i) (IsGivenUp k m) life (λ s h. over_stopped k l m i s stops h) g

  -- ---- the moments of a session

  module _ (old new : Option (List ℕ)) (d : DoorView) (u v : View) (k : Task) (l : LinkView) (life : Life) where
    -- the first
    pub first_moment : (next : Life) → HearsMoment view old new u v life next → GoesOn view o (record { clock = old; door = d }) u (IsAccepted k l) life → GoesOn view o (record { clock = new; door = d }) v (IsBegun k l) next
    first_moment next hears g = moment_goes old new d u v life (IsAccepted k l) (IsBegun k l) (λ s es t first none h. moment_begins k l s es t none h) next hears g

    pub first_refused : (error : ListenError) → StopsMoment view old new u v life error → GoesOn view o (record { clock = old; door = d }) u (IsAccepted k l) life → IsRefused view o (record { clock = new; door = d }) v (IsGivenUp k l) error
    first_refused error stops g = moment_refused old new d u v life (IsAccepted k l) (IsGivenUp k l) (λ s es t first none h. given_up_begun k l (with_moment es t s) (moment_begins k l s es t none h)) error stops g

    -- a later one
    module _ (i : Session) (heard : life.first ≡ false) where
      later_on : (s : Story) (es : List Entry) (t : ℕ) → IsFirst life.first s → mails_told es ≡ [] → InSession k 0 l i s → InSession k 1 l i (with_moment es t s)
      later_on s es t first none h = moment_on k l i s es t (subst (λ (b : Bool). IsFirst b s) heard first) none h

      pub later_moment : (next : Life) → HearsMoment view old new u v life next → GoesOn view o (record { clock = old; door = d }) u (InSession k 0 l i) life → GoesOn view o (record { clock = new; door = d }) v (InSession k 1 l i) next
      later_moment next hears g = moment_goes old new d u v life (InSession k 0 l i) (InSession k 1 l i) later_on next hears g

      pub later_refused : (error : ListenError) → StopsMoment view old new u v life error → GoesOn view o (record { clock = old; door = d }) u (InSession k 0 l i) life → IsRefused view o (record { clock = new; door = d }) v (IsGivenUp k l) error
      later_refused error stops g = moment_refused old new d u v life (InSession k 0 l i) (IsGivenUp k l) (λ s es t first none h. given_up_session k 1 l i (with_moment es t s) (omega arith) (later_on s es t first none h)) error stops g

  -- its session begins, or there is no memory for it
  pub session_goes : (z : Outside) (u : View) (k : Task) (l : LinkView) (life : Life) (now : ℕ) (i : Session) → ForAgreed life.engine (λ w l. now ≡ l.now) → ((v : LinkView) → IsUnused v → Serves i v) → IsNew now i → GoesOn view o z u (IsBegun k l) life → GoesOn view o z u (InSession k 1 l i) life
  session_goes z u k l life now i says serves new g = goes_as z u (IsBegun k l) (InSession k 1 l i) life (λ s c h. session_begins k now l i s (at_greatest z.clock u life s now says c) serves new h) g

  pub session_refused : (z : Outside) (u : View) (k : Task) (l : LinkView) (life : Life) → GoesOn view o z u (IsBegun k l) life → IsRefused view o z u (IsGivenUp k l) errors.NoMemory
  session_refused z u k l life g = refused_memory z u (IsBegun k l) (IsGivenUp k l) life (λ s h. given_up_begun k l s h) g

  -- ---- a link

  module _ (clock : Option (List ℕ)) (d e : DoorView) (u : View) (k : Task) (more : k.served < k.count) (life : Life) (accepted : Accepts d e) where
    pub accept_goes : (l : LinkView) → IsFresh e l → GoesOn view o (record { clock = clock; door = d }) u (IsBetween k) life → GoesOn view o (record { clock = clock; door = e }) u (IsAccepted k l) life
    accept_goes l fresh g = record {
      story = with_accept g.story;
      course = course_accepted g.story g.course;
      done = done_accept o.outside.door d e g.story (IsBetween k g.story) (IsAccepted k l (with_accept g.story)) accepted.told
          (λ b. record { cases = b.cases; heard = b.heard; serving = accepts b.serving more; unused = λ t told. let f = fresh.told t told in (f.0, f.1) }) g.done;
    }
      where
        course_accepted : (s : Story) → IsCourse view o clock u life s → IsCourse view o clock u life (with_accept s)
        course_accepted s c = record {
          run = c.run;
          stands = c.stands;
          clocked = c.clocked;
          now = c.now;
          named = c.named;
          first = first_same life.first s (with_accept s) refl c.first;
          given = c.given;
          rested = c.rested;
        }

    accept_refused : (error : ListenError) → ((s : Story) → ServesWhole k.count s → GivesUp k.count error s) → ((s : Story) → IsCourse view o clock u life s → IsStopped o.world o.book error (view o.host) u s.told) → GoesOn view o (record { clock = clock; door = d }) u (IsBetween k) life
        → IsRefused view o (record { clock = clock; door = e }) u (GivesUp k.count error) error
    accept_refused error whole stopped g = record {
      story = with_accept g.story;
      gave_up = record { stopped = stopped g.story g.course; clocked = clocked_so_far g.story (g.course).clocked; given = (g.course).given };
      done = done_accept o.outside.door d e g.story (IsBetween k g.story) (GivesUp k.count error (with_accept g.story)) accepted.told
          (λ b. whole (with_accept g.story) (cut_accepted (accepts b.serving more) (omega arith))) g.done;
    }

    pub accept_failed : GoesOn view o (record { clock = clock; door = d }) u (IsBetween k) life → IsRefused view o (record { clock = clock; door = e }) u (GivesUp k.count errors.Door) errors.Door
    accept_failed g = accept_refused errors.Door (λ s h. h) (λ s c. c.run) g

    pub accept_spent : GoesOn view o (record { clock = clock; door = d }) u (IsBetween k) life → IsRefused view o (record { clock = clock; door = e }) u (GivesUp k.count errors.NoMemory) errors.NoMemory
    accept_spent g = accept_refused errors.NoMemory (λ s h. h.0) (λ s c. halted_behind o.world o.book (view o.host) u s.told faults.NoMemory c.run) g

  -- ---- its close

  -- by a refusal that isn't the door's
  gives_up : (count : ℕ) (error : ListenError) (s : Story) → error ≢ errors.Door → ServesSome count s → GivesUp count error s
  gives_up count errors.Door s other h = absurd (other refl)
  gives_up count errors.Disk s other h = h
  gives_up count errors.Tell s other h = h
  gives_up count errors.NoMemory s other h = h
  gives_up count (errors.Limit bound) s other h = h
  gives_up count (errors.Damaged area name) s other h = h
  gives_up count (errors.Unreadable area name) s other h = h

  module _ (clock : Option (List ℕ)) (d e : DoorView) (v : View) (k : Task) (l : LinkView) (rests : ℕ) where
    abbrev z : Outside
    z = record { clock = clock; door = d }

    abbrev y : Outside
    y = record { clock = clock; door = e }

    recorded : Closes l d e → (s : Story) (P Q : Type 0) → ((t : Told) → (door : ToldDoor) → l.told ≡ Some t → record_of l d ≡ closed l t door → P → Q) → HasDone o.outside.door d s P → HasDone o.outside.door e (with_record (record_of l d) s) Q
    recorded c s P Q f h = done_record o.outside.door d e l s P Q c.0 f h

    between_next : (s : Story) (t : Told) (door : ToldDoor) → l.told ≡ Some t → record_of l d ≡ closed l t door → IsOver k l s → IsBetween (next_task k) (with_record (record_of l d) s)
    between_next s t door told is over = record {
      cases = over.cases ++ record { link = record_of l d; mails = over.mails; late = over.late } ∷ [];
      heard = greatest s.moments;
      serving = closes (record_of l d) over.late over.serving (subst (λ (r : Closed). IsServed r over.mails over.late) (sym is) (over.served t door told)) over.past;
    }

    some_cut : (s : Story) (t : Told) (door : ToldDoor) → l.told ≡ Some t → record_of l d ≡ closed l t door → IsGivenUp k l s → ServesSome k.count (with_record (record_of l d) s)
    some_cut s t door told is up = cut (record_of l d) up.serving up.few (subst (λ (r : Closed). IsCutOff r up.mails) (sym is) (up.cut t door told))

    course_closed : (r : Closed) (life : Life) (s : Story) → IsCourse view o clock v life s → IsCourse view o clock v life (with_record r s)
    course_closed r life s c = record {
      run = c.run;
      stands = c.stands;
      clocked = c.clocked;
      now = c.now;
      named = c.named;
      first = first_same life.first s (with_record r s) refl c.first;
      given = c.given;
      rested = c.rested;
    }

    all_cut : (s : Story) (t : Told) (door : ToldDoor) → l.told ≡ Some t → record_of l d ≡ closed l t door → IsGivenUp k l s → ServesClosed k.count (with_record (record_of l d) s)
    all_cut s t door told is up = cut_closed (record_of l d) up.serving up.few (subst (λ (r : Closed). IsCutOff r up.mails) (sym is) (up.cut t door told))

    -- with a record
    pub closed_to : Closes l d e → (served : Result (Option Life) ListenError) → IfErr served (λ error. error ≢ errors.Door) → ServedTo view o z v (IsOver k l) (IsGivenUp k l) (λ error. IsGivenUp k l) rests served
        → ServedTo view o y v (IsBetween (next_task k)) (ServesClosed k.count) (GivesUp k.count) rests served
    closed_to c (Ok (Some life)) other g = record {
      story = with_record (record_of l d) g.story;
      course = course_closed (record_of l d) life g.story g.course;
      done = recorded c g.story (IsOver k l g.story) (IsBetween (next_task k) (with_record (record_of l d) g.story)) (between_next g.story) g.done;
    }
    closed_to c (Ok None) other g = record {
      story = with_record (record_of l d) g.story;
      run = g.run;
      clocked = g.clocked;
      given = g.given;
      rested = g.rested;
      done = recorded c g.story (IsGivenUp k l g.story) (ServesClosed k.count (with_record (record_of l d) g.story)) (all_cut g.story) g.done;
    }
    closed_to c (Err error) other g = record {
      story = with_record (record_of l d) g.story;
      gave_up = record { stopped = (g.gave_up).stopped; clocked = (g.gave_up).clocked; given = (g.gave_up).given };
      done = recorded c g.story (IsGivenUp k l g.story) (GivesUp k.count error (with_record (record_of l d) g.story))
          (λ t door told is up. gives_up k.count error (with_record (record_of l d) g.story) other (some_cut g.story t door told is up)) g.done;
    }

    -- without one
    pub unrecorded_to : StaysOpen d e → (served : Result (Option Life) ListenError) → IfErr served (λ error. error ≢ errors.Door) → ServedTo view o z v (IsOver k l) (IsGivenUp k l) (λ error. IsGivenUp k l) rests served
        → ServedTo view o y v (IsBetween (next_task k)) (ServesClosed k.count) (GivesUp k.count) rests (unrecorded served)
    unrecorded_to c (Ok (Some life)) other g = record {
      story = g.story;
      gave_up = gave_up_behind clock v life g.story errors.NoMemory (halted_behind o.world o.book (view o.host) v (g.story).told faults.NoMemory (g.course).run) g.course;
      done = done_open o.outside.door d e g.story (IsOver k l g.story) (ServesSome k.count g.story) c.0 (λ over. cut_unrecorded over.serving (omega arith)) g.done;
    }
    unrecorded_to c (Ok None) other g = record {
      story = g.story;
      gave_up = record { stopped = halted_behind o.world o.book (view o.host) v (g.story).told faults.NoMemory g.run; clocked = g.clocked; given = g.given };
      done = done_open o.outside.door d e g.story (IsGivenUp k l g.story) (ServesSome k.count g.story) c.0 (λ up. cut_unrecorded up.serving up.few) g.done;
    }
    unrecorded_to c (Err error) other g = record {
      story = g.story;
      gave_up = g.gave_up;
      done = done_open o.outside.door d e g.story (IsGivenUp k l g.story) (GivesUp k.count error g.story) c.0 (λ up. gives_up k.count error g.story other (cut_unrecorded up.serving up.few)) g.done;
    }
