-- What a life told grows by the turn of an event, or is given up within one.
use Rattle.std.proofs.Common.{◌≡◌, ◌+◌, List, [], ◌∷◌, ◌++◌, length, map, true, refl, sym, ap, ◌∙◌, arith, subst, append-nil, append_assoc, length-append}
use Rattle.std.proofs.lemmas.Grind.{flat_map-append}
use Rattle.std.proofs.lemmas.List.{length-map, map-append}
use Rattle.q_drain.proofs.GivingUp.{halts_after}
use Rattle.q_engine.specs.KeptNotes.{AddsAllNotes}
use Rattle.q_engine.specs.Stands.{EngineStands}
use Rattle.q_engine.specs.declared.engine.Engine.{Engine}
use Rattle.q_entries.specs.Runs.{HaltsRun, PlaysRun}
use Rattle.q_host.specs.View.{View}
use Rattle.q_host.specs.declared.error.HostError.{HostError}
use Rattle.q_laws.specs.Traces.{AreAllowed}
use Rattle.q_listen.proofs.Arriving.{turn_arrivals}
use Rattle.q_listen.proofs.Growing.{heard_added, mails_added}
use Rattle.q_listen.specs.Runs.{IsHalted, IsRun, ledger_of}
use Rattle.q_listen.specs.Told.{event_of, events_of, life_told, mails_told}
use Rattle.q_model.proofs.RunLaws.{after_all-append}
use Rattle.q_model.specs.Book.{Book}
use Rattle.q_model.specs.Ledger.{Ledger, opening}
use Rattle.q_model.specs.Run.{entry_of, turn}
use Rattle.q_model.specs.Past.{arrivals}
use Rattle.q_model.specs.Settings.{World}
use Rattle.q_model.specs.Step.{after_all, allowed}
use Rattle.q_model.specs.Text.{text}
use Rattle.q_model.specs.declared.entry.Entry.{Entry}
use Rattle.q_model.specs.declared.event.Event.{Event}
use Rattle.q_model.specs.declared.event.LifeEvent.{LifeEvent}
use Rattle.q_model.specs.declared.event.LifeEvent.TheVariants.{Begin, Heard}
use Rattle.q_model.specs.declared.event.Mode.TheVariants.{Intake}
use Rattle.q_replay.proofs.AllowedItems.{allowed_more}
use Rattle.q_replay.proofs.Readings.{entries_more, ledger_on}
use Rattle.q_replay.proofs.RunSteps.{told_more, told_still}
use Rattle.q_replay.specs.RunEnds.{entries_on, IsTold}
use Rattle.q_smtpd.specs.Places.{Mail}

-- ---- a turn more

module _ (w : World) (b : Book) (u v x : View) (told : List Entry) (is_run : IsRun w b u v told) where
  abbrev k : Ledger
  k = ledger_of w b told

  same_ledger : ledger_on w Intake b (life_told told) ≡ k
  same_ledger = ap (after_all w (opening Intake b)) (sym is_run.own)

  module _ (event : Event) where
    abbrev es : List Entry
    es = turn w k (Heard event)

    names : (done : List Entry) → life_told (told ++ done) ≡ life_told told ++ map Heard (events_of done)
    names done = ap (λ (xs : List LifeEvent). Begin ∷ xs) (heard_added told done)

    one_more : events_of es ≡ event ∷ [] → life_told (told ++ es) ≡ life_told told ++ Heard event ∷ []
    one_more one = names es ∙ ap (λ (xs : List Event). life_told told ++ map Heard xs) one

    entries_longer : entries_on w Intake b (life_told told ++ Heard event ∷ []) ≡ told ++ es
    entries_longer =
        entries_more w Intake b (life_told told) (Heard event)
        ∙ ap (λ (l : Ledger). entries_on w Intake b (life_told told) ++ turn w l (Heard event)) same_ledger
        ∙ ap (λ (xs : List Entry). xs ++ es) (sym is_run.own)

    fits_longer : allowed w k (entry_of k (Heard event)) ≡ true → AreAllowed w (opening Intake b) (life_told told ++ Heard event ∷ [])
    fits_longer fits = allowed_more w (opening Intake b) (life_told told) (Heard event) is_run.fits (subst (λ (l : Ledger). allowed w l (entry_of l (Heard event)) ≡ true) (sym same_ledger) fits)

    -- it was carried out
    pub run_more : events_of es ≡ event ∷ [] → allowed w k (entry_of k (Heard event)) ≡ true → PlaysRun w k es v x → AddsAllNotes w k es v.files x.files → IsRun w b u x (told ++ es)
    run_more one fits plays adds = record {
      is = subst (λ (items : List LifeEvent). IsTold w Intake b items u x) (sym (one_more one))
          (told_more w Intake b (life_told told) (Heard event) u v x is_run.is
          (subst (λ (l : Ledger). PlaysRun w l (turn w l (Heard event)) v x) (sym same_ledger) plays)
          (subst (λ (l : Ledger). AddsAllNotes w l (turn w l (Heard event)) v.files x.files) (sym same_ledger) adds));
      own = sym entries_longer ∙ ap (λ (items : List LifeEvent). entries_on w Intake b items) (sym (one_more one));
      fits = subst (AreAllowed w (opening Intake b)) (sym (one_more one)) (fits_longer fits);
      arrived =
          let behind : arrivals (ledger_of w b (told ++ es)) ≡ arrivals (after_all w k es) = ap (λ (l : Ledger). arrivals l) (after_all-append w (opening Intake b) told es) in
          let more = turn_arrivals w k event in
          let was = is_run.arrived in
          let all : length (mails_told (told ++ es)) ≡ length (mails_told told) + length (mails_told es) = ap (λ (ms : List Mail). length ms) (mails_added told es) ∙ length-append (mails_told told) (mails_told es) in
          omega (arith, behind, more, was, all);
    }

    pub stands_more : (engine : Engine) → EngineStands w engine x (after_all w k es) → EngineStands w engine x (ledger_of w b (told ++ es))
    stands_more engine h = subst (EngineStands w engine x) (sym (after_all-append w (opening Intake b) told es)) h

    -- it was given up within
    pub halted_in : (fault : HostError) → events_of es ≡ event ∷ [] → allowed w k (entry_of k (Heard event)) ≡ true → (q : HaltsRun w k es fault v x) → IsHalted w b fault u x (told ++ q.done)
    halted_in fault one fits q =
        let plays : PlaysRun w (opening Intake b) told u v = subst (λ (xs : List Entry). PlaysRun w (opening Intake b) xs u v) (sym is_run.own) (is_run.is).plays in
        let h = halts_after w (opening Intake b) told es (entries_on w Intake b (life_told told ++ Heard event ∷ [])) k fault u v x entries_longer refl plays q in
        let split : events_of es ≡ events_of q.done ++ events_of q.rest = ap events_of q.all ∙ flat_map-append event_of q.done q.rest in
        let count = ap (λ (xs : List Event). length xs) (sym one ∙ split) ∙ length-append (events_of q.done) (events_of q.rest) in
        let sizes = length-map (events_of q.rest) Heard in
        record {
          items = life_told told ++ Heard event ∷ [];
          fits = fits_longer fits;
          halts = h.0;
          done = h.1;
          others = map Heard (events_of q.rest);
          few = omega (arith, count, sizes);
          front = (
            [],
            ap (λ (xs : List LifeEvent). xs ++ map Heard (events_of q.rest)) (names q.done)
                ∙ append_assoc (life_told told) (map Heard (events_of q.done)) (map Heard (events_of q.rest))
                ∙ ap (λ (xs : List LifeEvent). life_told told ++ xs) (sym (map-append Heard (events_of q.done) (events_of q.rest)) ∙ ap (map Heard) (sym split ∙ one))
                ∙ sym (append-nil (life_told told ++ Heard event ∷ [])),
          );
        }

  -- or before anything was done
  pub halted_before : (fault : HostError) → (q : HaltsRun w k [] fault v x) → IsHalted w b fault u x (told ++ q.done)
  halted_before fault q =
      let plays : PlaysRun w (opening Intake b) told u v = subst (λ (xs : List Entry). PlaysRun w (opening Intake b) xs u v) (sym is_run.own) (is_run.is).plays in
      let h = halts_after w (opening Intake b) told [] (entries_on w Intake b (life_told told)) k fault u v x (sym is_run.own ∙ sym (append-nil told)) refl plays q in
      let none = nothing_done q.done q.rest q.all in
      record {
        items = life_told told;
        fits = is_run.fits;
        halts = h.0;
        done = h.1;
        others = [];
        few = omega arith;
        front = (
          [],
          append-nil (life_told (told ++ q.done)) ∙ ap life_told (ap (λ (xs : List Entry). told ++ xs) none ∙ append-nil told) ∙ sym (append-nil (life_told told)),
        );
      }
    where
      nothing_done : (done rest : List Entry) → [] ≡ done ++ rest → done ≡ []
      nothing_done [] rest is = refl
      nothing_done (e ∷ done) rest is = cc

  -- or refused
  pub run_still : PlaysRun w k [] v x → x.files ≡ v.files → IsRun w b u x told
  run_still plays files = record {
    is = told_still w Intake b (life_told told) u v x is_run.is (subst (λ (l : Ledger). PlaysRun w l [] v x) (sym same_ledger) plays) files;
    own = is_run.own;
    fits = is_run.fits;
    arrived = is_run.arrived;
  }

-- nothing more was tried
pub halted_behind : (w : World) (b : Book) (u v : View) (told : List Entry) (fault : HostError) → IsRun w b u v told → IsHalted w b fault u v told
halted_behind w b u v told fault r =
    let es = entries_on w Intake b (life_told told) in
    let p = (r.is).plays in
    record {
      items = life_told told;
      fits = r.fits;
      halts = record {
        done = es;
        rest = [];
        all = sym (append-nil es);
        part = 0;
        short = omega arith;
        told = p.told ∙ sym (append-nil (u.told ++ text w.table es));
        only_tell = λ other. refl;
        stands = p.stands;
        disk_first = λ some. absurd (omega arith);
        moments = p.moments;
      };
      done = sym r.own;
      others = [];
      few = omega arith;
      front = ([], refl);
    }
