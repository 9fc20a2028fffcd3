-- A life that listens takes a message.
use Rattle.std.proofs.Common.{◌≡◌, ◌≤◌, ◌-◌, ◌^◌, ◌⊎◌, inl, inr, ℕ, Bool, true, false, if◌then◌else◌, List, [], ◌∷◌, ◌++◌, length, Option, Some, None, refl, sym, ap, ◌∙◌, arith, subst, append-nil}
use Rattle.std.proofs.lemmas.Bool.{ltb-false}
use Rattle.std.proofs.lemmas.Option.{same_Some}
use Rattle.std.specs.Option.{option_map_or}
use Rattle.std.specs.Prelude.{nat_lt}
use Rattle.q_drain.proofs.Adding.{moment_added, moments_added}
use Rattle.q_drain.proofs.Silent.{AreInside, decisions_inside, same_moment}
use Rattle.q_drain.specs.Sweeps.{rising}
use Rattle.q_drain.specs.Told.{moment_after, moments_of}
use Rattle.q_engine.specs.Refusals.{is_early}
use Rattle.q_engine.specs.declared.error.EngineError.{EngineError}
use Rattle.q_engine.specs.declared.error.EngineError.TheVariants as engine_errors
use Rattle.q_entries.specs.Runs.{HaltsRun}
use Rattle.q_events.specs.Forms.{IsMailInForm}
use Rattle.q_events.specs.declared.list_item.ListItem.TheVariants.{Step}
use Rattle.q_host.specs.View.{View}
use Rattle.q_host.specs.declared.error.HostError.{HostError}
use Rattle.q_host.specs.declared.error.HostError.TheVariants as faults
use Rattle.q_laws.proofs.Living.{inner_now}
use Rattle.q_listen.proofs.Growing.{mails_added}
use Rattle.q_listen.proofs.Moments.{first_same, front_none}
use Rattle.q_listen.proofs.Naming.{Names, mail_names, mail_turn}
use Rattle.q_listen.proofs.Refusing.{IsMailRefusal}
use Rattle.q_listen.proofs.Running.{halted_before, halted_in, run_more, run_still, stands_more}
use Rattle.q_listen.specs.Courses.{IsCourse, IsFirst, Start}
use Rattle.q_listen.specs.Refusals.{listen_error}
use Rattle.q_listen.specs.Runs.{IsHalted, IsRun, IsStopped, ledger_of}
use Rattle.q_listen.specs.Stories.{Story, with_told}
use Rattle.q_listen.specs.Told.{mails_told}
use Rattle.q_listen.specs.Turns.{StoppedMail, TookMail}
use Rattle.q_listen.specs.declared.hearing.Life.{Life}
use Rattle.q_listen.specs.declared.listened.ListenError.{ListenError}
use Rattle.q_listen.specs.declared.listened.ListenError.TheVariants as errors
use Rattle.q_model.proofs.RunLaws.{after_all-append}
use Rattle.q_model.specs.Arrivals.{next_id}
use Rattle.q_model.specs.Ledger.{Ledger, opening}
use Rattle.q_model.specs.Past.{arrivals}
use Rattle.q_model.specs.Run.{decisions, entry_of, turn}
use Rattle.q_model.specs.Settings.{World}
use Rattle.q_model.specs.Step.{after, after_all, allowed}
use Rattle.q_model.specs.declared.entry.Entry.{Entry}
use Rattle.q_model.specs.declared.entry.Entry.TheVariants as entries
use Rattle.q_model.specs.declared.event.Event.{Event}
use Rattle.q_model.specs.declared.event.Event.TheVariants as events
use Rattle.q_model.specs.declared.event.LifeEvent.TheVariants.{Heard}
use Rattle.q_model.specs.declared.event.Mode.TheVariants.{Intake}
use Rattle.q_model.specs.declared.limits.Bound.{Bound}
use Rattle.q_model.specs.declared.limits.Bound.TheVariants as bounds
use Rattle.q_replay.proofs.AllowedItems.{item_allowed}
use Rattle.q_replay.specs.Reading.{refusal_at}
use Rattle.q_replay.specs.Takings.{HaltsItem, NotTaken, replay_error, TookItem}
use Rattle.q_replay.specs.declared.error.ReplayError.{ReplayError}
use Rattle.q_replay.specs.declared.error.ReplayError.TheVariants as replay_errors
use Rattle.q_smtpd.specs.Places.{Mail}

-- ---- the ledger's clock

inside_now : (w : World) (l : Ledger) (es : List Entry) → AreInside es → (after_all w l es).now ≡ l.now
unfolding after_all
inside_now w l [] h = refl
inside_now w l (e ∷ es) h = inside_now w (after w l e) es h.1 ∙ inner_now w l e h.0.inner

mail_entries_now : (w : World) (l : Ledger) (e : Entry) (ds : List Entry) → (after w l e).now ≡ l.now → AreInside ds → (after_all w l (e ∷ ds)).now ≡ l.now
unfolding after_all
mail_entries_now w l e ds same inside = inside_now w (after w l e) ds inside ∙ same

abbrev event_of_mail : Mail → Event
event_of_mail m = events.Mail m.sender m.to m.content

mail_now : (w : World) (l : Ledger) (m : Mail) → (after_all w l (turn w l (Heard (event_of_mail m)))).now ≡ l.now
mail_now w l m =
    let e : Entry = entries.Arrive (next_id l) m.sender m.to m.content in
    ap (λ (xs : List Entry). (after_all w l xs).now) (mail_turn w l m.sender m.to m.content)
    ∙ mail_entries_now w l e (decisions w (after w l e)) (inner_now w l e refl) (decisions_inside w (after w l e))

mail_moment : (w : World) (l : Ledger) (m : Mail) (t : ℕ) → moment_after t (turn w l (Heard (event_of_mail m))) ≡ t
mail_moment w l m t =
    let e : Entry = entries.Arrive (next_id l) m.sender m.to m.content in
    ap (λ (xs : List Entry). moment_after t xs) (mail_turn w l m.sender m.to m.content) ∙ same_moment t (decisions w (after w l e)) (decisions_inside w (after w l e))

-- some first entries of its turn tell it, or don't
front_mail : (mail : Mail) (done rest : List Mail) → mail ∷ [] ≡ done ++ rest → (done ≡ []) ⊎ (done ≡ mail ∷ [])
front_mail mail [] rest is = inl refl
front_mail mail (m ∷ done) rest is =
    let same : mail ≡ m = cc in
    let more : [] ≡ done ++ rest = cc in
    inr (ap (λ (xs : List Mail). m ∷ xs) (front_none done rest (sym more)) ∙ ap (λ (x : Mail). x ∷ []) (sym same))

-- the refusal of a message for want of a serial comes where none is left
full_by : (early big many fresh : Bool) (why : EngineError)
    → (if early then Some engine_errors.Untimed else (if big then Some (engine_errors.Limit bounds.Content) else (if many then Some (engine_errors.Limit bounds.Recipients) else (if fresh then None else Some (engine_errors.Limit bounds.Serial))))) ≡ Some why
    → replay_errors.Limit bounds.Serial ≡ replay_error 0 why → fresh ≡ false
full_by true big many fresh why is named =
    let bad : replay_errors.Limit bounds.Serial ≡ replay_errors.BadEvent 0 = named ∙ ap (replay_error 0) (sym (same_Some engine_errors.Untimed why is)) in
    absurd cc
full_by false true many fresh why is named =
    let bad : replay_errors.Limit bounds.Serial ≡ replay_errors.Limit bounds.Content = named ∙ ap (replay_error 0) (sym (same_Some (engine_errors.Limit bounds.Content) why is)) in
    absurd cc
full_by false false true fresh why is named =
    let bad : replay_errors.Limit bounds.Serial ≡ replay_errors.Limit bounds.Recipients = named ∙ ap (replay_error 0) (sym (same_Some (engine_errors.Limit bounds.Recipients) why is)) in
    absurd cc
full_by false false false true why is named = absurd cc
full_by false false false false why is named = refl

-- ---- its turn

module _ {H : Type 0} (view : H → View) (o : Start H) (clock : Option (List ℕ)) (u : View) (life : Life) (s : Story) (mail : Mail) (form : IsMailInForm mail.sender mail.to) (c : IsCourse view o clock u life s) where
  abbrev k : Ledger
  k = ledger_of o.world o.book s.told

  abbrev es : List Entry
  es = turn o.world k (Heard (event_of_mail mail))

  names : Names (event_of_mail mail) [] (mail ∷ []) es
  names = mail_names o.world k mail

  fits_mail : refusal_at k (Step (event_of_mail mail) 0) ≡ None → allowed o.world k (entry_of k (Heard (event_of_mail mail))) ≡ true
  fits_mail accepted = item_allowed o.world k (Step (event_of_mail mail) 0) (c.stands).core.living form accepted

  still_clocked : (fs : List Entry) → moments_of fs ≡ [] → moments_of (s.told ++ fs) ≡ rising s.moments
  still_clocked fs none = moments_added s.told fs ∙ ap (λ (xs : List ℕ). moments_of s.told ++ xs) none ∙ append-nil (moments_of s.told) ∙ c.clocked

  course_mail : (next : Life) (x : View) → next.first ≡ life.first → next.given ≡ life.given → TookItem o.world k (Step (event_of_mail mail) 0) (Some next.engine) u x → IsCourse view o clock x next (with_told es s)
  course_mail next x first given took = record {
    run = run_more o.world o.book (view o.host) u x s.told c.run (event_of_mail mail) names.events_are (fits_mail took.accepted) took.plays took.notes;
    stands = stands_more o.world o.book (view o.host) u x s.told c.run (event_of_mail mail) next.engine took.stands;
    clocked = still_clocked es names.moments_are;
    now = ap (λ (l : Ledger). l.now) (after_all-append o.world (opening Intake o.book) s.told es) ∙ mail_now o.world k mail ∙ c.now;
    named = moment_added 0 s.told es ∙ mail_moment o.world k mail (moment_after 0 s.told) ∙ c.named;
    first = first_same next.first s (with_told es s) refl (subst (λ (b : Bool). IsFirst b s) (sym first) c.first);
    given = c.given;
    rested = c.rested ∙ sym given;
  }

  pub took_mail : (next : Life) (x : View) → next.first ≡ life.first → next.given ≡ life.given → TookItem o.world k (Step (event_of_mail mail) 0) (Some next.engine) u x → TookMail view o clock x mail next s
  took_mail next x first given took = record { entries_told = es; mail_is = names.mails_are; course = course_mail next x first given took }

  -- ---- it was given up

  stopped_told : (error : ListenError) (x : View) (done : List Entry) → moments_of done ≡ [] → (mails_told done ≡ []) ⊎ (mails_told done ≡ mail ∷ []) → IsStopped o.world o.book error (view o.host) x (s.told ++ done) → StoppedMail view o clock x mail error s
  stopped_told error x done none told stopped = record {
    entries_told = done;
    mail_is = told;
    gave_up = record { stopped = stopped; clocked = ([], sym (still_clocked done none) ∙ sym (append-nil (moments_of (s.told ++ done)))); given = c.given };
  }

  -- some first entries of its turn
  abbrev Fronts : List Entry → Type 0
  Fronts done = (moments_of done ≡ []) × ((mails_told done ≡ []) ⊎ (mails_told done ≡ mail ∷ []))

  front_of_turn : (done rest : List Entry) → es ≡ done ++ rest → Fronts done
  front_of_turn done rest all = (
    front_none (moments_of done) (moments_of rest) (sym (ap moments_of all ∙ moments_added done rest) ∙ names.moments_are),
    front_mail mail (mails_told done) (mails_told rest) (sym names.mails_are ∙ ap mails_told all ∙ mails_added done rest),
  )

  front_of_none : (done rest : List Entry) → [] ≡ done ++ rest → Fronts done
  front_of_none [] rest all = (refl, inl refl)
  front_of_none (e ∷ done) rest all = cc

  -- by whether it was refused besides
  record Halted (fault : HostError) (x : View) : Type 0 where
    done : List Entry
    fronts : Fronts done
    is : IsHalted o.world o.book fault (view o.host) x (s.told ++ done)

  halted_mail : (fault : HostError) (x : View) (refusal : Option EngineError) → refusal_at k (Step (event_of_mail mail) 0) ≡ refusal → HaltsRun o.world k (option_map_or (λ (why : EngineError). []) refusal es) fault u x → Halted fault x
  halted_mail fault x None accepted q = record {
    done = q.done;
    fronts = front_of_turn q.done q.rest q.all;
    is = halted_in o.world o.book (view o.host) u x s.told c.run (event_of_mail mail) fault names.events_are (fits_mail accepted) q;
  }
  halted_mail fault x (Some why) refused q = record {
    done = q.done;
    fronts = front_of_none q.done q.rest q.all;
    is = halted_before o.world o.book (view o.host) u x s.told c.run fault q;
  }

  halted : (fault : HostError) (x : View) → HaltsItem o.world k (Step (event_of_mail mail) 0) fault u x → Halted fault x
  halted fault x q = halted_mail fault x (refusal_at k (Step (event_of_mail mail) 0)) refl q

  -- no serial was left for it
  none_left : (why : EngineError) → refusal_at k (Step (event_of_mail mail) 0) ≡ Some why → replay_errors.Limit bounds.Serial ≡ replay_error 0 why → 2 ^ 32 - 1 ≤ length (mails_told s.told)
  none_left why refused named =
      let fresh = full_by (is_early k.timed (event_of_mail mail)) (nat_lt 10240000 (length mail.content)) (nat_lt 50000 (length mail.to)) (nat_lt (arrivals k) (2 ^ 32 - 1)) why refused named in
      let full = ltb-false (arrivals k) (2 ^ 32 - 1) fresh in
      let arrived = (c.run).arrived in
      omega (arith, full, arrived)

  by_kind : (e : ReplayError) (x : View) → NotTaken o.world k (Step (event_of_mail mail) 0) 0 e u x → IsMailRefusal e → StoppedMail view o clock x mail (listen_error e) s
  by_kind replay_errors.Disk x q kind = let h = halted faults.Disk x q in stopped_told errors.Disk x h.done h.fronts.0 h.fronts.1 h.is
  by_kind replay_errors.Tell x q kind = let h = halted faults.Tell x q in stopped_told errors.Tell x h.done h.fronts.0 h.fronts.1 h.is
  by_kind replay_errors.NoMemory x q kind = let h = halted faults.NoMemory x q in stopped_told errors.NoMemory x h.done h.fronts.0 h.fronts.1 h.is
  by_kind replay_errors.Source x q kind = absurd q
  by_kind (replay_errors.BadEvent n) x q (inl host) = absurd cc
  by_kind (replay_errors.BadEvent n) x q (inr is) = absurd cc
  by_kind (replay_errors.Limit bound) x q (inl host) = absurd cc
  by_kind (replay_errors.Limit bound) x q (inr is) =
      let serial : bound ≡ bounds.Serial = cc in
      let run : IsRun o.world o.book (view o.host) x s.told = run_still o.world o.book (view o.host) u x s.told c.run q.stays q.files in
      let full = none_left q.why q.refused (ap (λ (n : Bound). replay_errors.Limit n) (sym serial) ∙ q.names) in
      let both = subst (λ (told : List Entry). IsRun o.world o.book (view o.host) x told × (2 ^ 32 - 1 ≤ length (mails_told told))) (sym (append-nil s.told)) (run, full) in
      stopped_told (errors.Limit bound) x [] refl (inl refl) (serial, both.0, both.1)
  by_kind (replay_errors.Damaged area name) x q (inl host) = absurd cc
  by_kind (replay_errors.Damaged area name) x q (inr is) = absurd cc
  by_kind (replay_errors.Unreadable area name) x q kind = absurd q

  pub stopped_mail : (e : ReplayError) (x : View) → IsMailRefusal e → NotTaken o.world k (Step (event_of_mail mail) 0) 0 e u x → StoppedMail view o clock x mail (listen_error e) s
  stopped_mail e x kind q = by_kind e x q kind
