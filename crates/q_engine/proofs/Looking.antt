-- What the core answered: the next entry, or what it asks for first.
use Rattle.std.specs.Option.{option_or}
use Rattle.std.proofs.Common.{◌≡◌, ◌∙◌, ℕ, Bool, if◌then◌else◌, not, true, false, Option, Some, None, refl, sym, ap, subst, inl, inr, ⊎_elim}
use Rattle.std.specs.Prelude.{◌||◌, Err, is_none, Ok, OnErr, Result}
use Rattle.q_model.specs.declared.entry.Entry.{Entry}
use Rattle.q_model.specs.declared.id.Id.{Id}
use Rattle.q_model.specs.Next.{next}
use Rattle.q_model.proofs.StandLaws.{true_false}
use Rattle.q_model.specs.Ledger.{Ledger}
use Rattle.q_model.specs.Settings.{World}
use Rattle.q_host.specs.View.{View}
use Rattle.q_core.specs.Facts.{IsDated}
use Rattle.q_core.specs.declared.decision.Found.TheVariants as founds
use Rattle.q_look.specs.Forms.{IsLookedAt}
use Rattle.q_core.specs.Changes.{is_known, is_looked_at}
use Rattle.q_core.specs.Deciding.{AsksOnly, decide_in, first_rule_in, is_asking, is_look, IsDecided, IsLooking, IsPlaced, IsStartOf, NotesSkip, question_for, question_of, scan_look_in}
use Rattle.q_core.specs.declared.state.Seen.{Seen}
use Rattle.q_core.specs.declared.state.Seen.TheVariants.{Known, Unknown}
use Rattle.q_model.specs.declared.rows.Scan.{Scan}
use Rattle.q_core.specs.Agrees.{Agrees}
use Rattle.q_core.specs.Decisions.{IsOf, WantsRead}
use Rattle.q_core.specs.declared.decision.Decision.{Decision}
use Rattle.q_core.specs.declared.decision.Decision.TheVariants as decisions
use Rattle.q_core.specs.declared.state.Core.{Core}
use Rattle.q_core.specs.Answers.{IsAnswer, IsFound}
use Rattle.q_core.specs.declared.decision.Found.{Found}
use Rattle.q_core.specs.declared.state.Question.{Question}
use Rattle.q_engine.specs.Looks.{IsLookOf, IsShown}
use Rattle.q_engine.specs.Stands.{EngineStands, HasAsked, HasDecided, IsNextEntry, with_core}
use Rattle.q_engine.specs.declared.engine.Engine.{Engine}

some_same : (d x : Decision) → Some d ≡ Some x → d ≡ x
some_same d x h = cc

module _ (w : World) (l : Ledger) (v : View) where
  -- there is no entry
  pub next_none : (engine : Engine) (c : Core) → EngineStands w engine v l → IsDecided w l engine.core.value None c → IsNextEntry w l None (with_core c engine) v
  next_none engine c h decided = (decided.0, record { table = h.table; core = decided.1; counts = record { begun = h.counts.begun; generation = h.counts.generation; arrivals = h.counts.arrivals; preempts = h.counts.preempts }; host = h.host; logs = h.logs; places = h.places })

  -- all that is known of a decision that the core has taken over
  pub record Answers (engine : Engine) (o : Option Decision) (c : Core) : Type 0 where
    pub stands : EngineStands w engine v l
    pub decided : IsDecided w l engine.core.value o c
    pub placed : IsPlaced l o
    pub started : IsStartOf w l o c
    pub skipped : NotesSkip engine.core.value o c
    pub asked : AsksOnly engine.core.value o c

  -- the same of a core that is lent
  pub answers_lent : (engine : Engine) (lent : Core) (o : Option Decision) (c : Core) → lent ≡ engine.core.value → EngineStands w engine v l → IsDecided w l lent o c → IsPlaced l o → IsStartOf w l o c → NotesSkip lent o c → AsksOnly lent o c → Answers engine o c
  answers_lent engine lent o c same h decided placed started skipped asked = record {
    stands = h;
    decided = subst (λ (k : Core). IsDecided w l k o c) same decided;
    placed = placed;
    started = started;
    skipped = subst (λ (k : Core). NotesSkip k o c) same skipped;
    asked = subst (λ (k : Core). AsksOnly k o c) same asked;
  }

  wants_none : (d : Decision) (rule : Option Entry) → is_asking d ≡ false → WantsRead w l d rule → ⊥
  wants_none (decisions.Read id from max) rule h r = absurd cc
  wants_none _ rule h r = r

  asks_none : (c : Core) (d x : Decision) → Some d ≡ Some x → is_asking x ≡ true → is_asking d ≡ false → ⊥
  asks_none c d x same asks h = true_false (is_asking d) (ap is_asking (some_same d x same) ∙ asks) h

  looks_none : (c : Core) (d : Decision) → is_asking d ≡ false → IsLooking c (Some d) → ⊥
  looks_none c d h (inl (same, seen)) = asks_none c d decisions.LookActive same refl h
  looks_none c d h (inr (inl (same, seen))) = asks_none c d decisions.LookIncoming same refl h
  looks_none c d h (inr (inr (scan, same, there, seen))) = asks_none c d (decisions.LookDeferred scan.place scan.until) same refl h

  -- it has an entry
  plain : (engine : Engine) (d : Decision) (c : Core) → is_asking d ≡ false → Answers engine (Some d) c → (e : Entry) × HasDecided w l d e (with_core c engine) v
  plain engine d c h a = elim a.decided [
    | inl (e, of, is, agrees) ↦ (e, record { before = engine.core.value; table = a.stands.table; of = of; following = is; was = a.stands.core; core = agrees; placed = a.placed; started = a.started; skipped = a.skipped; counts = record { begun = a.stands.counts.begun; generation = a.stands.counts.generation; arrivals = a.stands.counts.arrivals; preempts = a.stands.counts.preempts }; host = a.stands.host; logs = a.stands.logs; places = a.stands.places })
    | inr (asked, agrees) ↦ absurd (⊎_elim (λ r. wants_none d (next w l) h r) (λ k. looks_none engine.core.value d h k) asked)
  ]

  -- what becomes of engine and host while the core asks
  asking : (engine : Engine) (c : Core) → EngineStands w engine v l → Agrees w c l → EngineStands w (with_core c engine) v l
  asking engine c h agrees = record { table = h.table; core = agrees; counts = record { begun = h.counts.begun; generation = h.counts.generation; arrivals = h.counts.arrivals; preempts = h.counts.preempts }; host = h.host; logs = h.logs; places = h.places }

  reads : (engine : Engine) (id : Id) (from max : ℕ) (c : Core) → Answers engine (Some (decisions.Read id from max)) c → HasAsked w l id from max (with_core c engine) v
  reads engine id from max c a = elim a.decided [
    | inl (e, of, is, agrees) ↦ absurd of
    | inr (inl (m, there, room, is), agrees) ↦ record { message = m; there = there; room = room; following = is; stands = asking engine c a.stands agrees }
    | inr (inr k, agrees) ↦ absurd (no_look id from max engine.core.value k)
  ]
    where
      no_look : (id : Id) (from max : ℕ) (c : Core) → IsLooking c (Some (decisions.Read id from max)) → ⊥
      no_look id from max c (inl (same, seen)) = absurd cc
      no_look id from max c (inr (inl (same, seen))) = absurd cc
      no_look id from max c (inr (inr (scan, same, there, seen))) = absurd cc

  pub next_found : (engine : Engine) (d : Decision) (c : Core) → Answers engine (Some d) c → is_look (question_of d) ≡ false → IsNextEntry w l (Some d) (with_core c engine) v
  next_found engine (decisions.Read id from max) c a h = reads engine id from max c a
  next_found engine decisions.LookActive c a h = absurd cc
  next_found engine decisions.LookIncoming c a h = absurd cc
  next_found engine (decisions.LookDeferred after until) c a h = absurd cc
  next_found engine (decisions.Log id failure) c a h = plain engine (decisions.Log id failure) c refl a
  next_found engine (decisions.Mark id position) c a h = plain engine (decisions.Mark id position) c refl a
  next_found engine (decisions.Sync id) c a h = plain engine (decisions.Sync id) c refl a
  next_found engine (decisions.Skip id site entry) c a h = plain engine (decisions.Skip id site entry) c refl a
  next_found engine (decisions.Defer id due) c a h = plain engine (decisions.Defer id due) c refl a
  next_found engine (decisions.Back id) c a h = plain engine (decisions.Back id) c refl a
  next_found engine (decisions.Bounce id) c a h = plain engine (decisions.Bounce id) c refl a
  next_found engine (decisions.Remove id) c a h = plain engine (decisions.Remove id) c refl a
  next_found engine (decisions.Corrupt id place) c a h = plain engine (decisions.Corrupt id place) c refl a
  next_found engine (decisions.Admit id place) c a h = plain engine (decisions.Admit id place) c refl a
  next_found engine (decisions.Preempt child parent transport need) c a h = plain engine (decisions.Preempt child parent transport need) c refl a
  next_found engine (decisions.Start number id site) c a h = plain engine (decisions.Start number id site) c refl a

  look_of : (old new : Core) (d : Decision) → IsLooking old (Some d) → new.scan ≡ old.scan → IsLookOf new d
  look_of old new d (inl (same, seen)) keeps = subst (IsLookOf new) (sym (some_same d decisions.LookActive same)) tt
  look_of old new d (inr (inl (same, seen))) keeps = subst (IsLookOf new) (sym (some_same d decisions.LookIncoming same)) tt
  look_of old new d (inr (inr (scan, same, there, seen))) keeps = subst (IsLookOf new) (sym (some_same d (decisions.LookDeferred scan.place scan.until) same)) (keeps ∙ there)

  -- it asked for a look
  pub look_found : (engine : Engine) (d : Decision) (c : Core) → Answers engine (Some d) c → is_look (question_of d) ≡ true → IsLookOf c d × EngineStands w (with_core c engine) v l
  look_found engine d c a h = elim a.decided [
    | inl (e, of, is, agrees) ↦ absurd (looks_not engine.core.value d e h of)
    | inr (inl r, agrees) ↦ absurd (wants_not d (next w l) h r)
    | inr (inr k, agrees) ↦ (look_of engine.core.value c d k (ap (λ (x : Core). x.scan) (a.asked (look_asks d h))), asking engine c a.stands agrees)
  ]
    where
      looks_not : (c : Core) (d : Decision) (e : Entry) → is_look (question_of d) ≡ true → IsOf c d e → ⊥
      looks_not c decisions.LookActive e h of = of
      looks_not c decisions.LookIncoming e h of = of
      looks_not c (decisions.LookDeferred after until) e h of = of
      looks_not c _ e h of = absurd cc

      wants_not : (d : Decision) (rule : Option Entry) → is_look (question_of d) ≡ true → WantsRead w l d rule → ⊥
      wants_not (decisions.Read id from max) rule h r = absurd cc
      wants_not _ rule h r = r

      look_asks : (d : Decision) → is_look (question_of d) ≡ true → is_asking d ≡ true
      look_asks decisions.LookActive h = refl
      look_asks decisions.LookIncoming h = refl
      look_asks (decisions.LookDeferred after until) h = refl
      look_asks (decisions.Read id from max) h = refl
      look_asks _ h = absurd cc

  -- the same by another name of what the core answered
  pub answers_some : (engine : Engine) (o : Option Decision) (d : Decision) (c : Core) → o ≡ Some d → Answers engine o c → Answers engine (Some d) c
  answers_some engine o d c same a = subst (λ (x : Option Decision). Answers engine x c) same a

pub always_err : {T E : Type 0} {P : Type 0} (r : Result T E) → P → OnErr r P
always_err (Ok x) h = tt
always_err (Err e) h = h

-- where the scan's next name isn't known, the look at it is decided
scan_wanted : (scan : Option Scan) (deferred : Seen) → (is_none scan || is_known deferred) ≡ false → (s : Scan) × (scan_look_in deferred scan ≡ Some (decisions.LookDeferred s.place s.until))
scan_wanted None deferred h = absurd cc
scan_wanted (Some s) (Known found) h = absurd cc
scan_wanted (Some s) Unknown h = (s, refl)

pub scan_asked : (c : Core) (o : Option Decision) → c.timed ≡ true → is_looked_at c ≡ false → o ≡ decide_in c → is_look (question_for o) ≡ true
scan_asked c o timed h is =
    let found = scan_wanted c.scan c.deferred h in
    ap (λ (d : Option Decision). is_look (question_for d)) (is ∙ ap (λ (b : Bool). if not b then None else option_or (scan_look_in c.deferred c.scan) (first_rule_in c)) timed ∙ ap (λ (d : Option Decision). option_or d (first_rule_in c)) found.1)

-- what a look shows is the answer that the core waits for
pub shown_answers : (d : Decision) (c : Core) (found : Found) (l : Ledger) → c.question ≡ question_of d → IsLookOf c d → IsShown d found l → IsFound c found l
shown_answers d c found l asked look shown = subst (λ (q : Question). IsAnswer c q found l) (sym asked) (by d look shown)
  where
    by : (d : Decision) → IsLookOf c d → IsShown d found l → IsAnswer c (question_of d) found l
    by decisions.LookActive look shown = shown
    by decisions.LookIncoming look shown = shown
    by (decisions.LookDeferred after until) look shown = (record { place = after; until = until }, look, shown)
    by (decisions.Read id from max) look shown = absurd look
    by _ look shown = absurd look

-- what a look shows has a due moment of 12 digits at most
pub looked_dated : (found : Found) → IsLookedAt found → IsDated found
looked_dated founds.Nothing h = tt
looked_dated (founds.Damaged id due alone) h = h.digits
looked_dated (founds.Whole id due file) h = h.0.digits
