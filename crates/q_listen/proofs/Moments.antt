-- A life that listens hears the next moment of its clock.
use Rattle.std.proofs.Common.{◌≡◌, ◌≢◌, ◌≤◌, ◌<◌, ◌⊎◌, inl, inr, ℕ, Bool, true, false, List, [], ◌∷◌, ◌++◌, Option, Some, None, refl, sym, ap, ◌∙◌, arith, subst, append-nil, append_assoc}
use Rattle.std.proofs.lemmas.Bool.{le-ltb, lt-ltb}
use Rattle.q_drain.proofs.Adding.{moment_added, moments_added}
use Rattle.q_drain.proofs.Clocking.{later_clocked, same_clocked}
use Rattle.q_drain.proofs.Naming.{at_turn}
use Rattle.q_drain.proofs.Silent.{decisions_inside, same_moment}
use Rattle.q_drain.proofs.Timing.{at_timed}
use Rattle.q_drain.specs.Sweeps.{rising}
use Rattle.q_drain.specs.Told.{moment_after, moments_of}
use Rattle.q_entries.specs.Runs.{HaltsRun}
use Rattle.q_engine.specs.Refusals.{ForAgreed}
use Rattle.q_events.specs.declared.list_item.ListItem.TheVariants.{Step}
use Rattle.q_host.specs.View.{View}
use Rattle.q_host.specs.declared.error.HostError.{HostError}
use Rattle.q_host.specs.declared.error.HostError.TheVariants as faults
use Rattle.q_listen.proofs.Growing.{mails_added}
use Rattle.q_listen.proofs.Naming.{Names, at_names}
use Rattle.q_listen.proofs.Patience.{greatest_more}
use Rattle.q_listen.proofs.Running.{halted_in, run_more, stands_more}
use Rattle.q_listen.specs.Courses.{IsCourse, IsFirst, Start}
use Rattle.q_listen.specs.Listens.{greatest}
use Rattle.q_listen.specs.Refusals.{listen_error}
use Rattle.q_listen.specs.Runs.{IsHalted, IsStopped, ledger_of}
use Rattle.q_listen.specs.Stories.{HasGiven, Story, with_moment}
use Rattle.q_listen.specs.Told.{mails_told}
use Rattle.q_listen.specs.Turns.{HeardMoment, StoppedMoment}
use Rattle.q_listen.specs.declared.hearing.Life.{Life}
use Rattle.q_listen.specs.declared.listened.ListenError.{ListenError}
use Rattle.q_listen.specs.declared.listened.ListenError.TheVariants as errors
use Rattle.q_model.proofs.RunLaws.{after_all-append}
use Rattle.q_model.specs.Ledger.{Ledger, opening}
use Rattle.q_model.specs.Run.{decisions, entry_of, turn}
use Rattle.q_model.specs.Step.{after, after_all, allowed}
use Rattle.q_model.specs.declared.entry.Entry.{Entry}
use Rattle.q_model.specs.declared.entry.Entry.TheVariants as entries
use Rattle.q_model.specs.declared.event.Event.TheVariants as events
use Rattle.q_model.specs.declared.event.LifeEvent.TheVariants.{Heard}
use Rattle.q_model.specs.declared.event.Mode.TheVariants.{Intake}
use Rattle.q_replay.proofs.AllowedItems.{item_allowed}
use Rattle.q_replay.specs.Named.{is_of_host}
use Rattle.q_replay.specs.Takings.{NotTaken, TookItem}
use Rattle.q_replay.specs.declared.error.ReplayError.{ReplayError}
use Rattle.q_replay.specs.declared.error.ReplayError.TheVariants as replay_errors
use Rattle.q_stream.specs.Clocks.{AddsMoment}

-- ---- lists

append_some : (ts : List ℕ) (t : ℕ) → ts ++ t ∷ [] ≢ []
append_some [] t is = absurd cc
append_some (u ∷ ts) t is = absurd cc

-- by the moments alone
pub first_same : (b : Bool) (s r : Story) → r.moments ≡ s.moments → IsFirst b s → IsFirst b r
first_same true s r is h = is ∙ h
first_same false s r is h = λ none. h (sym is ∙ none)

pub front_none : {A : Type 0} (xs ys : List A) → xs ++ ys ≡ [] → xs ≡ []
front_none [] ys h = refl
front_none (x ∷ xs) ys h = cc

-- a moment more was given
pub given_more : (old c z : Option (List ℕ)) (t : ℕ) (s r : Story) → r.moments ≡ s.moments ++ t ∷ [] → AddsMoment c z t → HasGiven old c s → HasGiven old z r
given_more old c None t s r more adds h given is = cc
given_more old None (Some now) t s r more adds h given is = absurd adds
given_more old (Some was) (Some now) t s r more adds h given is =
    let before = h was refl in
    let same : now ≡ given = cc in (
      before.0,
      before.1,
      sym same ∙ adds ∙ ap (λ xs. xs ++ t ∷ []) before.2 ∙ append_assoc before.0 s.moments (t ∷ []) ∙ ap (λ xs. before.0 ++ xs) (sym more),
    )

-- ---- a moment that isn't told

same_on : (told : List Entry) (moments : List ℕ) (t : ℕ) → moments ≢ [] → moments_of told ≡ rising moments → moment_after 0 told ≡ greatest moments → t ≤ greatest moments → moments_of told ≡ rising (moments ++ t ∷ [])
same_on told [] t some clocked named late = absurd (some refl)
same_on told (u ∷ ts) t some clocked named late = same_clocked u ts told t clocked (le-ltb (moment_after 0 told) t (omega (arith, late, named)))

module _ {H : Type 0} (view : H → View) (o : Start H) (old new : Option (List ℕ)) (u : View) (life : Life) (s : Story) (t : ℕ) (adds : AddsMoment old new t) (c : IsCourse view o old u life s) where
  heard_no_more : s.moments ≢ [] → life.first ≡ false → t ≤ greatest s.moments → IsCourse view o new u life (record s { moments = s.moments ++ t ∷ [] })
  heard_no_more some first late =
      let r : Story = record s { moments = s.moments ++ t ∷ [] } in
      let more = greatest_more s.moments t in
      let now = c.now in
      let named = c.named in
      record {
        run = c.run;
        stands = c.stands;
        clocked = same_on s.told s.moments t some c.clocked named late;
        now = omega (arith, more, now, late);
        named = omega (arith, more, named, late);
        first = subst (λ (b : Bool). IsFirst b r) (sym first) (append_some s.moments t);
        given = given_more o.outside.clock old new t s r refl adds c.given;
        rested = c.rested;
      }

  pub heard_same : (now : ℕ) → ForAgreed life.engine (λ w l. now ≡ l.now) → life.first ≡ false → t ≤ now → HeardMoment view o new u life s
  heard_same now says first late =
      let clock = says o.world (ledger_of o.world o.book s.told) (c.stands).core (c.stands).counts in
      let at = c.now in
      let some : s.moments ≢ [] = subst (λ (b : Bool). IsFirst b s) first c.first in
      record {
        moment = t;
        entries_told = [];
        no_mail = refl;
        course = subst (λ (told : List Entry). IsCourse view o new u life (record s { told = told; moments = s.moments ++ t ∷ [] })) (sym (append-nil s.told)) (heard_no_more some first (omega (arith, late, clock, at)));
      }

  -- ---- a moment that is told

  abbrev k : Ledger
  k = ledger_of o.world o.book s.told

  abbrev es : List Entry
  es = turn o.world k (Heard (events.At t))

  -- it is the first, or past those before it
  abbrev pub IsNew : Type 0
  IsNew = (life.first ≡ true) ⊎ (greatest s.moments < t)

  pub past_now : (now : ℕ) → ForAgreed life.engine (λ w l. now ≡ l.now) → now < t → IsNew
  past_now now says late =
      let clock = says o.world k (c.stands).core (c.stands).counts in
      let at = c.now in
      inr (omega (arith, late, clock, at))

  none_greatest : (moments : List ℕ) → moments ≡ [] → greatest moments ≡ 0
  none_greatest moments none = ap greatest none

  late_enough : IsNew → greatest s.moments ≤ t
  late_enough (inl first) =
      let none : s.moments ≡ [] = subst (λ (b : Bool). IsFirst b s) first c.first in
      let zero_is = none_greatest s.moments none in
      omega (arith, zero_is)
  late_enough (inr late) = omega (arith, late)

  clocked_first : s.moments ≡ [] → moments_of es ≡ t ∷ [] → moments_of (s.told ++ es) ≡ rising (s.moments ++ t ∷ [])
  clocked_first none names =
      moments_added s.told es ∙ ap (λ (xs : List ℕ). xs ++ moments_of es) (c.clocked ∙ ap rising none) ∙ names ∙ ap (λ (xs : List ℕ). rising (xs ++ t ∷ [])) (sym none)

  clocked_later : (moments : List ℕ) → moments ≢ [] → moments_of s.told ≡ rising moments → moment_after 0 s.told < t → k.now ≤ t → moments_of (s.told ++ es) ≡ rising (moments ++ t ∷ [])
  clocked_later [] some clocked late least = absurd (some refl)
  clocked_later (m ∷ ms) some clocked late least =
      let ds = decisions o.world (after o.world k (entries.At t)) in
      ap (λ (xs : List Entry). moments_of (s.told ++ xs)) (at_turn o.world k t (omega (arith, least)))
      ∙ later_clocked m ms s.told t ds clocked (lt-ltb (moment_after 0 s.told) t late) (decisions_inside o.world (after o.world k (entries.At t)))

  clocked_on : k.now ≤ t → moments_of es ≡ t ∷ [] → IsNew → moments_of (s.told ++ es) ≡ rising (s.moments ++ t ∷ [])
  clocked_on least names (inl first) = clocked_first (subst (λ (b : Bool). IsFirst b s) first c.first) names
  clocked_on least names (inr late) = by life.first refl
    where
      by : (b : Bool) → life.first ≡ b → moments_of (s.told ++ es) ≡ rising (s.moments ++ t ∷ [])
      by true first = clocked_first (subst (λ (b : Bool). IsFirst b s) first c.first) names
      by false first =
          let named = c.named in
          clocked_later s.moments (subst (λ (b : Bool). IsFirst b s) first c.first) c.clocked (omega (arith, late, named)) least

  -- the ledger's clock behind it, and what the lines say of it
  timed_at : k.now ≤ t → (after_all o.world k es).now ≡ t
  timed_at least =
      let ds = decisions o.world (after o.world k (entries.At t)) in
      ap (λ (xs : List Entry). (after_all o.world k xs).now) (at_turn o.world k t (omega (arith, least)))
      ∙ at_timed o.world k 0 t ∙ same_moment t ds (decisions_inside o.world (after o.world k (entries.At t)))

  named_at : k.now ≤ t → moment_after 0 (s.told ++ es) ≡ t
  named_at least =
      let ds = decisions o.world (after o.world k (entries.At t)) in
      moment_added 0 s.told es
      ∙ ap (λ (xs : List Entry). moment_after (moment_after 0 s.told) xs) (at_turn o.world k t (omega (arith, least)))
      ∙ same_moment t ds (decisions_inside o.world (after o.world k (entries.At t)))

  module _ (is_new : IsNew) (fits : t ≤ 999990000000) where
    least : k.now ≤ t
    least = let late = late_enough is_new in let at = c.now in omega (arith, late, at)

    names : Names (events.At t) (t ∷ []) [] es
    names = at_names o.world k t least

    fits_at : allowed o.world k (entry_of k (Heard (events.At t))) ≡ true
    fits_at = item_allowed o.world k (Step (events.At t) 0) (c.stands).core.living fits refl

    heard_later : (next : Life) (x : View) → next.first ≡ false → next.given ≡ life.given → TookItem o.world k (Step (events.At t) 0) (Some next.engine) u x → IsCourse view o new x next (with_moment es t s)
    heard_later next x first given took =
        let run = run_more o.world o.book (view o.host) u x s.told c.run (events.At t) names.events_are fits_at took.plays took.notes in
        let stands = stands_more o.world o.book (view o.host) u x s.told c.run (events.At t) next.engine took.stands in
        let late = late_enough is_new in
        let more = greatest_more s.moments t in
        let here = timed_at least in
        let there : (ledger_of o.world o.book (s.told ++ es)).now ≡ (after_all o.world k es).now = ledger_now in
        let named = named_at least in
        record {
          run = run;
          stands = stands;
          clocked = clocked_on least names.moments_are is_new;
          now = omega (arith, there, here, more, late);
          named = omega (arith, named, more, late);
          first = subst (λ (b : Bool). IsFirst b (with_moment es t s)) (sym first) (append_some s.moments t);
          given = given_more o.outside.clock old new t s (with_moment es t s) refl adds c.given;
          rested = c.rested ∙ sym given;
        }
      where
        ledger_now : (ledger_of o.world o.book (s.told ++ es)).now ≡ (after_all o.world k es).now
        ledger_now = ap (λ (l : Ledger). l.now) (after_all-append o.world (opening Intake o.book) s.told es)

    pub heard_at : (next : Life) (x : View) → next.first ≡ false → next.given ≡ life.given → TookItem o.world k (Step (events.At t) 0) (Some next.engine) u x → HeardMoment view o new x next s
    heard_at next x first given took = record {
      moment = t;
      entries_told = es;
      no_mail = names.mails_are;
      course = heard_later next x first given took;
    }

    -- its turn was given up
    stopped_part : (fault : HostError) (error : ListenError) (x : View) (q : HaltsRun o.world k es fault u x) → IsStopped o.world o.book error (view o.host) x (s.told ++ q.done) → StoppedMoment view o new x error s
    stopped_part fault error x q stopped =
        let full = clocked_on least names.moments_are is_new in
        let split : moments_of (s.told ++ es) ≡ moments_of (s.told ++ q.done) ++ moments_of q.rest = ap (λ (xs : List Entry). moments_of (s.told ++ xs)) q.all ∙ ap moments_of (sym (append_assoc s.told q.done q.rest)) ∙ moments_added (s.told ++ q.done) q.rest in
        record {
          moment = t;
          entries_told = q.done;
          no_mail = front_none (mails_told q.done) (mails_told q.rest) (sym (ap mails_told q.all ∙ mails_added q.done q.rest) ∙ names.mails_are);
          gave_up = record {
            stopped = stopped;
            clocked = (moments_of q.rest, sym full ∙ split);
            given = given_more o.outside.clock old new t s (with_moment q.done t s) refl adds c.given;
          };
        }

    halted_at : (fault : HostError) (x : View) (q : HaltsRun o.world k es fault u x) → IsHalted o.world o.book fault (view o.host) x (s.told ++ q.done)
    halted_at fault x q = halted_in o.world o.book (view o.host) u x s.told c.run (events.At t) fault names.events_are fits_at q

    pub stopped_at : (e : ReplayError) (x : View) → is_of_host e ≡ true → NotTaken o.world k (Step (events.At t) 0) 0 e u x → StoppedMoment view o new x (listen_error e) s
    stopped_at replay_errors.Disk x h q = stopped_part faults.Disk errors.Disk x q (halted_at faults.Disk x q)
    stopped_at replay_errors.Tell x h q = stopped_part faults.Tell errors.Tell x q (halted_at faults.Tell x q)
    stopped_at replay_errors.NoMemory x h q = stopped_part faults.NoMemory errors.NoMemory x q (halted_at faults.NoMemory x q)
    stopped_at replay_errors.Source x h q = absurd cc
    stopped_at (replay_errors.BadEvent n) x h q = absurd cc
    stopped_at (replay_errors.Limit bound) x h q = absurd cc
    stopped_at (replay_errors.Damaged area name) x h q = absurd cc
    stopped_at (replay_errors.Unreadable area name) x h q = absurd q
