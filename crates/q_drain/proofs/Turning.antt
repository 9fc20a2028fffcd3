-- The turn of an event is told: what was told stays the run of its events, and what begins waits to be opened.
use Rattle.q_drain.specs.Sweeps.{IsClocked}
use Rattle.q_drain.specs.Rooms.{MayBeginMore}
use Rattle.q_drain.proofs.Rooming.{room_at, room_more, room_reply}
use Rattle.std.proofs.Common.{◌≡◌, ◌≢◌, ◌≤◌, ◌+◌, ℕ, true, false, List, [], ◌∷◌, ◌++◌, length, length-append, Some, refl, sym, ap, ◌∙◌, subst}
use native.Mathlib.Omega.{arith}
use Rattle.std.proofs.lemmas.List.{append-nil}
use Rattle.std.specs.List.{AllByRecursion}
use Rattle.std.specs.Prelude.{nat_lt}
use Rattle.q_agent.specs.Sessions.{OpenSession}
use Rattle.q_drain.proofs.Adding.{begun_added, found_longer, moment_added}
use Rattle.q_drain.proofs.Clocking.{IsClockedBy, first_clocked, later_clocked, none_clocked, same_clocked}
use Rattle.q_laws.proofs.Deciding.{AreDecisions}
use Rattle.q_drain.proofs.Polling.{some_work}
use Rattle.q_drain.proofs.Naming.{at_names_turn, at_turn, reply_names_turn, reply_turn}
use Rattle.q_drain.proofs.Numbering.{decided_numbers, entry_starts, inside_starts}
use Rattle.q_drain.proofs.Running.{run_longer}
use Rattle.q_drain.proofs.Silent.{AreInside, decisions_inside, no_moments, no_replies}
use Rattle.q_drain.proofs.Timing.{at_timed, reply_timed}
use Rattle.q_drain.proofs.Working.{work_like}
use Rattle.q_drain.specs.Drains.{IsOwnRun}
use Rattle.q_drain.specs.Driving.{AreConnected, IsOnCourse}
use Rattle.q_drain.specs.Flights.{AreNumbered}
use Rattle.q_drain.specs.Stories.{Story}
use Rattle.q_drain.specs.Told.{Begun, begun, begun_from, begun_of, moment_after, moment_behind}
use Rattle.q_drain.specs.Works.{IsSessionOf, IsWorkOf}
use Rattle.q_link.specs.Views.{Told}
use Rattle.q_lives.proofs.AsArrived.{HasLike}
use Rattle.q_model.proofs.RunLaws.{after_all-append}
use Rattle.q_model.specs.declared.entry.Entry.{Entry}
use Rattle.q_model.specs.declared.entry.Entry.TheVariants as entries
use Rattle.q_model.specs.declared.event.Event.TheVariants as events
use Rattle.q_model.specs.declared.outcome.Outcome.{Outcome}
use Rattle.q_model.specs.declared.outcome.SiteState.{SiteState}
use Rattle.q_model.specs.declared.rows.Delivery.{Delivery}
use Rattle.q_model.specs.Book.{Book, message_of}
use Rattle.q_model.specs.Ledger.{Ledger}
use Rattle.q_model.specs.Message.{Message}
use Rattle.q_model.specs.Past.{is_life, is_living, starts}
use Rattle.q_model.specs.Run.{decisions}
use Rattle.q_model.specs.Settings.{World}
use Rattle.q_model.specs.Step.{after, after_all, allowed}

-- ---- the entries of a turn

abbrev pub at_entries : World → Ledger → ℕ → List Entry
at_entries w l t = entries.At t ∷ decisions w (after w l (entries.At t))

abbrev pub reply_entries : World → Ledger → ℕ → SiteState → List Outcome → List Entry
reply_entries w l number site outcomes = entries.Reply number site outcomes ∷ decisions w (after w l (entries.Reply number site outcomes))

-- an event's entry and its decisions count what they begin
turn_starts : (w : World) (l : Ledger) (t : ℕ) (e : Entry) (ds : List Entry) → is_life e ≡ false → AreInside ds → starts (after_all w l (e ∷ ds)) ≡ starts l + length (begun_from t (e ∷ ds))
unfolding after_all
turn_starts w l t e ds life h =
    let rest = inside_starts w (after w l e) (moment_behind t e) ds h in
    let one = entry_starts w l t e life in
    let all = length-append (begun_of t e) (begun_from (moment_behind t e) ds) in
    omega (arith, rest, one, all)

longer_starts : (w : World) (l : Ledger) (told es : List Entry) → starts (after_all w l told) ≡ length (begun told) → starts (after_all w (after_all w l told) es) ≡ starts (after_all w l told) + length (begun_from (moment_after 0 told) es)
    → starts (after_all w l (told ++ es)) ≡ length (begun (told ++ es))
longer_starts w l told es h k =
    let join = ap starts (after_all-append w l told es) in
    let more = ap length (begun_added 0 told es) ∙ length-append (begun told) (begun_from (moment_after 0 told) es) in
    omega (arith, join, more, h, k)

longer_now : (w : World) (l : Ledger) (told es : List Entry) → (after_all w (after_all w l told) es).now ≡ moment_after (moment_after 0 told) es → (after_all w l (told ++ es)).now ≡ moment_after 0 (told ++ es)
longer_now w l told es h = ap (λ (k : Ledger). k.now) (after_all-append w l told es) ∙ h ∙ sym (moment_added 0 told es)

-- ---- a moment

abbrev pub with_moment : World → Ledger → Story → ℕ → Story
with_moment w l s t = record s { told = s.told ++ at_entries w (after_all w l s.told) t; moments = s.moments ++ t ∷ [] }

-- it is told where it is past those before it
at_clocked : (w : World) (k : Ledger) (moments : List ℕ) (told : List Entry) (t : ℕ) → IsClockedBy moments told → moments ≢ [] → nat_lt (moment_after 0 told) t ≡ true → IsClockedBy (moments ++ t ∷ []) (told ++ at_entries w k t)
at_clocked w k [] told t clocked some late = absurd (some refl)
at_clocked w k (u ∷ ts) told t clocked some late = later_clocked u ts told t (decisions w (after w k (entries.At t))) clocked late (decisions_inside w (after w k (entries.At t)))

course_by : (w : World) (l : Ledger) (s : Story) (t : ℕ) → IsOnCourse w l s → is_living (after_all w l s.told) ≡ true → (after_all w l s.told).now ≤ t → IsClockedBy (s.moments ++ t ∷ []) (s.told ++ at_entries w (after_all w l s.told) t) → IsOnCourse w l (with_moment w l s t)
course_by w l s t c living late clocked =
    let k : Ledger = after_all w l s.told in
    let es : List Entry = at_entries w k t in
    let ds = decisions_inside w (after w k (entries.At t)) in
    record {
      room = room_more w l s.told es c.room (room_at w k t living late);
      run = subst (λ xs. IsOwnRun w l (s.told ++ xs)) (at_turn w k t (omega (arith, late))) (run_longer w l s.told (events.At t) c.run (at_names_turn w k t late));
      clocked = clocked;
      now = longer_now w l s.told es (at_timed w k (moment_after 0 s.told) t);
      starts = longer_starts w l s.told es c.starts (turn_starts w k (moment_after 0 s.told) (entries.At t) (decisions w (after w k (entries.At t))) refl ds);
    }

pub course_later : (w : World) (l : Ledger) (s : Story) (t : ℕ) → IsOnCourse w l s → is_living (after_all w l s.told) ≡ true → s.moments ≢ [] → nat_lt (moment_after 0 s.told) t ≡ true → (after_all w l s.told).now ≤ t → IsOnCourse w l (with_moment w l s t)
course_later w l s t c living some late least = course_by w l s t c living least (at_clocked w (after_all w l s.told) s.moments s.told t c.clocked some late)

-- the first of a call is told
pub course_first : (w : World) (l : Ledger) (s : Story) (t : ℕ) → IsOnCourse w l s → is_living (after_all w l s.told) ≡ true → s.moments ≡ [] → s.told ≡ [] → (after_all w l s.told).now ≤ t → IsOnCourse w l (with_moment w l s t)
course_first w l s t c living none silent least =
    let k : Ledger = after_all w l s.told in
    let first : IsClockedBy (t ∷ []) (at_entries w k t) = first_clocked t (decisions w (after w k (entries.At t))) (decisions_inside w (after w k (entries.At t))) in
    course_by w l s t c living least (subst (λ told. IsClockedBy (s.moments ++ t ∷ []) (told ++ at_entries w k t)) (sym silent) (subst (λ moments. IsClockedBy (moments ++ t ∷ []) (at_entries w k t)) (sym none) first))

-- one that isn't past those before it isn't told
pub course_same : (w : World) (l : Ledger) (s : Story) (t : ℕ) → IsOnCourse w l s → s.moments ≢ [] → nat_lt (moment_after 0 s.told) t ≡ false → IsOnCourse w l (record s { moments = s.moments ++ t ∷ [] })
course_same w l s t c some late = record { run = c.run; room = c.room; clocked = on s.moments some c.clocked; now = c.now; starts = c.starts }
  where
    on : (moments : List ℕ) → moments ≢ [] → IsClockedBy moments s.told → IsClockedBy (moments ++ t ∷ []) s.told
    on [] some h = absurd (some refl)
    on (u ∷ ts) some h = same_clocked u ts s.told t h late

-- ---- a reply

abbrev pub with_reply : World → Ledger → Story → ℕ → SiteState → List Outcome → Story
with_reply w l s number site outcomes = record s { told = s.told ++ reply_entries w (after_all w l s.told) number site outcomes }

-- what was told with it is a run still
pub run_reply : (w : World) (l : Ledger) (s : Story) (number : ℕ) (site : SiteState) (outcomes : List Outcome) → IsOwnRun w l s.told → IsOwnRun w l (s.told ++ reply_entries w (after_all w l s.told) number site outcomes)
run_reply w l s number site outcomes run =
    let k : Ledger = after_all w l s.told in
    subst (λ xs. IsOwnRun w l (s.told ++ xs)) (reply_turn w k number site outcomes) (run_longer w l s.told (events.Reply number site outcomes) run (reply_names_turn w k number site outcomes))

-- and no moment more
pub clocked_reply : (w : World) (l : Ledger) (s : Story) (number : ℕ) (site : SiteState) (outcomes : List Outcome) → IsClocked s → IsClocked (with_reply w l s number site outcomes)
clocked_reply w l s number site outcomes clocked =
    let k : Ledger = after_all w l s.told in
    none_clocked s.moments s.told (reply_entries w k number site outcomes) clocked (no_moments (decisions w (after w k (entries.Reply number site outcomes))) (decisions_inside w (after w k (entries.Reply number site outcomes))))

pub course_reply : (w : World) (l : Ledger) (s : Story) (number : ℕ) (site : SiteState) (outcomes : List Outcome) → IsOnCourse w l s → allowed w (after_all w l s.told) (entries.Reply number site outcomes) ≡ true → MayBeginMore (after_all w l s.told) → IsOnCourse w l (with_reply w l s number site outcomes)
course_reply w l s number site outcomes c fits few =
    let k : Ledger = after_all w l s.told in
    let es : List Entry = reply_entries w k number site outcomes in
    let ds = decisions_inside w (after w k (entries.Reply number site outcomes)) in
    record {
      run = run_reply w l s number site outcomes c.run;
      room = room_more w l s.told es c.room (room_reply w k number site outcomes fits few);
      clocked = clocked_reply w l s number site outcomes c.clocked;
      now = longer_now w l s.told es (subst (λ t. (after_all w k es).now ≡ moment_after t es) c.now (reply_timed w k number site outcomes));
      starts = longer_starts w l s.told es c.starts (turn_starts w k (moment_after 0 s.told) (entries.Reply number site outcomes) (decisions w (after w k (entries.Reply number site outcomes))) refl ds);
    }

-- ---- what begins

current_of : (t : ℕ) (e : Entry) (bs : List Begun) → AllByRecursion (λ (b : Begun). b.moment ≡ t) bs → AllByRecursion (λ (b : Begun). b.moment ≡ t) (begun_of t e ++ bs)
current_of t entries.End bs h = h
current_of t (entries.Life generation mode) bs h = h
current_of t (entries.At now) bs h = h
current_of t (entries.Arrive id sender to content) bs h = h
current_of t (entries.Reply number site os) bs h = h
current_of t (entries.Trigger kind) bs h = h
current_of t (entries.Start number id site positions) bs h = (refl, h)
current_of t (entries.Back id) bs h = h
current_of t (entries.Admit id) bs h = h
current_of t (entries.Load id from to) bs h = h
current_of t (entries.Preempt child parent transport need) bs h = h
current_of t (entries.Skip id site positions) bs h = h
current_of t (entries.Log id failure) bs h = h
current_of t (entries.Mark id position) bs h = h
current_of t (entries.Sync id) bs h = h
current_of t (entries.Defer id due) bs h = h
current_of t (entries.Bounce id) bs h = h
current_of t (entries.Remove id) bs h = h
current_of t (entries.Corrupt id) bs h = h

inside_current : (t : ℕ) (es : List Entry) → AreInside es → AllByRecursion (λ (b : Begun). b.moment ≡ t) (begun_from t es)
inside_current t [] h = tt
inside_current t (e ∷ es) h = current_of t e (begun_from (moment_behind t e) es) (subst (λ s. AllByRecursion (λ (b : Begun). b.moment ≡ t) (begun_from s es)) (sym (h.0.behind t)) (inside_current t es h.1))

-- decisions behind an event begin deliveries that wait for their connects
pub connected_turn : (w : World) (k : Ledger) (s r : Story) (early : List Begun) (m : ℕ) (ds : List Entry) → AreConnected s early [] → r.connects ≡ s.connects → r.hops ≡ s.hops
    → begun r.told ≡ begun s.told ++ begun_from m ds → moment_after 0 r.told ≡ m → AreDecisions w k ds → AreInside ds → starts k ≡ length early → AreConnected r early (begun_from m ds)
connected_turn w k s r early m ds c connects hops begins moment are inside numbers = record {
  begins = begins ∙ ap (λ (bs : List Begun). bs ++ begun_from m ds) (c.begins ∙ append-nil early);
  numbers = subst (λ n. AreNumbered n (begun_from m ds)) numbers (decided_numbers w k m ds are);
  current = subst (λ t. AllByRecursion (λ (b : Begun). b.moment ≡ t) (begun_from m ds)) (sym moment) (inside_current m ds inside);
  connects = connects ∙ c.connects;
  hops = hops ∙ c.hops;
}

-- ---- open sessions

-- more is told, and the message is another one like it
pub session_longer : (book new : Book) (told es : List Entry) (Tells : Begun → Told → Type 0) (f : Delivery) (o : OpenSession) → ((m : Message) → message_of book f.row.id ≡ Some m → HasLike m new f.row.id)
    → IsSessionOf book told Tells f o → IsSessionOf new (told ++ es) Tells f o
session_longer book new told es Tells f o like h =
    let one : HasLike h.message new f.row.id = like h.message h.stands in
    record {
      number = h.number;
      positive = h.positive;
      recipients = h.recipients;
      start = h.start;
      is = h.is;
      begins = found_longer told es h.start h.begins;
      message = one.0;
      stands = one.1;
      work = some_work (IsWorkOf Tells h.start h.message) (IsWorkOf Tells h.start one.0) (λ w k. work_like Tells h.start h.message one.0 w one.2 k) o.work h.work;
    }
