-- What comes of the next moment of a clock.
use native.Mathlib.Omega.{arith}
use Rattle.std.proofs.Common.{◌≡◌, ◌≤◌, ◌<◌, ◌⊎◌, inl, inr, ℕ, Bool, true, false, List, [], ◌∷◌, ◌++◌, length, length-append, Option, Some, None, refl, sym, ap, ◌∙◌, subst}
use Rattle.std.proofs.lemmas.Bool.{le-ltb, lt-ltb}
use Rattle.std.proofs.lemmas.List.{append-nil}
use Rattle.std.specs.Prelude.{◌||◌}
use Rattle.q_agent.specs.Sessions.{OpenSession}
use Rattle.q_books.specs.HostStands.{TellsCrashes}
use Rattle.q_drain.proofs.Rooming.{room_at, room_front, room_more}
use Rattle.q_drain.proofs.Cutting.{cases_front, cut_turn, front_replies}
use Rattle.q_drain.proofs.Ending.{cases_deliver}
use Rattle.q_drain.proofs.Moments.{begun_behind}
use Rattle.q_drain.proofs.GivingUp.{gives_up_part}
use Rattle.q_drain.proofs.Naming.{at_names_turn, at_turn}
use Rattle.q_drain.proofs.Silent.{decisions_inside, no_moments, no_replies}
use Rattle.q_drain.proofs.Turning.{at_entries, course_first, course_later, course_same, with_moment}
use Rattle.q_drain.proofs.UnderWay.{at_under_way, did_still, given_more, same_under_way}
use Rattle.q_drain.specs.Drains.{IsOwnRun}
use Rattle.q_drain.specs.Driving.{IsOnCourse}
use Rattle.q_drain.specs.Faults.{stop_of}
use Rattle.q_drain.specs.GivenUp.{GivesUp}
use Rattle.q_drain.specs.Heard.{Heard, IsBetween, IsFirst}
use Rattle.q_drain.specs.Opened.{IsServing}
use Rattle.q_drain.specs.Rooms.{HadRoom}
use Rattle.q_drain.specs.Standing.{Outside}
use Rattle.q_drain.specs.Stories.{Story}
use Rattle.q_drain.specs.Told.{Begun, ended, moment_after}
use Rattle.q_engine.proofs.StoredNotes.{stores_none}
use Rattle.q_engine.specs.KeptNotes.{AddsAllNotes}
use Rattle.q_engine.specs.Refusals.{ForAgreed, is_of_event, is_of_host, refusal_of, refused_event}
use Rattle.q_engine.specs.Steps.{TookTurn}
use Rattle.q_engine.specs.declared.engine.Engine.{Engine}
use Rattle.q_engine.specs.declared.error.EngineError.{EngineError}
use Rattle.q_engine.specs.declared.error.EngineError.TheVariants as errors
use Rattle.q_engine.specs.declared.stop.Stop.TheVariants as stops
use Rattle.q_host.specs.declared.error.HostError.TheVariants as faults
use Rattle.q_entries.proofs.Playing.{plays_none}
use Rattle.q_entries.specs.Runs.{HaltsRun, PlaysRun}
use Rattle.q_host.specs.View.{View as HostView}
use Rattle.q_host.specs.declared.error.HostError.{HostError}
use Rattle.q_link.specs.Records.{HopsView}
use Rattle.q_model.specs.declared.entry.Entry.{Entry}
use Rattle.q_model.specs.declared.entry.Entry.TheVariants as entries
use Rattle.q_model.specs.declared.event.Event.TheVariants as events
use Rattle.q_model.specs.declared.event.LifeEvent.TheVariants.{Heard as IsHeardEvent}
use Rattle.q_model.specs.declared.rows.Delivery.{Delivery}
use Rattle.q_model.specs.Ledger.{Ledger}
use Rattle.q_model.specs.Past.{is_living}
use Rattle.q_model.specs.Run.{decisions, turn}
use Rattle.q_model.specs.Settings.{World}
use Rattle.q_model.specs.Step.{after, after_all}
use Rattle.q_stream.specs.Clocks.{AddsMoment}

-- ---- a moment that isn't told

pub heard_same : (w : World) (l : Ledger) (a : Outside) (old new : Option (List ℕ)) (hops : HopsView) (u : HostView) (engine : Engine) (early : List Begun) (fs : List Delivery) (os : List OpenSession) (s : Story) (t now : ℕ)
    → TellsCrashes u → IsFirst false s → AddsMoment old new t → ForAgreed engine (λ w l. now ≡ l.now) → t ≤ now
    → IsBetween w l a (record { clock = old; hops = hops }) u engine early fs os s → Heard w l a (record { clock = new; hops = hops }) u u engine early fs os s
heard_same w l a old new hops u engine early fs os s t now lawful some adds says late b =
    let k : Ledger = after_all w l s.told in
    let z : Outside = record { clock = old; hops = hops } in
    let h = b.2 in
    let clock = says w k h.stands.core h.stands.counts ∙ h.driving.course.now in
    let r : Story = record s { moments = s.moments ++ t ∷ [] } in
    let course = course_same w l s t h.driving.course some (le-ltb (moment_after 0 s.told) t (omega (arith, late, clock))) in
    let st = same_under_way w l a z u early fs os s b.0 engine new t h b.1 adds course in
    let more = length-append s.moments (t ∷ []) in
    let serving : IsServing w l a (record { clock = new; hops = hops }) u engine (record { listed = os; polled = 0 }) early [] fs r = record { under_way = st; polled = omega arith; some = omega (arith, more) } in
    record {
      moment = t;
      entries_told = [];
      waiting = [];
      line = ([], refl, inl refl);
      plays = plays_none w k u lawful h.stands.host;
      adds = (stores_none w k u.files).adds;
      serving = subst (λ told. IsServing w l a (record { clock = new; hops = hops }) u engine (record { listed = os; polled = 0 }) early [] fs (record s { told = told; moments = s.moments ++ t ∷ [] })) (sym (append-nil s.told)) serving;
    }

-- ---- a moment that is told

-- it is the first, or past those before it
abbrev pub IsNew : Bool → Story → ℕ → Type 0
IsNew first s t = (first ≡ true) ⊎ (moment_after 0 s.told < t)

course_on : (w : World) (l : Ledger) (s : Story) (first : Bool) (t : ℕ) → IsFirst first s → IsNew first s t → IsOnCourse w l s → is_living (after_all w l s.told) ≡ true → (IsOnCourse w l (with_moment w l s t)) × ((after_all w l s.told).now ≤ t)
course_on w l s true t f late c living =
    let start : moment_after 0 s.told ≡ 0 = ap (moment_after 0) f.1 in
    let clock = c.now in
    let least : (after_all w l s.told).now ≤ t = omega (arith, clock, start) in
    (course_first w l s t c living f.0 f.1 least, least)
course_on w l s false t f (inl first) c living = cc
course_on w l s false t f (inr late) c living =
    let clock = c.now in
    let least : (after_all w l s.told).now ≤ t = omega (arith, clock, late) in
    (course_later w l s t c living f (lt-ltb (moment_after 0 s.told) t late) least, least)

-- it is past what the engine says
pub past_now : (w : World) (l : Ledger) (a z : Outside) (u : HostView) (engine : Engine) (early : List Begun) (fs : List Delivery) (os : List OpenSession) (s : Story) (now t : ℕ) → ForAgreed engine (λ w l. now ≡ l.now) → IsBetween w l a z u engine early fs os s → now < t → moment_after 0 s.told < t
past_now w l a z u engine early fs os s now t says b late =
    let h = b.2 in
    let clock = says w (after_all w l s.told) h.stands.core h.stands.counts ∙ h.driving.course.now in
    omega (arith, clock, late)

pub heard_at : (w : World) (l : Ledger) (a : Outside) (old new : Option (List ℕ)) (hops : HopsView) (u x : HostView) (engine next : Engine) (early : List Begun) (fs : List Delivery) (os : List OpenSession) (s : Story) (first : Bool) (t : ℕ)
    → IsFirst first s → AddsMoment old new t → IsNew first s t
    → (b : IsBetween w l a (record { clock = old; hops = hops }) u engine early fs os s) → TookTurn w (after_all w l s.told) (events.At t) next u x → Heard w l a (record { clock = new; hops = hops }) u x next early fs os s
heard_at w l a old new hops u x engine next early fs os s first t f adds late b took =
    let k : Ledger = after_all w l s.told in
    let z : Outside = record { clock = old; hops = hops } in
    let h = b.2 in
    let c = course_on w l s first t f late h.driving.course h.stands.core.living in
    let least = c.1 in
    let more = length-append s.moments (t ∷ []) in
    record {
      moment = t;
      entries_told = at_entries w k t;
      waiting = begun_behind w l s (entries.At t) t;
      line = (decisions w (after w k (entries.At t)), no_moments (decisions w (after w k (entries.At t))) (decisions_inside w (after w k (entries.At t))), inr refl);
      plays = subst (λ xs. PlaysRun w k xs u x) (at_turn w k t (omega (arith, least))) took.plays;
      adds = subst (λ xs. AddsAllNotes w k xs u.files x.files) (at_turn w k t (omega (arith, least))) took.notes.adds;
      serving = record { under_way = at_under_way w l a z u early fs os s b.0 engine next x new t h b.1 adds least c.0 took; polled = omega arith; some = omega (arith, more) };
    }

-- its turn was given up
pub heard_part : (w : World) (l : Ledger) (a : Outside) (old new : Option (List ℕ)) (hops : HopsView) (u x : HostView) (engine : Engine) (early : List Begun) (fs : List Delivery) (os : List OpenSession) (s : Story) (first : Bool) (t : ℕ) (error : HostError)
    → IsFirst first s → AddsMoment old new t → IsNew first s t
    → (b : IsBetween w l a (record { clock = old; hops = hops }) u engine early fs os s) → HaltsRun w (after_all w l s.told) (turn w (after_all w l s.told) (IsHeardEvent (events.At t))) error u x → GivesUp w l a (record { clock = new; hops = hops }) u x error s
heard_part w l a old new hops u x engine early fs os s first t error f adds late b halts =
    let k : Ledger = after_all w l s.told in
    let h = b.2 in
    let c = course_on w l s first t f late h.driving.course h.stands.core.living in
    let least = c.1 in
    let es : List Entry = turn w k (IsHeardEvent (events.At t)) in
    let is : es ≡ at_entries w k t = at_turn w k t (omega (arith, least)) in
    let r : Story = record s { told = s.told ++ halts.done; moments = s.moments ++ t ∷ [] } in
    let parts : at_entries w k t ≡ halts.done ++ halts.rest = sym is ∙ halts.all in
    let heard : HadRoom w k (at_entries w k t) = room_at w k t h.stands.core.living least in
    let quiet : ended halts.done ≡ [] = front_replies (at_entries w k t) halts.done halts.rest parts (no_replies (decisions w (after w k (entries.At t))) (decisions_inside w (after w k (entries.At t)))) in
    let more = length-append s.moments (t ∷ []) in
    let names = ap length (at_names_turn w k t least) in
    gives_up_part w l a (record { clock = new; hops = hops }) u x error s r es (subst (λ (xs : List Entry). IsOwnRun w l (s.told ++ xs)) (sym is) c.0.run) (room_more w l s.told es h.driving.course.room (subst (HadRoom w k) (sym is) heard)) (omega (arith, names)) halts refl
    (record {
      given = given_more a.clock old new t s r refl adds h.given;
      cut = cut_turn s r early (at_entries w k t) halts.done halts.rest parts c.0.clocked refl refl refl h.driving.connected;
      room = room_more w l s.told halts.done h.driving.course.room (room_front w k halts.done halts.rest (subst (HadRoom w k) parts heard));
      records = λ now told.
          let d = h.records now told in (
            d.before,
            d.told,
            did_still d.before now s r refl refl refl refl d.did,
            cases_deliver w l d.before.connects a.hops.connect_faults hops.connect_faults fs os r
                (cases_front w l d.before.connects a.hops.connect_faults hops.connect_faults fs os s r halts.done refl refl (omega (arith, more)) quiet d.cases),
          );
    })

-- ---- refusals

same_host : (a b : HostError) → stops.Host a ≡ stops.Host b → refusal_of a ≡ refusal_of b
same_host a b h = let same : a ≡ b = cc in ap refusal_of same

pub host_fault : (why : EngineError) (error : HostError) → is_of_host why ≡ true → stop_of why ≡ stops.Host error → why ≡ refusal_of error
host_fault errors.Disk error h is = same_host faults.Disk error is
host_fault errors.Tell error h is = same_host faults.Tell error is
host_fault errors.NoMemory error h is = same_host faults.NoMemory error is
host_fault (errors.Unknown number) error h is = cc
host_fault (errors.WrongCount number want got) error h is = cc
host_fault errors.Untimed error h is = cc
host_fault (errors.Limit bound) error h is = cc
host_fault (errors.Damaged area name) error h is = cc
host_fault (errors.Unreadable area name) error h is = cc

-- a moment is never refused
pub never_refused : (engine : Engine) (error : EngineError) (t : ℕ) (w : World) (l : Ledger) → (is_of_host error || is_of_event error) ≡ true
    → (is_of_event error ≡ true → refused_event l (events.At t) ≡ Some error) → is_of_host error ≡ true
never_refused engine error t w l kinds only = on (is_of_host error) (is_of_event error) refl refl kinds
  where
    on : (b c : Bool) → is_of_host error ≡ b → is_of_event error ≡ c → (b || c) ≡ true → is_of_host error ≡ true
    on true c host event h = host
    on false true host event h = let none : None ≡ Some error = only event in cc
    on false false host event h = cc
