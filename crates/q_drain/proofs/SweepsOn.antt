-- A drain through its sweeps.
use native.Mathlib.Omega.{arith}
use Rattle.std.proofs.Common.{◌≡◌, ◌≢◌, ◌≤◌, ◌<◌, ◌+◌, ℕ, Bool, true, false, List, [], ◌∷◌, ◌++◌, length, Option, refl, sym, ap, ◌∙◌, subst, append-nil}
use Rattle.std.specs.List.{AllByRecursion}
use Rattle.q_agent.specs.Rests.{RestsOne}
use Rattle.q_agent.specs.Sessions.{OpenSession, Sessions}
use Rattle.q_books.specs.HostStands.{Takes, TellsCrashes}
use Rattle.q_drain.proofs.GivingUp.{gives_up_later, gives_up_looking}
use Rattle.q_drain.proofs.NextPolls.{adds_between, more_done, more_ended}
use Rattle.q_drain.proofs.Ending.{all_begun}
use Rattle.q_drain.proofs.PollingAll.{served_then}
use Rattle.q_drain.proofs.Serving.{rest_under_way, swept_under_way}
use Rattle.q_drain.proofs.Waiting.{done, sweeps_busy, sweeps_moment, sweeps_more, sweeps_rest}
use Rattle.q_drain.proofs.WaitingSweeps.{line_on, no_more_moments}
use Rattle.q_drain.specs.GivenUp.{GivesUp}
use Rattle.q_drain.specs.Heard.{Heard, HearsClock}
use Rattle.q_drain.specs.Opened.{FailsToOpenAll, Looks, MayOpenAll, OpensAll}
use Rattle.q_drain.specs.Progress.{OpensUpTo}
use Rattle.q_drain.specs.Served.{ServedOn}
use Rattle.q_drain.specs.Standing.{Outside, counts_of}
use Rattle.q_drain.specs.Stories.{Story}
use Rattle.q_drain.specs.Told.{ended}
use Rattle.q_drain.specs.Swept.{IdlesOn, StandsBetween, SweptOn}
use Rattle.q_drain.specs.Waits.{Sweeps, idle}
use Rattle.q_drain.specs.declared.poll.Served.{Served}
use Rattle.q_engine.specs.declared.engine.Engine.{Engine}
use Rattle.q_entries.proofs.Playing.{plays_reads}
use Rattle.q_host.specs.View.{View as HostView}
use Rattle.q_host.specs.declared.error.HostError.{HostError}
use Rattle.q_link.specs.Records.{AddsHops, HopsView, with_rest}
use Rattle.q_model.proofs.RunLaws.{after_all-append}
use Rattle.q_model.specs.declared.entry.Entry.{Entry}
use Rattle.q_model.specs.Ledger.{Ledger}
use Rattle.q_model.specs.Settings.{World}
use Rattle.q_model.specs.Step.{after_all}

-- ---- the clock, and the sessions that it opens

-- a delivery began, or none did
sweeps_opened : (busy : Bool) (s k : Story) → Sweeps 1 s → k.moments ≡ s.moments → k.rests ≡ s.rests → done s ≤ done k → (busy ≡ true → done s + 1 ≤ done k) → Sweeps (idle busy) k
sweeps_opened true s k p moments rests more one = sweeps_busy s k p moments rests (one refl)
sweeps_opened false s k p moments rests more one = sweeps_more 1 s k p moments rests more

module _ (w : World) (l : Ledger) (a : Outside) (old new : Option (List ℕ)) (u v : HostView) (hops : HopsView) (engine next : Engine) (os : List OpenSession) (known : ℕ) (first : Bool) (s : Story)
    (b : StandsBetween w l a (record { clock = old; hops = hops }) u engine os known first s) (hears : HearsClock first u v old new engine next) where
  abbrev k : Ledger
  k = after_all w l s.told

  heard : Heard w l a (record { clock = new; hops = hops }) u v next b.early b.flights os s
  heard = hears w l a hops b.early b.flights os s b.begins b.between

  abbrev es : List Entry
  es = heard.entries_told

  abbrev story : Story
  story = record s { told = s.told ++ es; moments = s.moments ++ heard.moment ∷ [] }

  pub may_open : MayOpenAll new v hops next (record { listed = os; polled = 0 }) known
  may_open = record { world = w; ledger = l; first = a; early = b.early; waiting = heard.waiting; flights = b.flights; story = story; serving = heard.serving; known_is = b.known_is }

  looks_on : (x : HostView) → Looks w l story v x → Takes (after_all w k es).book (after_all w k es).book v x
  looks_on x looks = subst (λ (m : Ledger). Takes m.book m.book v x) (after_all-append w l s.told es) looks.takes

  -- the sessions of all deliveries that began are open
  -- where no session is open in the end, no delivery began
  pub none_heard : (x : HostView) (after_hops : HopsView) (sessions : Sessions) (opened : ℕ) → OpensAll next v x hops after_hops (record { listed = os; polled = 0 }) sessions known opened → sessions.listed ≡ [] → opened ≤ known
  none_heard x after_hops sessions opened opens none =
      let g = opens w l a new b.early heard.waiting b.flights story b.known_is heard.serving in
      let before = heard.serving.under_way.driving.opened.counted in
      let behind = (g.0).serving.under_way.driving.opened.counted in
      let told = ap (λ (xs : List Entry). length (ended xs)) (g.0).told in
      let last = g.2 in
      let known_is = b.known_is in
      let left = ap length none in
      omega (arith, before, behind, told, last, known_is, left)

  pub served_heard : (x : HostView) (after_hops : HopsView) (sessions : Sessions) (opened : ℕ) (busy : Bool) → (busy ≡ true → known < opened)
      → OpensAll next v x hops after_hops (record { listed = os; polled = 0 }) sessions known opened
      → SweptOn w l a (record { clock = new; hops = after_hops }) u x (record { engine = next; known = opened; busy = busy }) sessions s
  served_heard x after_hops sessions opened busy more opens =
      let g = opens w l a new b.early heard.waiting b.flights story b.known_is heard.serving in
      let base : Story = record s { moments = s.moments ++ heard.moment ∷ [] } in
      let grown = more_done base (g.0).story es (length (ended es)) (g.0).told refl in
      let before = all_begun s b.early [] (b.between.2).driving.connected in
      let behind = all_begun (g.0).story (b.early ++ heard.waiting) [] (g.0).serving.under_way.driving.connected in
      let known_is = b.known_is in
      let last = g.2 in
      let ends = more_ended base (g.0).story es (g.0).told in
      record {
        moment = heard.moment;
        served = record {
          entries_told = es;
          early = b.early ++ heard.waiting;
          flights = (g.0).flights;
          story = (g.0).story;
          told = (g.0).told;
          moments = (g.0).moments;
          rests = (g.0).rests;
          plays = plays_reads w k es u v x heard.plays (looks_on x g.1);
          adds = adds_between w k es u u v x refl heard.adds (g.1).files;
          known_is = sym last;
          sweeps = sweeps_opened busy base (g.0).story (sweeps_moment s heard.moment b.sweeps_made) (g.0).moments (g.0).rests (omega (arith, grown))
              (λ is. let some = more is in omega (arith, some, before, behind, known_is, last, ends));
          serving = (g.0).serving;
        };
        line = heard.line;
      }

  -- or one isn't
  pub opening_given_up : (x : HostView) (after_hops : HopsView) (error : HostError) → TellsCrashes v → FailsToOpenAll next v x hops after_hops (record { listed = os; polled = 0 }) known
      → GivesUp w l a (record { clock = new; hops = after_hops }) u x error s
  opening_given_up x after_hops error lawful fails =
      let g = fails w l a new b.early heard.waiting b.flights story b.known_is heard.serving in
      gives_up_later w l a (record { clock = new; hops = after_hops }) u v x error s story es refl heard.plays
      (gives_up_looking w l a (record { clock = new; hops = after_hops }) v x error story g.0 heard.serving.under_way.driving.course.run lawful heard.serving.under_way.stands.host (g.3).takes g.1 g.2)

-- ---- behind a sweep

some_moments : (ts : List ℕ) → 1 ≤ length ts → ts ≢ []
some_moments [] h = absurd (omega (arith, h))
some_moments (t ∷ ts) h = λ none. cc

-- it did something, and the next one follows at once
pub between_busy : (w : World) (l : Ledger) (a z : Outside) (u v : HostView) (served : Served) (agent : Sessions) (ms : List ℕ) (s : Story) → (m : ServedOn w l a z u v served agent ms s) → served.busy ≡ true
    → StandsBetween w l a z v served.engine agent.listed served.known false m.story
between_busy w l a z u v served agent ms s m busy = record {
  early = m.early;
  flights = m.flights;
  begins = some_moments m.story.moments m.serving.some;
  known_is = m.known_is;
  sweeps_made = subst (λ (b : Bool). Sweeps (idle b) m.story) busy m.sweeps;
  between = (
    (counts_of a m.story 0).rests,
    refl,
    swept_under_way w l a z v served.engine m.early [] m.flights agent.listed m.story agent.polled m.serving.under_way,
  );
}

-- it did nothing, and a rest follows it
pub between_rest : (w : World) (l : Ledger) (a : Outside) (clock : Option (List ℕ)) (u v : HostView) (hops rested : HopsView) (served : Served) (agent new : Sessions) (ms : List ℕ) (s : Story)
    → (m : ServedOn w l a (record { clock = clock; hops = hops }) u v served agent ms s) → served.busy ≡ false
    → AllByRecursion (λ (o : OpenSession). o.number ≤ agent.polled) agent.listed → RestsOne agent new → AddsHops with_rest hops rested → rested.connect_faults ≡ hops.connect_faults
    → StandsBetween w l a (record { clock = clock; hops = rested }) v served.engine new.listed served.known false (record m.story { rests = m.story.rests + 1 })
between_rest w l a clock u v hops rested served agent new ms s m busy over rests adds faults =
    let z : Outside = record { clock = clock; hops = hops } in
    record {
      early = m.early;
      flights = m.flights;
      begins = some_moments m.story.moments m.serving.some;
      known_is = m.known_is;
      sweeps_made = sweeps_rest m.story (subst (λ (b : Bool). Sweeps (idle b) m.story) busy m.sweeps);
      between = (
        (counts_of a m.story 0).rests + 1,
        omega arith,
        rest_under_way w l a z v served.engine m.early [] m.flights agent new m.story agent.polled rested m.serving.under_way over rests adds faults,
      );
    }

-- ---- a sweep without a session

no_sessions : (s : Sessions) → s.listed ≡ [] → s.polled ≡ 0 → s ≡ record { listed = []; polled = 0 }
no_sessions s none start = ap (λ (os : List OpenSession). record { listed = os; polled = s.polled }) none ∙ ap (λ (n : ℕ). record { listed = []; polled = n }) start

-- none was opened, and none was open before
none_open : (known opened : ℕ) (os : List OpenSession) (agent : Sessions) → agent.listed ≡ [] → known ≤ opened → opened ≤ known → OpensUpTo known opened (record { listed = os; polled = 0 }) agent → (opened ≡ known) × (os ≡ [])
none_open known opened [] agent none rises few opens = (omega (arith, few, rises), refl)
none_open known opened (o ∷ os) agent none rises few opens =
    let left = ap length none in
    let kept = opens.kept in
    absurd (omega (arith, left, kept))

pub idles_on : (w : World) (l : Ledger) (a z : Outside) (u v : HostView) (engine : Engine) (known opened : ℕ) (os : List OpenSession) (agent : Sessions) (s : Story) → agent.listed ≡ [] → agent.polled ≡ 0 → known ≤ opened → opened ≤ known → OpensUpTo known opened (record { listed = os; polled = 0 }) agent
    → SweptOn w l a z u v (record { engine = engine; known = opened; busy = false }) agent s → IdlesOn w l a z u v engine os known s
idles_on w l a z u v engine known opened os agent s none start rises few opens m =
    let none_was = none_open known opened os agent none rises few opens in (
      none_was.1,
      subst (λ n. SweptOn w l a z u v (record { engine = engine; known = n; busy = false }) (record { listed = []; polled = 0 }) s) none_was.0
          (subst (λ (n : Sessions). SweptOn w l a z u v (record { engine = engine; known = opened; busy = false }) n s) (no_sessions agent none start) m),
    )

-- ---- a sweep as a whole

-- polls behind others
module _ (w : World) (l : Ledger) (a z y : Outside) (u v x : HostView) (served : Served) (agent : Sessions) (s : Story) (m : SweptOn w l a z u v served agent s) where
  pub swept_then : (next : Served) (new : Sessions) → ServedOn w l a y v x next new [] m.served.story → SweptOn w l a y u x next new s
  swept_then next new n = record {
    moment = m.moment;
    served = served_then w l a z y u v x served agent (m.moment ∷ []) s m.served next new n;
    line = line_on m.moment m.served.entries_told n.entries_told m.line
        (no_more_moments m.served.story n.story n.entries_told m.served.serving.under_way.driving.course.clocked n.serving.under_way.driving.course.clocked n.told (n.moments ∙ append-nil m.served.story.moments));
  }
