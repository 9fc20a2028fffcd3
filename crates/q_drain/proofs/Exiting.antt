-- How a drain ends, by what was told and done so far.
use native.Mathlib.Omega.{arith}
use Rattle.std.proofs.Common.{◌≡◌, ◌≢◌, ◌≤◌, ◌+◌, ℕ, Bool, false, true, List, [], ◌∷◌, ◌++◌, length, map, not, Option, Some, None, refl, sym, ap, ◌∙◌, subst, append-nil}
use Rattle.std.proofs.lemmas.Bool.{ltb-false}
use Rattle.std.proofs.lemmas.Option.{same_Some}
use Rattle.std.specs.List.{AllByRecursion, list_any}
use Rattle.std.specs.Prelude.{◌||◌, Err, nat_lt}
use Rattle.q_agent.specs.Sessions.{OpenSession, Sessions, is_sweep_over}
use Rattle.q_books.specs.HostStands.{TellsCrashes}
use Rattle.q_drain.proofs.Ending.{cases_deliver, drives_cut, drives_quiet, drives_whole}
use Rattle.q_drain.proofs.GivingUp.{gives_up_looking, halts_after}
use Rattle.q_drain.proofs.Pairing.{pairs_some}
use Rattle.q_drain.proofs.NextPolls.{adds_looked}
use Rattle.q_drain.proofs.Polls.{order_same}
use Rattle.q_drain.proofs.Starting.{nothing}
use Rattle.q_drain.proofs.SweepsOn.{between_busy, between_rest}
use Rattle.q_drain.proofs.UnderWay.{starts_under_way}
use Rattle.q_drain.proofs.WaitingSweeps.{silent_less, silent_same, sweeps_none, sweeps_one_more, waited_more, waited_same}
use Rattle.q_drain.specs.Drained.{CountsRests, DrainEnds, RestsBehind}
use Rattle.q_drain.specs.Exits.{EndsEarly, EndsFull, EndsQuiet, EndsUnfinished, EndsWhole, IsAtStart}
use Rattle.q_drain.specs.GivenUp.{GivesUp}
use Rattle.q_drain.specs.Polling.{AreInOrder, KeepsSame}
use Rattle.q_drain.specs.Progress.{LeavesLess, work_left}
use Rattle.q_drain.specs.Served.{FilledUp}
use Rattle.q_drain.specs.Standing.{Outside, counts_of}
use Rattle.q_drain.specs.Stories.{Story}
use Rattle.q_drain.specs.Swept.{IdlesOn, Outsides, StandsBetween, SweptOn}
use Rattle.q_drain.specs.Told.{Begun}
use Rattle.q_drain.specs.Waited.{AreSweeps, MadeSweep, is_silent, waiting_sweeps}
use Rattle.q_drain.specs.Waits.{Sweeps, idle}
use Rattle.q_drain.specs.Works.{IsLinkBetween, IsLinkOf, IsSessionOf}
use Rattle.q_drain.specs.declared.poll.Served.{Served}
use Rattle.q_drain.proofs.Noting.{adds_then}
use Rattle.q_engine.specs.KeptNotes.{AddsAllNotes}
use Rattle.q_engine.specs.Refusals.{refusal_of}
use Rattle.q_engine.specs.Stops.{stopped_by}
use Rattle.q_engine.specs.Stands.{EngineStands}
use Rattle.q_engine.specs.declared.engine.Engine.{Engine}
use Rattle.q_engine.specs.declared.stop.Stop.{Stop}
use Rattle.q_engine.specs.declared.stop.Stop.TheVariants as stops
use Rattle.q_entries.proofs.Playing.{plays_none, plays_then, reads_none}
use Rattle.q_entries.specs.Runs.{PlaysRun}
use Rattle.q_host.specs.View.{View as HostView}
use Rattle.q_host.specs.declared.error.HostError.{HostError}
use Rattle.q_host.specs.declared.error.HostError.TheVariants as faults
use Rattle.q_link.specs.Records.{HopsView}
use Rattle.q_link.specs.Views.{Told}
use Rattle.q_model.specs.declared.entry.Entry.{Entry}
use Rattle.q_model.specs.declared.spot.Area.{Area}
use Rattle.q_model.specs.Ledger.{Ledger}
use Rattle.q_model.specs.Settings.{World}
use Rattle.q_model.specs.Step.{after_all}

-- Between two sweeps of a call that began on the first host and outside: what it told and did.
pub record DrainsSo (w : World) (l : Ledger) (a z : Outside) (u v : HostView) (engine : Engine) (os : List OpenSession) (known : ℕ) (first : Bool) (given : ℕ) : Type 0 where
  pub story : Story
  pub between : StandsBetween w l a z v engine os known first story
  pub plays : PlaysRun w l story.told u v
  pub adds : AddsAllNotes w l story.told u.files v.files
  pub rests_given : story.rests ≡ given
  pub made : List MadeSweep
  pub are : AreSweeps story made
  pub waited : waiting_sweeps w l made ≡ given

-- at first
pub drains_first : (w : World) (l : Ledger) (a : Outside) (u : HostView) (engine : Engine) → TellsCrashes u → EngineStands w engine u l → IsAtStart l → DrainsSo w l a a u u engine [] 0 true 0
drains_first w l a u engine lawful stands start = record {
  story = nothing;
  between = record {
    early = [];
    flights = [];
    begins = (refl, refl);
    known_is = refl;
    sweeps_made = record { least = omega arith; most = omega arith };
    between = (
      (counts_of a nothing 0).rests,
      refl,
      starts_under_way w l a u (IsLinkBetween (counts_of a nothing 0).rests 0) engine stands start.now start.flights start.starts,
    );
  };
  plays = plays_none w l u lawful stands.host;
  adds = adds_looked w l u u refl;
  rests_given = refl;
  made = [];
  are = sweeps_none nothing refl refl;
  waited = refl;
}

module _ (w : World) (l : Ledger) (a z y : Outside) (u v x : HostView) (engine : Engine) (os : List OpenSession) (known : ℕ) (first : Bool) (given : ℕ) (d : DrainsSo w l a z u v engine os known first given) where
  plays_more : (es : List Entry) (story : Story) → story.told ≡ (d.story).told ++ es → PlaysRun w (after_all w l (d.story).told) es v x → PlaysRun w l story.told u x
  plays_more es story told p = subst (λ (xs : List Entry). PlaysRun w l xs u x) (sym told) (plays_then w l (d.story).told es u v x d.plays p)

  adds_more : (es : List Entry) (story : Story) → story.told ≡ (d.story).told ++ es → AddsAllNotes w (after_all w l (d.story).told) es v.files x.files → AddsAllNotes w l story.told u.files x.files
  adds_more es story told p = subst (λ (xs : List Entry). AddsAllNotes w l xs u.files x.files) (sym told) (adds_then w l (d.story).told es u.files v.files x.files d.adds p)

  module _ (served : Served) (agent : Sessions) (m : SweptOn w l a y v x served agent d.story) where
    abbrev sweep : MadeSweep
    sweep = record { moment = m.moment; told = m.served.entries_told }

    abbrev Was : Begun → Told → Type 0
    Was = IsLinkBetween d.between.between.0 (length d.story.moments)

    abbrev Tells : Begun → Told → Type 0
    Tells = IsLinkOf (counts_of a m.served.story agent.polled)

    pub sweep_plays : PlaysRun w l (m.served.story).told u x
    sweep_plays = plays_more m.served.entries_told m.served.story m.served.told m.served.plays

    pub sweep_adds : AddsAllNotes w l (m.served.story).told u.files x.files
    sweep_adds = adds_more m.served.entries_told m.served.story m.served.told m.served.adds

    pub sweep_rests : (m.served.story).rests ≡ given
    sweep_rests = m.served.rests ∙ d.rests_given

    pub sweeps_are : AreSweeps m.served.story (d.made ++ sweep ∷ [])
    sweeps_are = sweeps_one_more d.story m.served.story d.made sweep d.are m.line m.served.told m.served.moments

    -- none was opened, and as many are open
    silent : served.busy ≡ false → KeepsSame false served.busy known served.known (record { listed = os; polled = 0 }) agent → is_silent m.served.entries_told ≡ true
    silent busy keeps =
        let (still, on, stays) = keeps busy in
        let known_is = d.between.known_is in
        let is = m.served.known_is in
        silent_same w l Was Tells d.between.early m.served.early d.between.flights m.served.flights os agent.listed d.story m.served.story m.served.entries_told m.served.told (d.between.between.2).driving m.served.serving.under_way.driving
        (omega (arith, known_is, is, on)) stays

    -- one was, or one is over
    loud : LeavesLess false true (work_left known (record { listed = os; polled = 0 })) (work_left served.known agent) → is_silent m.served.entries_told ≡ false
    loud less =
        let known_is = d.between.known_is in
        let is = m.served.known_is in
        silent_less w l Was Tells d.between.early m.served.early d.between.flights m.served.flights os agent.listed d.story m.served.story m.served.entries_told m.served.told (d.between.between.2).driving m.served.serving.under_way.driving
        (omega (arith, known_is, is, less))

    -- the delivery of an open session is in flight
    sweep_flies : agent.listed ≢ [] → (after_all w l (m.served.story).told).flights ≢ []
    sweep_flies some =
        let o = (m.served.serving).under_way.driving.opened in
        λ none. pairs_some (IsSessionOf (after_all w l (m.served.story).told).book (m.served.story).told Tells) m.served.flights agent.listed o.sessions some
        (sym (append-nil m.served.flights) ∙ sym o.flights ∙ none)

    pub waited_on : served.busy ≡ false → agent.listed ≢ [] → KeepsSame false served.busy known served.known (record { listed = os; polled = 0 }) agent → waiting_sweeps w l (d.made ++ sweep ∷ []) ≡ given + 1
    waited_on busy some keeps =
        let more = waited_more w l d.story m.served.story d.made sweep d.are m.served.told (silent busy keeps) (sweep_flies some) in
        let before = d.waited in
        omega (arith, more, before)

    pub waited_still : LeavesLess false true (work_left known (record { listed = os; polled = 0 })) (work_left served.known agent) → waiting_sweeps w l (d.made ++ sweep ∷ []) ≡ given
    waited_still less = waited_same w l d.story m.served.story d.made sweep d.are m.served.told (loud less) ∙ d.waited

    -- behind a sweep in which no delivery began or ended
    abbrev ends_whole : served.busy ≡ false → KeepsSame false served.busy known served.known (record { listed = os; polled = 0 }) agent → EndsWhole w l (record { before = a; behind = y }) u x
    ends_whole busy keeps = record {
      story = m.served.story;
      plays = sweep_plays;
      adds = sweep_adds;
      whole = drives_whole w l Tells m.served.early m.served.flights agent.listed m.served.story (m.served.serving).under_way.driving (subst (λ (b : Bool). Sweeps (idle b) m.served.story) busy m.served.sweeps)
          (record { earlier = d.made; last = sweep; are = sweeps_are; rests = sweep_rests ∙ sym d.waited; silent = silent busy keeps });
      given = (m.served.serving).under_way.given;
      delivered = λ now told.
          let r = (m.served.serving).under_way.records now told in
          (r.before, r.told, r.did, cases_deliver w l r.before.connects a.hops.connect_faults y.hops.connect_faults m.served.flights agent.listed m.served.story r.cases);
    }

    -- the rests are given
    pub ends_unfinished : served.busy ≡ false → agent.listed ≢ [] → KeepsSame false served.busy known served.known (record { listed = os; polled = 0 }) agent → EndsUnfinished w l (record { before = a; behind = y }) u x given
    ends_unfinished busy some keeps = record {
      ends = ends_whole busy keeps;
      flies = sweep_flies some;
      rests_given = sweep_rests;
      waited = waited_on busy some keeps;
    }

  -- no session was open
  pub ends_quiet : (next : Engine) → IdlesOn w l a y v x next os known d.story → EndsQuiet w l (record { before = a; behind = y }) u x next
  ends_quiet next h =
      let served : Served = record { engine = next; known = known; busy = false } in
      let m : SweptOn w l a y v x served (record { listed = []; polled = 0 }) d.story = h.1 in
      record {
        ends = ends_whole served (record { listed = []; polled = 0 }) m refl (λ idle. (refl, refl, sym (ap length h.0)));
        quiet = drives_quiet w l (IsLinkOf (counts_of a m.served.story 0)) m.served.early m.served.flights m.served.story (m.served.serving).under_way.driving;
        stands = (m.served.serving).under_way.stands;
      }

  -- no number is left
  pub ends_full : FilledUp w l a y v x d.story → EndsFull w l (record { before = a; behind = y }) u x
  ends_full f = record {
    story = f.story;
    plays = plays_more f.entries_told f.story f.told f.plays;
    own = f.own;
    full = f.full;
    clocked = f.clocked;
    connected = f.connected;
    gave_up = f.gave_up;
  }

  -- it was given up
  pub ends_early : (error : HostError) → GivesUp w l a y v x error d.story → EndsEarly w l (record { before = a; behind = y }) u x error
  ends_early error g =
      let h = halts_after w l (d.story).told g.entries_due ((d.story).told ++ g.entries_due) (after_all w l (d.story).told) error u v x refl refl d.plays g.halts in
      record {
        heard = g.heard;
        entries_due = (d.story).told ++ g.entries_due;
        due = g.due;
        fits = g.fits;
        halts = h.0;
        story = g.story;
        told = g.told ∙ sym h.1;
        others = g.others;
        few = g.few;
        names = g.names;
        gave_up = g.gave_up;
      }

-- ---- the next sweep

-- each session was polled
sweep_over_low : (s : Sessions) → is_sweep_over s ≡ true → AllByRecursion (λ (o : OpenSession). o.number ≤ s.polled) s.listed
sweep_over_low s over = on s.listed (not_true (list_any (λ (o : OpenSession). nat_lt s.polled o.number) s.listed) over)
  where
    not_true : (b : Bool) → not b ≡ true → b ≡ false
    not_true true h = cc
    not_true false h = refl

    first : (b c : Bool) → (b || c) ≡ false → (b ≡ false) × (c ≡ false)
    first true c h = cc
    first false c h = (refl, h)

    on : (os : List OpenSession) → list_any (λ (o : OpenSession). nat_lt s.polled o.number) os ≡ false → AllByRecursion (λ (o : OpenSession). o.number ≤ s.polled) os
    on [] none = tt
    on (o ∷ os) none =
        let both = first (nat_lt s.polled o.number) (list_any (λ (p : OpenSession). nat_lt s.polled p.number) os) none in
        (ltb-false s.polled o.number both.0, on os both.1)

pub drains_more : (w : World) (l : Ledger) (a z : Outside) (clock : Option (List ℕ)) (u v x : HostView) (hops rested : HopsView) (engine : Engine) (os : List OpenSession) (known : ℕ) (first : Bool) (given rests more : ℕ) (served : Served) (agent new : Sessions) (b : Bool)
    → (d : DrainsSo w l a z u v engine os known first given) → (m : SweptOn w l a (record { clock = clock; hops = hops }) v x served agent d.story)
    → is_sweep_over agent ≡ true → (served.busy ≡ false → agent.listed ≢ []) → KeepsSame false served.busy known served.known (record { listed = os; polled = 0 }) agent
    → LeavesLess false served.busy (work_left known (record { listed = os; polled = 0 })) (work_left served.known agent) → served.busy ≡ b → RestsBehind b given rests agent new hops rested (Some more)
    → DrainsSo w l a (record { clock = clock; hops = rested }) u x served.engine new.listed served.known false more
drains_more w l a z clock u v x hops rested engine os known first given rests more served agent new true d m over some keeps less busy h =
    let y : Outside = record { clock = clock; hops = hops } in
    let still : DrainsSo w l a y u x served.engine agent.listed served.known false given = record {
      story = m.served.story;
      between = between_busy w l a y v x served agent (m.moment ∷ []) d.story m.served busy;
      plays = sweep_plays w l a z y u v x engine os known first given d served agent m;
      adds = sweep_adds w l a z y u v x engine os known first given d served agent m;
      rests_given = sweep_rests w l a z y u v x engine os known first given d served agent m;
      made = d.made ++ sweep w l a z y u v x engine os known first given d served agent m ∷ [];
      are = sweeps_are w l a z y u v x engine os known first given d served agent m;
      waited = waited_still w l a z y u v x engine os known first given d served agent m
          (subst (λ (b : Bool). LeavesLess false b (work_left known (record { listed = os; polled = 0 })) (work_left served.known agent)) busy less);
    } in
    subst (λ (n : ℕ). DrainsSo w l a (record { clock = clock; hops = rested }) u x served.engine new.listed served.known false n) (sym (same_Some more given h.0))
    (subst (λ (n : HopsView). DrainsSo w l a (record { clock = clock; hops = n }) u x served.engine new.listed served.known false given) (sym h.2)
    (subst (λ (n : Sessions). DrainsSo w l a y u x served.engine n.listed served.known false given) (sym h.1) still))
drains_more w l a z clock u v x hops rested engine os known first given rests more served agent new false d m over some keeps less busy h =
    let y : Outside = record { clock = clock; hops = hops } in
    let rests_given = sweep_rests w l a z y u v x engine os known first given d served agent m in
    let are = sweeps_are w l a z y u v x engine os known first given d served agent m in
    let one = h.0 in
    record {
      story = record m.served.story { rests = (m.served.story).rests + 1 };
      between = between_rest w l a clock v x hops rested served agent new (m.moment ∷ []) d.story m.served busy (sweep_over_low agent over) h.2 h.3.0 (ap (λ (n : HopsView). n.connect_faults) h.3.1);
      plays = sweep_plays w l a z y u v x engine os known first given d served agent m;
      adds = sweep_adds w l a z y u v x engine os known first given d served agent m;
      rests_given = omega (arith, rests_given, one);
      made = d.made ++ sweep w l a z y u v x engine os known first given d served agent m ∷ [];
      are = record { told = are.told; moments = are.moments; each = are.each };
      waited = waited_on w l a z y u v x engine os known first given d served agent m busy (some busy) keeps ∙ sym one;
    }

-- the sessions stay in order
rested_numbers : (before behind : List OpenSession) (o p : OpenSession) → p.number ≡ o.number → map (λ (x : OpenSession). x.number) (before ++ p ∷ behind) ≡ map (λ (x : OpenSession). x.number) (before ++ o ∷ behind)
rested_numbers [] behind o p same = ap (λ n. n ∷ map (λ (x : OpenSession). x.number) behind) same
rested_numbers (x ∷ before) behind o p same = ap (λ ns. x.number ∷ ns) (rested_numbers before behind o p same)

pub order_behind : (b : Bool) (given rests more number : ℕ) (agent new : Sessions) (hops rested : HopsView) → AreInOrder agent.listed number → RestsBehind b given rests agent new hops rested (Some more) → AreInOrder new.listed number
order_behind true given rests more number agent new hops rested order h = subst (λ (n : Sessions). AreInOrder n.listed number) (sym h.1) order
order_behind false given rests more number agent new hops rested order h =
    let r = h.2 in
    let same : (r.rested).number ≡ (r.waited).number = ap (λ (o : OpenSession). o.number) (r.session).rest in
    order_same agent.listed new.listed number
    (ap (λ (n : Sessions). map (λ (x : OpenSession). x.number) n.listed) r.rest ∙ rested_numbers r.before r.behind r.waited r.rested same ∙ ap (map (λ (x : OpenSession). x.number)) (sym r.sessions)) order

-- and the rests are counted
pub counted_behind : (b : Bool) (given rests more : ℕ) (agent new : Sessions) (first hops rested : HopsView) → CountsRests first hops given → RestsBehind b given rests agent new hops rested (Some more) → CountsRests first rested more
counted_behind true given rests more agent new first hops rested is h =
    let same = same_Some more given h.0 in
    let kept = ap (λ (n : HopsView). n.rests) h.2 in
    omega (arith, same, kept, is)
counted_behind false given rests more agent new first hops rested is h =
    let one = h.0 in
    let rose = ap (λ (n : HopsView). n.rests) h.3.1 in
    omega (arith, one, rose, is)

pub given_behind : (b : Bool) (given rests more : ℕ) (agent new : Sessions) (hops rested : HopsView) → given ≤ rests → RestsBehind b given rests agent new hops rested (Some more) → more ≤ rests
given_behind true given rests more agent new hops rested few h = let same = same_Some more given h.0 in omega (arith, few, same)
given_behind false given rests more agent new hops rested few h = h.1

-- where no rest follows, the sweep did nothing, and all rests were given
pub none_behind : (b : Bool) (given rests : ℕ) (agent new : Sessions) (hops rested : HopsView) → RestsBehind b given rests agent new hops rested None → (b ≡ false) × (given ≡ rests) × (new ≡ agent) × (rested ≡ hops)
none_behind true given rests agent new hops rested h = cc
none_behind false given rests agent new hops rested h = (refl, h.0, h.1, h.2)

-- no sweep more is made
pub stops_between : (w : World) (l : Ledger) (a z : Outside) (u v : HostView) (engine : Engine) (os : List OpenSession) (known : ℕ) (first : Bool) (given : ℕ) (error : HostError) → TellsCrashes v → DrainsSo w l a z u v engine os known first given → EndsEarly w l (record { before = a; behind = z }) u v error
stops_between w l a z u v engine os known first given error lawful d =
    let b = (d.between).between.2 in
    let s = d.story in
    ends_early w l a z z u v v engine os known first given d error
    (gives_up_looking w l a z v v error s s b.driving.course.run lawful b.stands.host (reads_none (after_all w l s.told).book v lawful b.stands.host) refl
    (record {
      given = b.given;
      cut = drives_cut w l (IsLinkBetween (d.between).between.0 (length s.moments)) (d.between).early [] (d.between).flights os s b.driving;
      room = b.driving.course.room;
      records = λ now told. let r = b.records now told in (r.before, r.told, r.did, cases_deliver w l r.before.connects a.hops.connect_faults z.hops.connect_faults (d.between).flights os s r.cases);
    }))

-- ---- the answer

pub early_as : (w : World) (l : Ledger) (o : Outsides) (u v : HostView) (error : HostError) → EndsEarly w l o u v error → DrainEnds w l o u v (Err (refusal_of error))
early_as w l o u v faults.Disk e = e
early_as w l o u v faults.Tell e = e
early_as w l o u v faults.NoMemory e = e

-- where the host tells, what stopped it is of the host
pub stopped_as : (w : World) (l : Ledger) (o : Outsides) (u v : HostView) (stop : Stop) → ((error : HostError) → stop ≡ stops.Host error → EndsEarly w l o u v error) → ((area : Area) → (name : List ℕ) → stop ≡ stops.Unreadable area name → ⊥) → DrainEnds w l o u v (Err (stopped_by stop))
stopped_as w l o u v (stops.Host error) early none = early_as w l o u v error (early error refl)
stopped_as w l o u v (stops.Unreadable area name) early none = absurd (none area name refl)
