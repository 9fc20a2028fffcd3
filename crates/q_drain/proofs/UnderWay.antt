-- A drain under way through the calls of its sweeps.
use native.Mathlib.Omega.{arith}
use Rattle.std.proofs.Common.{◌≡◌, ◌≤◌, ◌+◌, inl, ℕ, Bool, true, false, List, [], ◌∷◌, ◌++◌, length, length-append, Option, Some, None, refl, sym, ap, ◌∙◌, subst, append_assoc}
use Rattle.std.proofs.lemmas.Bool.{le-leb}
use Rattle.std.proofs.lemmas.List.{append-nil}
use Rattle.std.specs.Prelude.{◌&&◌, ◌||◌, nat_le}
use Rattle.q_agent.specs.Sessions.{OpenSession}
use Rattle.q_drain.proofs.Moments.{begun_behind, cases_at, cases_same, drives_at, drives_later, drives_retold}
use Rattle.q_drain.proofs.Naming.{at_turn}
use Rattle.q_drain.proofs.Polling.{link_moment}
use Rattle.q_drain.proofs.Starting.{cases_nothing, drives_nothing, nothing}
use Rattle.q_drain.proofs.Turning.{at_entries, with_moment}
use Rattle.q_drain.specs.Driving.{Driving, IsOnCourse}
use Rattle.q_drain.specs.Standing.{HasGiven, IsUnderWay, Outside, counts_of}
use Rattle.q_drain.specs.Stories.{Did, Story}
use Rattle.q_drain.specs.Told.{Begun}
use Rattle.q_drain.specs.Waits.{Waits}
use Rattle.q_drain.specs.Works.{Counts, IsLinkBetween, IsLinkOf}
use Rattle.q_engine.specs.Stands.{EngineStands}
use Rattle.q_engine.specs.Steps.{TookTurn}
use Rattle.q_engine.specs.declared.engine.Engine.{Engine}
use Rattle.q_host.specs.View.{View as HostView}
use Rattle.q_laws.specs.Traces.{IsEntryOf}
use Rattle.q_link.specs.Records.{ToldHops}
use Rattle.q_link.specs.Views.{Told}
use Rattle.q_model.proofs.RunLaws.{after_all-append}
use Rattle.q_model.specs.declared.entry.Entry.{Entry}
use Rattle.q_model.specs.declared.entry.Entry.TheVariants as entries
use Rattle.q_model.specs.declared.event.Event.TheVariants as events
use Rattle.q_model.specs.declared.event.LifeEvent.TheVariants.{Heard}
use Rattle.q_model.specs.declared.rows.Delivery.{Delivery}
use Rattle.q_model.specs.Ledger.{Ledger}
use Rattle.q_model.specs.Past.{is_living, starts}
use Rattle.q_model.specs.Run.{turn}
use Rattle.q_model.specs.Settings.{World}
use Rattle.q_model.specs.Step.{after_all, allowed}
use Rattle.q_stream.specs.Clocks.{AddsMoment}

-- ---- the start

given_none : (old : Option (List ℕ)) → HasGiven old old nothing
given_none old given is = (given, is, sym (append-nil given))

pub starts_under_way : (w : World) (l : Ledger) (a : Outside) (v : HostView) (Tells : Begun → Told → Type 0) (engine : Engine) → EngineStands w engine v l
    → l.now ≡ 0 → l.flights ≡ [] → starts l ≡ 0 → IsUnderWay w l a a v Tells engine [] [] [] [] nothing
unfolding after_all
starts_under_way w l a v Tells engine stands now flights none = record {
  stands = stands;
  driving = drives_nothing w l Tells now flights none;
  given = given_none a.clock;
  records = λ told is. record {
    before = told;
    told = is;
    did = record { connects = omega arith; hops = sym (append-nil told.hops); rests = omega arith; records = sym (append-nil told.records) };
    cases = cases_nothing w l told.connects a.hops.connect_faults;
  };
}

-- ---- the clock

-- a moment more was given
pub given_more : (old c z : Option (List ℕ)) (t : ℕ) (s r : Story) → r.moments ≡ s.moments ++ t ∷ [] → AddsMoment c z t → HasGiven old c s → HasGiven old z r
given_more old c None t s r more adds h given is = cc
given_more old None (Some now) t s r more adds h given is = absurd adds
given_more old (Some was) (Some now) t s r more adds h given is =
    let before = h was refl in
    let same : now ≡ given = cc in (
      before.0,
      before.1,
      sym same ∙ adds ∙ ap (λ xs. xs ++ t ∷ []) before.2 ∙ append_assoc before.0 s.moments (t ∷ []) ∙ ap (λ xs. before.0 ++ xs) (sym more),
    )

-- the hops did nothing meanwhile
pub did_still : (before now : ToldHops) (s r : Story) → r.connects ≡ s.connects → r.hops ≡ s.hops → r.rests ≡ s.rests → r.records ≡ s.records → Did before now s → Did before now r
did_still before now s r connects hops rests records d = record {
  connects = d.connects ∙ ap (λ n. before.connects + n) (sym connects);
  hops = d.hops ∙ ap (λ xs. before.hops ++ xs) (sym hops);
  rests = d.rests ∙ ap (λ n. before.rests + n) (sym rests);
  records = d.records ∙ ap (λ xs. before.records ++ xs) (sym records);
}

-- a link tells this of the next sweep
next_link : (rests moments : ℕ) (n : Counts) (start : Begun) (t : Told) → n.rests ≡ rests → n.moments ≡ moments + 1 → n.polled ≡ 0 → 1 ≤ start.number → IsLinkBetween rests moments start t → IsLinkOf n start t
next_link rests moments n start t same more none positive h = same_counts n (record { rests = rests; moments = moments + 1; polled = 0 }) start t same more none (link_moment rests moments start t positive h)
  where
    same_counts : (n k : Counts) (start : Begun) (t : Told) → n.rests ≡ k.rests → n.moments ≡ k.moments → n.polled ≡ k.polled → IsLinkOf k start t → IsLinkOf n start t
    same_counts n k start t rests moments polled p = record {
      hop = p.hop;
      waits = subst (λ x. Waits x n.moments t.rests_before t.not_yets (nat_le start.number n.polled)) (sym rests)
          (subst (λ x. Waits k.rests x t.rests_before t.not_yets (nat_le start.number n.polled)) (sym moments)
          (subst (λ x. Waits k.rests k.moments t.rests_before t.not_yets (nat_le start.number x)) (sym polled) p.waits));
    }

-- a moment that isn't past may be told
moment_allowed : (w : World) (k : Ledger) (t : ℕ) → is_living k ≡ true → k.now ≤ t → IsEntryOf w k (entries.At t)
unfolding allowed
moment_allowed w k t living late = inl (ap (λ (b : Bool). (b || false) && nat_le k.now t) living ∙ le-leb k.now t late)

pub stands_behind : (w : World) (l : Ledger) (told es : List Entry) (engine : Engine) (x : HostView) → EngineStands w engine x (after_all w (after_all w l told) es) → EngineStands w engine x (after_all w l (told ++ es))
stands_behind w l told es engine x h = subst (EngineStands w engine x) (sym (after_all-append w l told es)) h

-- it was turned to the next moment, which is told
pub at_under_way : (w : World) (l : Ledger) (a z : Outside) (v : HostView) (early : List Begun) (fs : List Delivery) (os : List OpenSession) (s : Story) (rests : ℕ) (old new : Engine) (x : HostView) (clock : Option (List ℕ)) (t : ℕ)
    → IsUnderWay w l a z v (IsLinkBetween rests (length s.moments)) old early [] fs os s
    → rests ≡ (counts_of a s 0).rests
    → AddsMoment z.clock clock t
    → (after_all w l s.told).now ≤ t
    → IsOnCourse w l (with_moment w l s t)
    → TookTurn w (after_all w l s.told) (events.At t) new v x
    → IsUnderWay w l a (record { clock = clock; hops = z.hops }) x (IsLinkOf (counts_of a (with_moment w l s t) 0)) new early (begun_behind w l s (entries.At t) t) fs os (with_moment w l s t)
at_under_way w l a z v early fs os s rests old new x clock t h same adds late course took =
    let k : Ledger = after_all w l s.told in
    let r : Story = with_moment w l s t in
    let es : List Entry = at_entries w k t in
    let is : turn w k (Heard (events.At t)) ≡ es = at_turn w k t (omega (arith, late)) in
    let more = length-append s.moments (t ∷ []) in
    let core = h.stands.core in
    let entry : IsEntryOf w k (entries.At t) = moment_allowed w k t core.living late in
    let at : Driving w l (IsLinkBetween rests (length s.moments)) early (begun_behind w l s (entries.At t) t) fs os r = drives_at w l (IsLinkBetween rests (length s.moments)) early fs os s t h.driving course core.consistent entry in
    record {
      stands = stands_behind w l s.told es new x (subst (λ xs. EngineStands w new x (after_all w k xs)) is took.stands);
      driving = drives_retold w l (IsLinkBetween rests (length s.moments)) (IsLinkOf (counts_of a r 0)) (λ (o : OpenSession). o.number ≤ length early) early (begun_behind w l s (entries.At t) t) fs os r
          (λ o start b low number positive p. next_link rests (length s.moments) (counts_of a r 0) start b (sym same) more refl positive p) at.opened.below at;
      given = given_more a.clock z.clock clock t s r refl adds h.given;
      records = λ now told.
          let d = h.records now told in
          record { before = d.before; told = d.told; did = did_still d.before now s r refl refl refl refl d.did; cases = cases_at w l d.before.connects a.hops.connect_faults z.hops.connect_faults fs os s t d.cases };
    }

-- to one that isn't past those before it
pub same_under_way : (w : World) (l : Ledger) (a z : Outside) (v : HostView) (early : List Begun) (fs : List Delivery) (os : List OpenSession) (s : Story) (rests : ℕ) (engine : Engine) (clock : Option (List ℕ)) (t : ℕ)
    → IsUnderWay w l a z v (IsLinkBetween rests (length s.moments)) engine early [] fs os s
    → rests ≡ (counts_of a s 0).rests
    → AddsMoment z.clock clock t
    → IsOnCourse w l (record s { moments = s.moments ++ t ∷ [] })
    → IsUnderWay w l a (record { clock = clock; hops = z.hops }) v (IsLinkOf (counts_of a (record s { moments = s.moments ++ t ∷ [] }) 0)) engine early [] fs os (record s { moments = s.moments ++ t ∷ [] })
same_under_way w l a z v early fs os s rests engine clock t h same adds course =
    let r : Story = record s { moments = s.moments ++ t ∷ [] } in
    let more = length-append s.moments (t ∷ []) in
    let at : Driving w l (IsLinkBetween rests (length s.moments)) early [] fs os r = drives_later w l (IsLinkBetween rests (length s.moments)) early [] fs os s t h.driving course in
    record {
      stands = h.stands;
      driving = drives_retold w l (IsLinkBetween rests (length s.moments)) (IsLinkOf (counts_of a r 0)) (λ (o : OpenSession). o.number ≤ length early) early [] fs os r
          (λ o start b low number positive p. next_link rests (length s.moments) (counts_of a r 0) start b (sym same) more refl positive p) at.opened.below at;
      given = given_more a.clock z.clock clock t s r refl adds h.given;
      records = λ now told.
          let d = h.records now told in
          record { before = d.before; told = d.told; did = did_still d.before now s r refl refl refl refl d.did; cases = cases_same w l d.before.connects a.hops.connect_faults z.hops.connect_faults fs os s r refl refl (omega (arith, more)) d.cases };
    }
