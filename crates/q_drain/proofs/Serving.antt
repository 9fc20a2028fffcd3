-- A drain under way through the calls of its agent.
use native.Mathlib.Omega.{arith}
use Rattle.std.proofs.Common.{◌≡◌, ◌≤◌, ◌+◌, inl, ℕ, true, List, [], ◌∷◌, ◌++◌, find, length, map, Option, Some, refl, sym, ap, ◌∙◌, subst, append_assoc}
use Rattle.std.proofs.lemmas.Bool.{le-leb, lt-leb}
use Rattle.std.specs.List.{AllByRecursion}
use Rattle.std.specs.Option.{option_map_or}
use Rattle.std.specs.Prelude.{nat_le, nat_lt}
use Rattle.q_agent.specs.Requests.{Opens, active_spot}
use Rattle.q_agent.specs.Rests.{RestsOne}
use Rattle.q_agent.specs.Sessions.{OpenSession, Sessions, inserted, replaced}
use Rattle.q_agent.specs.NextPoll.{IsWorking}
use Rattle.q_books.proofs.Joining.{reads_keep}
use Rattle.q_books.specs.HostStands.{TellsCrashes}
use Rattle.q_drain.proofs.InFlight.{flight_message}
use Rattle.q_drain.proofs.Connecting.{IsReadyFor, opened_session}
use Rattle.q_drain.proofs.Moments.{drives_retold}
use Rattle.q_drain.proofs.Polling.{link_between, link_rest}
use Rattle.q_drain.proofs.Sessions.{cases_polled, cases_request, cases_rest, cut_rose, drives_polled, drives_request, drives_rest}
use Rattle.q_drain.proofs.Starting.{has_file}
use Rattle.q_drain.specs.Driving.{Driving, HasCases}
use Rattle.q_drain.specs.Flights.{flight}
use Rattle.q_drain.specs.Standing.{IsUnderWay, Outside, Records, counts_of}
use Rattle.q_drain.specs.Stories.{Story, with_request}
use Rattle.q_drain.specs.Told.{Begun}
use Rattle.q_drain.specs.Works.{Counts, IsLinkBetween, IsLinkOf, IsSessionOf}
use Rattle.q_engine.specs.Stands.{EngineStands}
use Rattle.q_engine.specs.declared.engine.Engine.{Engine}
use Rattle.q_host.specs.Calls.{Stays}
use Rattle.q_host.specs.View.{View as HostView}
use Rattle.q_laws.proofs.Members.{IsIn, find_in, in_right}
use Rattle.q_laws.specs.Consistency.{IsConsistent}
use Rattle.q_link.specs.Records.{AddsHops, Connects, HopsView, ToldHops, with_hop, with_rest}
use Rattle.q_link.specs.Views.{Told}
use Rattle.q_model.specs.declared.rows.Delivery.{Delivery}
use Rattle.q_model.specs.Ledger.{Ledger}
use Rattle.q_model.specs.Message.{Message}
use Rattle.q_model.specs.Settings.{World}
use Rattle.q_model.specs.Step.{after_all}

-- ---- the host

engine_looked : (w : World) (k : Ledger) (engine : Engine) (v x : HostView) → TellsCrashes v → Stays v x → EngineStands w engine v k → EngineStands w engine x k
engine_looked w k engine v x lawful stays h =
    let t = reads_keep k.book k.book v x lawful stays h.host in
    record { table = h.table; core = h.core; counts = h.counts; host = t.stands; logs = t.logs h.logs; places = h.places }

-- files were only looked at
pub looked_under_way : (w : World) (l : Ledger) (a z : Outside) (v : HostView) (Tells : Begun → Told → Type 0) (engine : Engine) (early waiting : List Begun) (fs : List Delivery) (os : List OpenSession) (s : Story) (x : HostView)
    → TellsCrashes v → Stays v x → IsUnderWay w l a z v Tells engine early waiting fs os s → IsUnderWay w l a (record { clock = z.clock; hops = z.hops }) x Tells engine early waiting fs os s
looked_under_way w l a z v Tells engine early waiting fs os s x lawful stays h =
    let k : Ledger = after_all w l s.told in
    record {
      stands = engine_looked w k engine v x lawful stays h.stands;
      driving = h.driving;
      given = h.given;
      records = h.records;
    }

-- ---- a request

-- the rests that the hops tell are those of the counts
pub told_rests : (w : World) (l : Ledger) (a : Outside) (new : HopsView) (now : ToldHops) (fs : List Delivery) (os : List OpenSession) (s : Story) (polled : ℕ) → Records w l a.hops new now fs os s → now.rests ≡ (counts_of a s polled).rests
told_rests w l a new now fs os s polled r = r.did.rests ∙ ap (λ (o : Option ToldHops). option_map_or (λ (t : ToldHops). t.rests) o 0 + s.rests) (sym r.told)

-- the first delivery that waits may be connected
pub ready : (w : World) (l : Ledger) (a z : Outside) (v : HostView) (Tells : Begun → Told → Type 0) (engine : Engine) (early : List Begun) (b : Begun) (rest : List Begun) (fs : List Delivery) (os : List OpenSession) (s : Story) (polled : ℕ)
    → IsUnderWay w l a z v Tells engine early (b ∷ rest) fs os s → polled ≤ length early → 1 ≤ length s.moments
    → (m : Message) × IsReadyFor v (after_all w l s.told).book s.told (counts_of a s polled) b m
ready w l a z v Tells engine early b rest fs os s polled h few some =
    let k : Ledger = after_all w l s.told in
    let d = h.driving in
    let c : IsConsistent w k = h.stands.core.consistent in
    let flies : IsIn (flight b) k.flights = subst (IsIn (flight b)) (sym d.opened.flights) (in_right (flight b) fs (map flight (b ∷ rest)) (inl refl)) in
    let one = flight_message w k (flight b) c flies in
    let number = d.connected.numbers.0 in (
      one.0,
      record {
        begins = (early, rest, d.connected.begins);
        stands = one.1;
        file = has_file w k v (flight b) c h.stands.host flies one.0 one.1;
        late = lt-leb b.number polled (omega (arith, number, few));
        some = some;
        positive = omega (arith, number);
      },
    )

-- its session is open
pub request_under_way : (w : World) (l : Ledger) (a z : Outside) (v : HostView) (engine : Engine) (early : List Begun) (b : Begun) (rest : List Begun) (fs : List Delivery) (os : List OpenSession) (s : Story) (polled : ℕ) (o : OpenSession) (new : HopsView)
    → IsUnderWay w l a z v (IsLinkOf (counts_of a s polled)) engine early (b ∷ rest) fs os s → polled ≤ length early → 1 ≤ length s.moments
    → Opens true v (active_spot b.id) b.number b.site.hop b.positions b.moment z.hops new o
    → AddsHops (with_hop b.site.hop) z.hops new
    → Connects z.hops new
    → IsUnderWay w l a (record { clock = z.clock; hops = new }) v (IsLinkOf (counts_of a (with_request s b.site.hop) polled)) engine (early ++ b ∷ []) rest (fs ++ flight b ∷ []) (inserted o os) (with_request s b.site.hop)
request_under_way w l a z v engine early b rest fs os s polled o new h few some opens adds counts =
    let k : Ledger = after_all w l s.told in
    let n : Counts = counts_of a s polled in
    let r = ready w l a z v (IsLinkOf n) engine early b rest fs os s polled h few some in
    let rests : (now : ToldHops) → new.told ≡ Some now → now.rests ≡ n.rests =
    λ now told. let c = adds now told in ap (λ (t : ToldHops). t.rests) c.2 ∙ told_rests w l a z.hops c.0 fs os s polled (h.records c.0 c.1) in
    let is : IsSessionOf k.book s.told (IsLinkOf n) (flight b) o = opened_session v k.book s.told n b r.0 z.hops new o r.1 rests opens in
    record {
      stands = h.stands;
      driving = drives_request w l (IsLinkOf n) early fs os s b rest o h.driving is;
      given = h.given;
      records = λ now told.
          let c = adds now told in
          let d = h.records c.0 c.1 in
          let made = ap (λ (t : ToldHops). t.connects) c.2 in
          let before = d.did.connects in
          record {
            before = d.before;
            told = d.told;
            did = record {
              connects = omega (arith, made, before);
              hops = ap (λ (t : ToldHops). t.hops) c.2 ∙ ap (λ (xs : List (List ℕ)). xs ++ b.site.hop ∷ []) d.did.hops ∙ append_assoc (d.before).hops s.hops (b.site.hop ∷ []);
              rests = ap (λ (t : ToldHops). t.rests) c.2 ∙ d.did.rests;
              records = ap (λ (t : ToldHops). t.records) c.2 ∙ d.did.records;
            };
            cases = cases_request w l d.before.connects a.hops.connect_faults z.hops.connect_faults new.connect_faults (IsLinkOf n) early fs os s b rest o h.driving is counts.connect_faults
                (cut_rose v (flight b) o (active_spot b.id) b.positions b.moment z.hops new o.work refl opens.work) d.cases;
          };
    }

-- ---- a poll

pub polled_under_way : (w : World) (l : Ledger) (a z : Outside) (v : HostView) (engine : Engine) (early waiting : List Begun) (fs : List Delivery) (os : List OpenSession) (s : Story) (polled now : ℕ) (o p : OpenSession)
    → IsUnderWay w l a z v (IsLinkOf (counts_of a s polled)) engine early waiting fs os s
    → find (λ (q : OpenSession). nat_lt polled q.number) os ≡ Some o → IsWorking true v now o p
    → IsUnderWay w l a z v (IsLinkOf (counts_of a s o.number)) engine early waiting fs (replaced p os) s
polled_under_way w l a z v engine early waiting fs os s polled now o p h first works = record {
  stands = h.stands;
  driving = drives_polled w l (counts_of a s polled) early waiting fs os s v now o p h.driving h.stands.core.consistent h.stands.host first works;
  given = h.given;
  records = λ cur told.
      let d = h.records cur told in
      record {
        before = d.before;
        told = d.told;
        did = d.did;
        cases = cases_polled w l d.before.connects a.hops.connect_faults z.hops.connect_faults fs os s v now o p h.driving.opened.rises (find_in (λ (q : OpenSession). nat_lt polled q.number) o os first).0 works d.cases;
      };
}

-- ---- the end of a sweep

-- what links tell between two sweeps, where the next sweep follows at once
pub swept_under_way : (w : World) (l : Ledger) (a z : Outside) (v : HostView) (engine : Engine) (early waiting : List Begun) (fs : List Delivery) (os : List OpenSession) (s : Story) (polled : ℕ)
    → IsUnderWay w l a z v (IsLinkOf (counts_of a s polled)) engine early waiting fs os s
    → IsUnderWay w l a z v (IsLinkBetween (counts_of a s 0).rests (length s.moments)) engine early waiting fs os s
swept_under_way w l a z v engine early waiting fs os s polled h = record {
  stands = h.stands;
  driving = drives_retold w l (IsLinkOf (counts_of a s polled)) (IsLinkBetween (counts_of a s 0).rests (length s.moments)) (λ (o : OpenSession). o.number ≤ length early) early waiting fs os s
      (λ o start t b is positive p. link_between (counts_of a s polled) start t p) h.driving.opened.below h.driving;
  given = h.given;
  records = h.records;
}

-- and where a rest was given, behind the polls of all sessions
pub rest_under_way : (w : World) (l : Ledger) (a z : Outside) (v : HostView) (engine : Engine) (early waiting : List Begun) (fs : List Delivery) (old new : Sessions) (s : Story) (polled : ℕ) (hops : HopsView)
    → IsUnderWay w l a z v (IsLinkOf (counts_of a s polled)) engine early waiting fs old.listed s
    → AllByRecursion (λ (o : OpenSession). o.number ≤ polled) old.listed
    → RestsOne old new → AddsHops with_rest z.hops hops → hops.connect_faults ≡ z.hops.connect_faults
    → IsUnderWay w l a (record { clock = z.clock; hops = hops }) v (IsLinkBetween ((counts_of a s 0).rests + 1) (length s.moments)) engine early waiting fs new.listed (record s { rests = s.rests + 1 })
rest_under_way w l a z v engine early waiting fs old new s polled hops h over rests adds faults =
    let n : Counts = counts_of a s polled in
    let d : Driving w l (IsLinkBetween (n.rests + 1) (length s.moments)) early waiting fs old.listed s =
    drives_retold w l (IsLinkOf n) (IsLinkBetween (n.rests + 1) (length s.moments)) (λ (o : OpenSession). o.number ≤ polled) early waiting fs old.listed s
    (λ o start t low number positive p. link_rest n start t (ap (λ x. nat_le x polled) number ∙ le-leb o.number polled low) p) over h.driving in
    record {
      stands = h.stands;
      driving = drives_rest w l (IsLinkBetween (n.rests + 1) (length s.moments)) early waiting fs old new s rests d;
      given = h.given;
      records = λ now told.
          let c = adds now told in
          let r = h.records c.0 c.1 in
          let made = ap (λ (t : ToldHops). t.rests) c.2 in
          let before = r.did.rests in
          record {
            before = r.before;
            told = r.told;
            did = record {
              connects = ap (λ (t : ToldHops). t.connects) c.2 ∙ r.did.connects;
              hops = ap (λ (t : ToldHops). t.hops) c.2 ∙ r.did.hops;
              rests = omega (arith, made, before);
              records = ap (λ (t : ToldHops). t.records) c.2 ∙ r.did.records;
            };
            cases = cases_rest w l r.before.connects a.hops.connect_faults hops.connect_faults fs old new s rests
                (subst (λ m. HasCases w l r.before.connects a.hops.connect_faults m fs old.listed s) (sym faults) r.cases);
          };
    }
