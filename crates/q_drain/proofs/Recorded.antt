-- The record of a session that is over, and the case that it belongs to.
use native.Mathlib.Omega.{arith}
use Rattle.std.proofs.Common.{◌≡◌, ◌<◌, inl, inr, ℕ, true, List, [], ◌∷◌, ◌++◌, find, Option, Some, None, refl, sym, ap, ◌∙◌, subst, append_assoc, ltb-true}
use Rattle.std.proofs.lemmas.Bool.{lt-leb}
use Rattle.std.proofs.lemmas.Option.{same_Some}
use Rattle.std.specs.Option.{is_some}
use Rattle.std.specs.Prelude.{nat_lt}
use Rattle.q_agent.specs.Sessions.{OpenSession, Work}
use Rattle.q_agent.specs.NextPoll.{Ends, IsReportOf}
use Rattle.q_agent.specs.declared.report.Report.{Report}
use Rattle.q_drain.proofs.CuttingOff.{IsPair}
use Rattle.q_drain.proofs.Ending.{all_begun}
use Rattle.q_drain.proofs.Reports.{case_of, pair_of, reported, with_records}
use Rattle.q_drain.proofs.Serving.{told_rests}
use Rattle.q_drain.proofs.Starting.{has_file}
use Rattle.q_drain.specs.Cases.{Case, records_of}
use Rattle.q_drain.specs.Causes.{IsDelivery}
use Rattle.q_drain.specs.Driving.{Driving, HasCases}
use Rattle.q_drain.specs.Standing.{IsUnderWay, Outside, Records, counts_of}
use Rattle.q_drain.specs.Stories.{Did, Story}
use Rattle.q_drain.specs.Told.{Begun, moment_after}
use Rattle.q_drain.specs.Works.{Counts, IsLinkOf, IsSessionOf}
use Rattle.q_engine.specs.declared.engine.Engine.{Engine}
use Rattle.q_host.specs.View.{View as HostView}
use Rattle.q_laws.proofs.Members.{IsIn, find_in, in_left}
use Rattle.q_link.specs.Records.{Closed, HopsView, ToldHops}
use Rattle.q_model.specs.declared.outcome.Outcome.{Outcome}
use Rattle.q_model.specs.declared.outcome.SiteState.{SiteState}
use Rattle.q_model.specs.declared.rows.Delivery.{Delivery}
use Rattle.q_model.specs.Ledger.{Ledger}
use Rattle.q_model.specs.Settings.{World}
use Rattle.q_model.specs.Step.{after_all}

-- Where the hops tell: what was done, with this more recorded, and the case that it is recorded of.
pub record RecordedAt (w : World) (l : Ledger) (a z : Outside) (fs : List Delivery) (os : List OpenSession) (s : Story) (o : OpenSession) (case_by : Option Closed → Case) (recorded : List Closed) (now : ToldHops) : Type 0 where
  pub before : ToldHops
  pub told : a.hops.told ≡ Some before
  pub did : Did before now (record s { records = s.records ++ recorded })
  pub link : Option Closed
  pub is : recorded ≡ records_of (case_by link ∷ [])
  pub linked : is_some link ≡ is_some o.work
  pub delivery : IsDelivery s before.connects (case_by link)
  pub cases : HasCases w l before.connects a.hops.connect_faults z.hops.connect_faults fs os s

-- The session stands for its delivery, and this was recorded of it.
pub record HasRecord (w : World) (l : Ledger) (a z : Outside) (hops : HopsView) (fs : List Delivery) (os : List OpenSession) (s : Story) (n : Counts) (o : OpenSession) (r : Report) : Type 0 where
  pub flies : Delivery
  pub session : IsSessionOf (after_all w l s.told).book s.told (IsLinkOf n) flies o
  pub pair : IsPair flies o fs os
  pub recorded : List Closed
  pub tells : (now : ToldHops) → hops.told ≡ Some now → RecordedAt w l a z fs os s o (case_of w l s session.start session.message o.number r.site r.outcomes) recorded now

-- ---- the hops

pair_in : (f : Delivery) (o : OpenSession) (fs : List Delivery) (os : List OpenSession) → IsPair f o fs os → IsIn f fs
pair_in f o [] os h = absurd h
pair_in f o (g ∷ fs) [] h = absurd h
pair_in f o (g ∷ fs) (x ∷ os) (inl is) = inl is.0
pair_in f o (g ∷ fs) (x ∷ os) (inr h) = inr (pair_in f o fs os h)

-- the hops told before what they tell behind a close
told_before : (host : HostView) (moment : ℕ) (work : Option Work) (site : SiteState) (outcomes : List Outcome) (old new : HopsView) (now : ToldHops) → Ends true host moment work site outcomes old new → new.told ≡ Some now → (cur : ToldHops) × (old.told ≡ Some cur)
told_before host moment None site outcomes old new now h told = (now, ap (λ (x : HopsView). x.told) (sym h.1) ∙ told)
told_before host moment (Some work) site outcomes old new now h told = let a = h.closes.0 now told in (a.0, a.2)

-- ---- the record

-- The session that was polled is over, and its link was closed.
pub has_record : (w : World) (l : Ledger) (a z : Outside) (v : HostView) (hops : HopsView) (engine : Engine) (early : List Begun) (fs : List Delivery) (os : List OpenSession) (s : Story) (polled : ℕ) (o : OpenSession) (r : Report)
    → IsUnderWay w l a z v (IsLinkOf (counts_of a s polled)) engine early [] fs os s
    → find (λ (q : OpenSession). nat_lt polled q.number) os ≡ Some o
    → IsReportOf true v (moment_after 0 s.told) o r z.hops hops
    → HasRecord w l a z hops fs os s (counts_of a s polled) o r
has_record w l a z v hops engine early fs os s polled o r h first report = on hops.told refl
  where
    k : Ledger
    k = after_all w l s.told

    n : Counts
    n = counts_of a s polled

    d : Driving w l (IsLinkOf n) early [] fs os s
    d = h.driving

    late : polled < o.number
    late = ltb-true polled o.number (find_in (λ (q : OpenSession). nat_lt polled q.number) o os first).1

    pair : (f : Delivery) × IsSessionOf k.book s.told (IsLinkOf n) f o × IsPair f o fs os
    pair = pair_of (IsSessionOf k.book s.told (IsLinkOf n)) o fs os d.opened.sessions (find_in (λ (q : OpenSession). nat_lt polled q.number) o os first).0

    by : Option Closed → Case
    by = case_of w l s (pair.1).start (pair.1).message o.number r.site r.outcomes

    on : (t : Option ToldHops) → hops.told ≡ t → HasRecord w l a z hops fs os s n o r
    on None is = record {
      flies = pair.0;
      session = pair.1;
      pair = pair.2;
      recorded = [];
      tells = λ now told. let none : None ≡ Some now = sym is ∙ told in cc;
    }
    on (Some last) is =
        let cur = told_before v (moment_after 0 s.told) o.work r.site r.outcomes z.hops hops last report.ends is in
        let f : Delivery = pair.0 in
        let q : Records w l a.hops z.hops cur.0 fs os s = h.records cur.0 cur.1 in
        let made = q.did.connects in
        let connects = d.connected.connects in
        let all = all_begun s early [] d.connected in
        let file = has_file w k v f h.stands.core.consistent h.stands.host (subst (IsIn f) (sym d.opened.flights) (in_left f fs [] (pair_in f o fs os pair.2))) in
        let closed = reported w l s q.before.connects n f o v r z.hops hops cur.0 last pair.1 (lt-leb o.number polled late) (record { moments = refl; rests = told_rests w l a z.hops cur.0 fs os s polled q; made = omega (arith, made, connects, all) }) cur.1 is file report in
        let records : List Closed = records_of (by closed.link ∷ []) in
        record {
          flies = f;
          session = pair.1;
          pair = pair.2;
          recorded = records;
          tells = λ now told.
              let same : now ≡ with_records records cur.0 = same_Some now last (sym told ∙ is) ∙ closed.told in
              record {
                before = q.before;
                told = q.told;
                did = record {
                  connects = ap (λ (t : ToldHops). t.connects) same ∙ q.did.connects;
                  hops = ap (λ (t : ToldHops). t.hops) same ∙ q.did.hops;
                  rests = ap (λ (t : ToldHops). t.rests) same ∙ q.did.rests;
                  records = ap (λ (t : ToldHops). t.records) same ∙ ap (λ rs. rs ++ records) q.did.records ∙ append_assoc (q.before).records s.records records;
                };
                link = closed.link;
                is = refl;
                linked = closed.linked;
                delivery = closed.delivery;
                cases = q.cases;
              };
        }
