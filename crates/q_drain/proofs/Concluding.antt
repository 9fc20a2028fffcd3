-- A drain under way through the report of a delivery and the turn of its reply.
use native.Mathlib.Omega.{arith}
use Rattle.q_drain.specs.Rooms.{MayBeginMore}
use Rattle.std.proofs.Common.{◌≡◌, ◌≤◌, ◌<◌, ◌⊎◌, inl, inr, ℕ, Bool, true, false, if◌then◌else◌, List, [], ◌∷◌, find, map, not, Option, Some, refl, sym, ap, ◌∙◌, subst, ltb-true, eq-eqb}
use Rattle.std.proofs.lemmas.Bool.{le-leb, lt-leb, ltb-false}
use Rattle.std.proofs.lemmas.Option.{same_Some}
use Rattle.std.specs.List.{AllByRecursion}
use Rattle.std.specs.Prelude.{◌&&◌, ◌==◌, ◌||◌, nat_le, nat_lt}
use Rattle.q_agent.specs.Sessions.{OpenSession, Rises, without}
use Rattle.q_agent.specs.NextPoll.{IsReportOf}
use Rattle.q_agent.specs.declared.report.Report.{Report}
use Rattle.q_drain.proofs.Moments.{begun_behind, drives_retold}
use Rattle.q_drain.proofs.Polling.{same_flag}
use Rattle.q_drain.proofs.Recorded.{HasRecord, has_record}
use Rattle.q_drain.proofs.Reports.{after_reply, cases_reply, drives_reply}
use Rattle.q_drain.proofs.Turning.{reply_entries}
use Rattle.q_drain.proofs.UnderWay.{stands_behind}
use Rattle.q_drain.specs.Driving.{Driving, HasCases}
use Rattle.q_drain.specs.Flights.{without_flight}
use Rattle.q_drain.specs.Standing.{IsUnderWay, Outside, counts_of}
use Rattle.q_drain.specs.Stories.{Story}
use Rattle.q_drain.specs.Told.{Begun, moment_after}
use Rattle.q_drain.specs.Works.{Counts, IsLinkOf}
use Rattle.q_engine.specs.Stands.{EngineStands}
use Rattle.q_engine.specs.declared.engine.Engine.{Engine}
use Rattle.q_host.specs.View.{View as HostView}
use Rattle.q_laws.proofs.Members.{IsIn, find_in}
use Rattle.q_link.specs.Records.{Closed, HopsView}
use Rattle.q_model.specs.declared.entry.Entry.TheVariants as entries
use Rattle.q_model.specs.declared.outcome.Outcome.{Outcome}
use Rattle.q_model.specs.declared.outcome.SiteState.{SiteState}
use Rattle.q_model.specs.declared.rows.Delivery.{Delivery}
use Rattle.q_model.specs.Ledger.{Ledger}
use Rattle.q_model.specs.Past.{is_living}
use Rattle.q_model.specs.Replies.{may_reply}
use Rattle.q_model.specs.Settings.{World}
use Rattle.q_model.specs.Step.{after_all, allowed}

-- ---- the other sessions

-- it was polled before this one, or comes behind it
abbrev pub IsBeside : ℕ → ℕ → OpenSession → Type 0
IsBeside polled number x = (x.number ≤ polled) ⊎ (number < x.number)

kept_beside : (P : OpenSession → Type 0) (x : OpenSession) (xs : List OpenSession) (b : Bool) → (b ≡ false → P x) → AllByRecursion P xs → AllByRecursion P (if not b then x ∷ xs else xs)
kept_beside P x xs true h k = k
kept_beside P x xs false h k = (h refl, k)

all_behind : (polled number : ℕ) (os : List OpenSession) → AllByRecursion (λ k. number < k) (map (λ (x : OpenSession). x.number) os) → AllByRecursion (IsBeside polled number) (without number os)
all_behind polled number [] h = tt
all_behind polled number (x ∷ os) h = kept_beside (IsBeside polled number) x (without number os) (x.number == number) (λ e. inr h.0) (all_behind polled number os h.1)

first_beside : (polled : ℕ) (o x : OpenSession) (os : List OpenSession) (b : Bool) (found : Option OpenSession) → nat_lt polled x.number ≡ b → (if b then Some x else found) ≡ Some o
    → AllByRecursion (λ k. x.number < k) (map (λ (y : OpenSession). y.number) os)
    → (found ≡ Some o → AllByRecursion (IsBeside polled o.number) (without o.number os))
    → AllByRecursion (IsBeside polled o.number) (without o.number (x ∷ os))
first_beside polled o x os true found is first above rest =
    let same : x.number ≡ o.number = ap (λ (y : OpenSession). y.number) (same_Some x o first) in
    kept_beside (IsBeside polled o.number) x (without o.number os) (x.number == o.number) (λ e. let t : true ≡ false = sym (eq-eqb x.number o.number same) ∙ e in cc)
    (all_behind polled o.number os (subst (λ n. AllByRecursion (λ k. n < k) (map (λ (y : OpenSession). y.number) os)) same above))
first_beside polled o x os false found is first above rest =
    kept_beside (IsBeside polled o.number) x (without o.number os) (x.number == o.number) (λ e. inl (ltb-false polled x.number is)) (rest first)

-- where it is the first that this sweep hasn't polled
pub beside : (polled : ℕ) (o : OpenSession) (os : List OpenSession) → Rises (map (λ (x : OpenSession). x.number) os) → find (λ (q : OpenSession). nat_lt polled q.number) os ≡ Some o → AllByRecursion (IsBeside polled o.number) (without o.number os)
beside polled o [] rises first = tt
beside polled o (x ∷ os) rises first = first_beside polled o x os (nat_lt polled x.number) (find (λ (q : OpenSession). nat_lt polled q.number) os) refl first rises.0 (λ found. beside polled o os rises.1 found)

same_side : (polled number n : ℕ) → polled < number → (n ≤ polled) ⊎ (number < n) → nat_le n number ≡ nat_le n polled
same_side polled number n late (inl low) = le-leb n number (omega (arith, low, late)) ∙ sym (le-leb n polled low)
same_side polled number n late (inr high) = lt-leb n number high ∙ sym (lt-leb n polled (omega (arith, high, late)))

-- ---- the reply

-- a reply is allowed that has an outcome for each recipient of a delivery in flight
pub reply_allowed : (w : World) (k : Ledger) (number : ℕ) (site : SiteState) (outcomes : List Outcome) → is_living k ≡ true → may_reply k number site outcomes ≡ true → allowed w k (entries.Reply number site outcomes) ≡ true
unfolding allowed
reply_allowed w k number site outcomes living may = ap (λ (b : Bool). (b || false) && may_reply k number site outcomes) living ∙ may

-- what was recorded with the reply, and that the drain goes on so
pub record GoesOnBehind (w : World) (l : Ledger) (a z : Outside) (x : HostView) (hops : HopsView) (engine : Engine) (early : List Begun) (fs : List Delivery) (os : List OpenSession) (s : Story) (o : OpenSession) (r : Report) : Type 0 where
  pub recorded : List Closed
  pub goes_on : IsUnderWay w l a (record { clock = z.clock; hops = hops }) x (IsLinkOf (counts_of a (after_reply w l s o.number r.site r.outcomes recorded) o.number)) engine early
      (begun_behind w l s (entries.Reply o.number r.site r.outcomes) (moment_after 0 s.told)) (without_flight o.number fs) (without o.number os) (after_reply w l s o.number r.site r.outcomes recorded)

-- The session that was polled is over, and its reply was carried out and told.
pub concludes_under_way : (w : World) (l : Ledger) (a z : Outside) (v x : HostView) (hops : HopsView) (old new : Engine) (early : List Begun) (fs : List Delivery) (os : List OpenSession) (s : Story) (polled : ℕ) (o : OpenSession) (r : Report)
    → IsUnderWay w l a z v (IsLinkOf (counts_of a s polled)) old early [] fs os s
    → find (λ (q : OpenSession). nat_lt polled q.number) os ≡ Some o
    → IsReportOf true v (moment_after 0 s.told) o r z.hops hops
    → hops.connect_faults ≡ z.hops.connect_faults
    → may_reply (after_all w l s.told) o.number r.site r.outcomes ≡ true
    → MayBeginMore (after_all w l s.told)
    → EngineStands w new x (after_all w (after_all w l s.told) (reply_entries w (after_all w l s.told) o.number r.site r.outcomes))
    → GoesOnBehind w l a z x hops new early fs os s o r
concludes_under_way w l a z v x hops old new early fs os s polled o r h first report faults may few stands =
    let t : HasRecord w l a z hops fs os s n o r = has_record w l a z v hops old early fs os s polled o r h first report in
    record {
      recorded = t.recorded;
      goes_on = record {
        stands = stands_behind w l s.told (reply_entries w k o.number r.site r.outcomes) new x stands;
        driving = drives t.recorded;
        given = h.given;
        records = λ now told.
            let c = t.tells now told in
            record {
              before = c.before;
              told = c.told;
              did = record { connects = c.did.connects; hops = c.did.hops; rests = c.did.rests; records = c.did.records };
              cases = subst (λ (n : ℕ). HasCases w l c.before.connects a.hops.connect_faults n (without_flight o.number fs) (without o.number os) (after_reply w l s o.number r.site r.outcomes t.recorded)) (sym faults)
                  (subst (λ (rs : List Closed). HasCases w l c.before.connects a.hops.connect_faults z.hops.connect_faults (without_flight o.number fs) (without o.number os) (after_reply w l s o.number r.site r.outcomes rs)) (sym c.is)
                  (cases_reply w l c.before.connects a.hops.connect_faults z.hops.connect_faults (IsLinkOf n) fs os s t.flies o r.site r.outcomes c.link t.session t.pair d.opened.sessions d.opened.rises c.linked c.delivery c.cases));
            };
      };
    }
  where
    k : Ledger
    k = after_all w l s.told

    n : Counts
    n = counts_of a s polled

    d : Driving w l (IsLinkOf n) early [] fs os s
    d = h.driving

    there : IsIn o os
    there = (find_in (λ (q : OpenSession). nat_lt polled q.number) o os first).0

    late : polled < o.number
    late = ltb-true polled o.number (find_in (λ (q : OpenSession). nat_lt polled q.number) o os first).1

    m : ℕ
    m = moment_after 0 s.told

    drives : (records : List Closed) → Driving w l (IsLinkOf (counts_of a (after_reply w l s o.number r.site r.outcomes records) o.number)) early (begun_behind w l s (entries.Reply o.number r.site r.outcomes) m) (without_flight o.number fs) (without o.number os) (after_reply w l s o.number r.site r.outcomes records)
    drives records =
        let st : Story = after_reply w l s o.number r.site r.outcomes records in
        let e = drives_reply w l (IsLinkOf n) early fs os s o r.site r.outcomes records d there h.stands.core.consistent (reply_allowed w k o.number r.site r.outcomes h.stands.core.living may) few in
        drives_retold w l (IsLinkOf n) (IsLinkOf (counts_of a st o.number)) (IsBeside polled o.number) early (begun_behind w l s (entries.Reply o.number r.site r.outcomes) m) (without_flight o.number fs) (without o.number os) st
        (λ y start t side number positive p. same_flag n (counts_of a st o.number) start t refl refl (ap (λ i. nat_le i o.number) number ∙ same_side polled o.number y.number late side ∙ ap (λ i. nat_le i polled) (sym number)) p)
        (beside polled o os d.opened.rises first) e
