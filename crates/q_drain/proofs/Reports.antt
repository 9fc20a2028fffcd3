-- A session is over: its reply is told, and its case is added.
use native.Mathlib.Omega.{arith}
use Rattle.q_drain.specs.Rooms.{MayBeginMore}
use Rattle.std.proofs.Common.{◌≡◌, ◌≤◌, ◌<◌, ◌+◌, inl, inr, ℕ, Bool, true, false, if◌then◌else◌, List, [], ◌∷◌, ◌++◌, length, length-append, map, not, Option, Some, None, refl, sym, ap, ◌∙◌, subst, eq-eqb, le_refl}
use Rattle.std.proofs.lemmas.Bool.{ne_eqb}
use Rattle.std.proofs.lemmas.List.{append-nil}
use Rattle.std.proofs.lemmas.Option.{same_Some}
use Rattle.std.specs.List.{AllByRecursion}
use Rattle.std.specs.Option.{is_some}
use Rattle.std.specs.Prelude.{◌&&◌, ◌==◌, IfSome, nat_le}
use Rattle.q_agent.specs.Requests.{active_spot}
use Rattle.q_agent.specs.Sessions.{OpenSession, Rises, Work, without}
use Rattle.q_agent.specs.NextPoll.{Counts, Ends, IsReportOf}
use Rattle.q_agent.specs.declared.report.Report.{Report}
use Rattle.q_drain.proofs.Adding.{begun_added, ended_added, moment_added}
use Rattle.q_drain.proofs.Closing.{all_later, closes_case, record_by, unlinked_case}
use Rattle.q_drain.proofs.Continuing.{IsTurn, open_turn}
use Rattle.q_drain.proofs.CuttingOff.{IsPair, cut_without, failed_longer, failed_more}
use Rattle.q_laws.proofs.Deciding.{decisions_are}
use Rattle.q_drain.proofs.Ending.{all_begun}
use Rattle.q_drain.proofs.Flying.{reply_flights}
use Rattle.q_drain.proofs.Moments.{begun_behind, delivery_same, open_before}
use Rattle.q_drain.proofs.Numbering.{entry_starts}
use Rattle.q_drain.proofs.Pairing.{pairs_without}
use Rattle.q_drain.proofs.Polling.{HasItsFile}
use Rattle.q_drain.proofs.Replying.{case_added, longer}
use Rattle.q_drain.proofs.Sessions.{in_above}
use Rattle.q_drain.proofs.Silent.{decisions_inside, no_replies, same_moment}
use Rattle.q_drain.proofs.Turning.{connected_turn, course_reply, reply_entries}
use Rattle.q_drain.specs.AllTold.{IsTold}
use Rattle.q_drain.specs.Cases.{Case, records_of, replies_of}
use Rattle.q_drain.specs.Causes.{IsDelivery, has_failed}
use Rattle.q_drain.specs.Driving.{Driving, FewCutOff, HasCases, cut_off, is_cut_off}
use Rattle.q_drain.specs.Flights.{flight, without_flight}
use Rattle.q_drain.specs.Stories.{Story}
use Rattle.q_drain.specs.Told.{Begun, Ended, begun, ended, moment_after}
use Rattle.q_drain.specs.Works.{Counts as Progress, IsLinkOf, IsSessionOf, IsWorkOf, Pairs, mail_of}
use Rattle.q_host.specs.View.{View as HostView}
use Rattle.q_laws.proofs.Members.{IsIn}
use Rattle.q_laws.specs.Consistency.{IsConsistent}
use Rattle.q_link.specs.Records.{Closed, HopsView, ToldHops}
use Rattle.q_link.specs.Routes.{has_route}
use Rattle.q_link.specs.Views.{Told}
use Rattle.q_model.specs.declared.entry.Entry.{Entry}
use Rattle.q_model.specs.declared.entry.Entry.TheVariants as entries
use Rattle.q_model.specs.declared.outcome.Outcome.{Outcome}
use Rattle.q_model.specs.declared.outcome.SiteState.{SiteState}
use Rattle.q_model.specs.declared.rows.Delivery.{Delivery}
use Rattle.q_model.specs.Book.{message_of}
use Rattle.q_model.specs.Ledger.{Ledger}
use Rattle.q_model.specs.Message.{Message}
use Rattle.q_model.specs.Past.{starts}
use Rattle.q_model.specs.Run.{decisions}
use Rattle.q_model.specs.Settings.{World}
use Rattle.q_model.specs.Step.{after, after_all, allowed}
use Rattle.q_session.specs.Mails.{StandsAt}

-- ---- one session less

kept_or_not : {A : Type 0} (P : List A → Type 0) (x : A) (xs : List A) (b : Bool) → P xs → P (x ∷ xs) → P (if not b then x ∷ xs else xs)
kept_or_not P x xs true h k = h
kept_or_not P x xs false h k = k

above_without : (m n : ℕ) (os : List OpenSession) → AllByRecursion (λ k. m < k) (map (λ (x : OpenSession). x.number) os) → AllByRecursion (λ k. m < k) (map (λ (x : OpenSession). x.number) (without n os))
above_without m n [] h = tt
above_without m n (o ∷ os) h = let rest = above_without m n os h.1 in kept_or_not (λ xs. AllByRecursion (λ k. m < k) (map (λ (x : OpenSession). x.number) xs)) o (without n os) (o.number == n) rest (h.0, rest)

pub rises_without : (n : ℕ) (os : List OpenSession) → Rises (map (λ (x : OpenSession). x.number) os) → Rises (map (λ (x : OpenSession). x.number) (without n os))
rises_without n [] h = tt
rises_without n (o ∷ os) h = let rest = rises_without n os h.1 in kept_or_not (λ xs. Rises (map (λ (x : OpenSession). x.number) xs)) o (without n os) (o.number == n) rest (above_without o.number n os h.0, rest)

below_without : (m n : ℕ) (os : List OpenSession) → AllByRecursion (λ (o : OpenSession). o.number ≤ m) os → AllByRecursion (λ (o : OpenSession). o.number ≤ m) (without n os)
below_without m n [] h = tt
below_without m n (o ∷ os) h = let rest = below_without m n os h.1 in kept_or_not (AllByRecursion (λ (x : OpenSession). x.number ≤ m)) o (without n os) (o.number == n) rest (h.0, rest)

none_less : (n : ℕ) (os : List OpenSession) → AllByRecursion (λ k. n < k) (map (λ (x : OpenSession). x.number) os) → length (without n os) ≡ length os
none_less n [] h = refl
none_less n (o ∷ os) h =
    let more = h.0 in
    let rest = none_less n os h.1 in
    let other : (o.number == n) ≡ false = ne_eqb o.number n (λ e. omega (arith, more, e)) in
    let kept = ap (λ (b : Bool). length (if not b then o ∷ without n os else without n os)) other in
    omega (arith, kept, rest)

one_less : (o : OpenSession) (os : List OpenSession) → Rises (map (λ (x : OpenSession). x.number) os) → IsIn o os → length os ≡ length (without o.number os) + 1
one_less o [] rises h = absurd h
one_less o (x ∷ os) rises (inl is) =
    let number : x.number ≡ o.number = ap (λ (y : OpenSession). y.number) is in
    let taken = ap (λ (b : Bool). length (if not b then x ∷ without o.number os else without o.number os)) (eq-eqb x.number o.number number) in
    let rest = none_less o.number os (subst (λ n. AllByRecursion (λ k. n < k) (map (λ (y : OpenSession). y.number) os)) number rises.0) in
    omega (arith, taken, rest)
one_less o (x ∷ os) rises (inr h) =
    let late = in_above x.number o os rises.0 h in
    let kept = ap (λ (b : Bool). length (if not b then x ∷ without o.number os else without o.number os)) (ne_eqb x.number o.number (λ e. omega (arith, late, e))) in
    let rest = one_less o os rises.1 h in
    omega (arith, kept, rest)

-- a session has its delivery
pub pair_of : (P : Delivery → OpenSession → Type 0) (o : OpenSession) (fs : List Delivery) (os : List OpenSession) → Pairs P fs os → IsIn o os → (f : Delivery) × P f o × IsPair f o fs os
pair_of P o [] [] h k = absurd k
pair_of P o [] (x ∷ os) h k = absurd h
pair_of P o (f ∷ fs) [] h k = absurd h
pair_of P o (f ∷ fs) (x ∷ os) h (inl is) = (f, subst (P f) is h.0, inl (refl, is))
pair_of P o (f ∷ fs) (x ∷ os) h (inr k) = let rest = pair_of P o fs os h.1 k in (rest.0, rest.1, inr rest.2)

-- ---- the reply

-- what was told and recorded with a reply
abbrev pub after_reply : World → Ledger → Story → ℕ → SiteState → List Outcome → List Closed → Story
after_reply w l s number site outcomes records = record s { told = s.told ++ reply_entries w (after_all w l s.told) number site outcomes; records = s.records ++ records }

pub drives_reply : (w : World) (l : Ledger) (Tells : Begun → Told → Type 0) (early : List Begun) (fs : List Delivery) (os : List OpenSession) (s : Story) (o : OpenSession) (site : SiteState) (outcomes : List Outcome) (records : List Closed)
    → Driving w l Tells early [] fs os s → IsIn o os
    → IsConsistent w (after_all w l s.told)
    → allowed w (after_all w l s.told) (entries.Reply o.number site outcomes) ≡ true
    → MayBeginMore (after_all w l s.told)
    → Driving w l Tells early (begun_behind w l s (entries.Reply o.number site outcomes) (moment_after 0 s.told)) (without_flight o.number fs) (without o.number os) (after_reply w l s o.number site outcomes records)
drives_reply w l Tells early fs os s o site outcomes records d there c fits few =
    let k : Ledger = after_all w l s.told in
    let e : Entry = entries.Reply o.number site outcomes in
    let ds : List Entry = decisions w (after w k e) in
    let m : ℕ = moment_after 0 s.told in
    let r : Story = after_reply w l s o.number site outcomes records in
    let inside = decisions_inside w (after w k e) in
    let turn : IsTurn w k e ds = (inl fits, decisions_are w (after w k e)) in
    let last : ended (e ∷ ds) ≡ record { number = o.number; site = site; outcomes = outcomes } ∷ [] = ap (λ (xs : List Ended). record { number = o.number; site = site; outcomes = outcomes } ∷ xs) (no_replies ds inside) in
    let replies = ap length (ended_added s.told (e ∷ ds)) in
    let sum = length-append (ended s.told) (ended (e ∷ ds)) in
    let final = ap length last in
    let all = all_begun s early [] d.connected in
    let one : starts (after w k e) ≡ starts k + 0 = entry_starts w k m e refl in
    let before = d.course.starts in
    let counted = d.opened.counted in
    let less = one_less o os d.opened.rises there in
    let course = course_reply w l s o.number site outcomes d.course fits few in
    let gs : List Delivery = without_flight o.number fs in
    let ps : List OpenSession = without o.number os in
    record {
      course = record { run = course.run; room = course.room; clocked = course.clocked; now = course.now; starts = course.starts };
      connected = connected_turn w (after w k e) s r early m ds d.connected refl refl
          (begun_added 0 s.told (e ∷ ds)) (moment_added 0 s.told (e ∷ ds) ∙ same_moment m ds inside) turn.1 inside (omega (arith, one, before, all));
      opened = open_turn w l s r Tells early gs ps m e ds refl c turn
          (reply_flights w k o.number site outcomes ∙ ap (without_flight o.number) (open_before w l s Tells early fs os d.opened))
          (pairs_without (IsSessionOf k.book s.told Tells) (λ f x h. h.number) o.number fs os d.opened.sessions)
          (rises_without o.number os d.opened.rises) (below_without (length early) o.number os d.opened.below)
          (omega (arith, counted, replies, sum, final, less));
    }

-- ---- its case

-- the case of a session that is over
abbrev pub case_of : World → Ledger → Story → Begun → Message → ℕ → SiteState → List Outcome → Option Closed → Case
case_of w l s start m number site outcomes link = record {
  before = s.told;
  behind = reply_entries w (after_all w l s.told) number site outcomes;
  start = start;
  message = m;
  moment = moment_after 0 s.told;
  reply = record { number = number; site = site; outcomes = outcomes };
  link = link;
}

pub each_more : (P : Case → Type 0) (cs : List Case) (c : Case) → AllByRecursion P cs → P c → AllByRecursion P (cs ++ c ∷ [])
each_more P [] c h p = (p, tt)
each_more P (d ∷ cs) c h p = (h.0, each_more P cs c h.1 p)

pub few_ended : (cs : List Case) (c : Case) (f : Delivery) (o : OpenSession) (es : List Entry) (fs gs : List Delivery) (os ps : List OpenSession) (old new : ℕ)
    → cut_off fs os ≡ cut_off gs ps + is_cut_off f o → (if has_failed c then 1 else 0) ≡ is_cut_off f o → FewCutOff cs fs os old new → FewCutOff (map (longer es) cs ++ c ∷ []) gs ps old new
few_ended cs c f o es fs gs os ps old new sum one (inl h) =
    let same = failed_longer es cs in
    let more = failed_more (map (longer es) cs) c in
    inl (omega (arith, sum, one, h, same, more))
few_ended cs c f o es fs gs os ps old new sum one (inr h) = inr h

-- it failed where its session was cut off
pub fails_cut : (c : Case) (f : Delivery) (o : OpenSession) → is_some c.link ≡ is_some o.work → f ≡ flight c.start → (if has_failed c then 1 else 0) ≡ is_cut_off f o
fails_cut c f o linked is =
    ap (λ (b : Bool). if not b && has_route c.start.site.hop then 1 else 0) linked
    ∙ ap (λ (g : Delivery). if not (is_some o.work) && has_route g.row.site.hop then 1 else 0) (sym is)

pub cases_reply : (w : World) (l : Ledger) (connects first last : ℕ) (Tells : Begun → Told → Type 0) (fs : List Delivery) (os : List OpenSession) (s : Story) (f : Delivery) (o : OpenSession) (site : SiteState) (outcomes : List Outcome) (link : Option Closed)
    → (h : IsSessionOf (after_all w l s.told).book s.told Tells f o)
    → IsPair f o fs os
    → Pairs (IsSessionOf (after_all w l s.told).book s.told Tells) fs os
    → Rises (map (λ (x : OpenSession). x.number) os)
    → is_some link ≡ is_some o.work
    → IsDelivery s connects (case_of w l s h.start h.message o.number site outcomes link)
    → HasCases w l connects first last fs os s
    → HasCases w l connects first last (without_flight o.number fs) (without o.number os) (after_reply w l s o.number site outcomes (records_of (case_of w l s h.start h.message o.number site outcomes link ∷ [])))
cases_reply w l connects first last Tells fs os s f o site outcomes link h pair pairs rises linked is d =
    let k : Ledger = after_all w l s.told in
    let c : Case = case_of w l s h.start h.message o.number site outcomes link in
    let e : Entry = entries.Reply o.number site outcomes in
    let ds : List Entry = decisions w (after w k e) in
    let r : Story = after_reply w l s o.number site outcomes (records_of (c ∷ [])) in
    let place : IsTold w l r (replies_of d.cases) c = record {
      place = record {
        told = refl;
        replies = d.all.replies;
        next = refl;
        number = h.number ∙ ap (λ (g : Delivery). g.number) h.is;
        begins = h.begins;
        message = subst (λ (g : Delivery). message_of k.book g.row.id ≡ Some h.message) h.is h.stands;
        moment = refl;
      };
      told = λ none. cc;
    } in
    record {
      cases = map (longer (e ∷ ds)) d.cases ++ c ∷ [];
      all = case_added w l s d.cases e ds c d.all refl (no_replies ds (decisions_inside w (after w k e))) place;
      each = each_more (IsDelivery r connects) (map (longer (e ∷ ds)) d.cases) c (all_later s r connects (e ∷ ds) (le_refl (length s.moments)) d.cases d.each) (delivery_same s r connects c (le_refl (length s.moments)) is);
      failed = few_ended d.cases c f o (e ∷ ds) fs (without_flight o.number fs) os (without o.number os) first last
          (cut_without (IsSessionOf k.book s.told Tells) (λ g x p. p.number) f o fs os rises pairs pair) (fails_cut c f o linked h.is) d.failed;
    }

-- ---- what is known of it

-- what the hops tell behind it
abbrev pub with_records : List Closed → ToldHops → ToldHops
with_records rs t = record t { records = t.records ++ rs }

-- the record of a session that is over, where the hops tell
pub record IsClosedSession (s : Story) (connects : ℕ) (o : OpenSession) (cur now : ToldHops) (case_by : Option Closed → Case) : Type 0 where
  pub link : Option Closed
  pub linked : is_some link ≡ is_some o.work
  pub delivery : IsDelivery s connects (case_by link)
  pub told : now ≡ with_records (records_of (case_by link ∷ [])) cur

-- the counts of a sweep, as the hops and the clock tell them
pub record AreCounts (n : Progress) (s : Story) (connects : ℕ) (cur : ToldHops) : Type 0 where
  pub moments : n.moments ≡ length s.moments
  pub rests : cur.rests ≡ n.rests
  pub made : cur.connects ≡ connects + length (begun s.told)

-- the numbers of recipients are those of the start
counts_start : (f : Delivery) (start : Begun) (site : SiteState) (n : ℕ) (outcomes : List Outcome) → n ≡ length f.row.positions → f ≡ flight start → Counts site n outcomes → Counts site (length start.positions) outcomes
counts_start f start site n outcomes n_is is h = subst (λ m. Counts site m outcomes) (n_is ∙ ap (λ (g : Delivery). length g.row.positions) is) h

same_hops : (old new : HopsView) (cur now : ToldHops) → new ≡ old → old.told ≡ Some cur → new.told ≡ Some now → now ≡ cur
same_hops old new cur now same was is = same_Some now cur (sym is ∙ ap (λ (v : HopsView). v.told) same ∙ was)

-- The report of a session that was polled, where the hops told the first before and tell the second.
pub reported : (w : World) (l : Ledger) (s : Story) (connects : ℕ) (n : Progress) (f : Delivery) (o : OpenSession) (host : HostView) (r : Report) (old new : HopsView) (cur now : ToldHops)
    → (h : IsSessionOf (after_all w l s.told).book s.told (IsLinkOf n) f o)
    → nat_le o.number n.polled ≡ false
    → AreCounts n s connects cur
    → old.told ≡ Some cur
    → new.told ≡ Some now
    → HasItsFile host (after_all w l s.told).book f
    → IsReportOf true host (moment_after 0 s.told) o r old new
    → IsClosedSession s connects o cur now (case_of w l s h.start h.message o.number r.site r.outcomes)
reported w l s connects n f o host r old new cur now h unpolled counts was told file report = on o.work refl report.ends
  where
    by : Option Closed → Case
    by = case_of w l s h.start h.message o.number r.site r.outcomes

    count : Counts r.site (length h.start.positions) r.outcomes
    count = counts_start f h.start r.site o.recipients r.outcomes h.recipients h.is report.counts

    number : h.start.number ≡ o.number
    number = ap (λ (g : Delivery). g.number) (sym h.is) ∙ sym h.number

    on : (work : Option Work) → o.work ≡ work → Ends true host (moment_after 0 s.told) work r.site r.outcomes old new → IsClosedSession s connects o cur now by
    on None is ends = record {
      link = None;
      linked = sym (ap is_some is);
      delivery = unlinked_case s connects (by None) refl ends.0 count;
      told = same_hops old new cur now ends.1 was told ∙ ap (λ rs. record cur { records = rs }) (sym (append-nil cur.records));
    }
    on (Some work) is ends =
        let one : IsWorkOf (IsLinkOf n) h.start h.message work = subst (λ (x : Option Work). IfSome x (IsWorkOf (IsLinkOf n) h.start h.message)) is h.work in
        let spot : work.session.content.spot ≡ active_spot f.row.id = one.spot ∙ ap (λ (g : Delivery). active_spot g.row.id) (sym h.is) in
        let link : Option Closed = Some (record_by ends now told) in
        let closed = closes_case s connects (by link) work host old new cur now n one (ap (λ x. nat_le x n.polled) number ∙ unpolled)
        counts.moments counts.rests counts.made was count (subst (λ x. StandsAt true host x (mail_of h.message)) (sym spot) (file h.message h.stands)) ends told refl in
        record {
          link = link;
          linked = sym (ap is_some is);
          delivery = closed.0;
          told = closed.1;
        }
