-- How often the links of an agent may still answer `NotYet`, behind each call.
use native.Mathlib.Omega.{arith}
use Rattle.std.proofs.Common.{◌≡◌, ◌+◌, ◌++◌, ◌∙◌, ℕ, Bool, true, false, if◌then◌else◌, List, [], ◌∷◌, find, map, nat_lt, slice_get, Option, None, Some, refl, sym, ap, subst}
use Rattle.std.specs.Option.{option_or}
use Rattle.slab.specs.Slab.{Slab}
use Rattle.q_host.specs.View.{View as HostView}
use Rattle.q_link.specs.Records.{HopsView, Rests}
use Rattle.q_link.specs.Views.{View}
use Rattle.q_link.specs.WaitsLeft.{Spares, waits_sum}
use Rattle.q_model.specs.declared.outcome.Outcome.{Outcome}
use Rattle.q_model.specs.declared.outcome.SiteState.{SiteState}
use Rattle.q_agent.specs.Answers.{PollsNext}
use Rattle.q_agent.specs.NextPoll.{Ends, GoesOn}
use Rattle.q_agent.specs.Rests.{RestsOne, RestsWork}
use Rattle.q_agent.specs.Sessions.{OpenSession, Rises, Sessions, Work, inserted, next_polled, replaced, with_session, without}
use Rattle.q_agent.specs.Slots.{Holds, shown_at}
use Rattle.q_agent.specs.WaitsLeft.{listed_waits_left, polls_spent, waits_left, work_waits_left}
use Rattle.q_agent.specs.declared.delivery_session.DeliverySession.{DeliverySession}
use Rattle.q_agent.specs.declared.report.Report.{Report}
use Rattle.q_agent.specs.declared.slot.Slot.{Slot}
use Rattle.q_agent.proofs.Rising.{Around, around}
use Rattle.q_agent.proofs.SessionLaws.{replaced_at, without_at}
use Rattle.q_agent.proofs.Sparing.{spares_as, spares_both, spares_gone, spares_is, spares_same, sum_grouped, sum_swapped}

abbrev pub number_of : OpenSession → ℕ
number_of o = o.number

-- ---- one session, and the others

-- one of the listed, and those around it
listed_with : (front : List OpenSession) (o : OpenSession) (back : List OpenSession) → listed_waits_left (front ++ o ∷ back) ≡ waits_sum (work_waits_left o.work) (listed_waits_left (front ++ back))
listed_with [] o back = refl
listed_with (x ∷ front) o back =
    ap (waits_sum (work_waits_left x.work)) (listed_with front o back)
    ∙ sum_swapped (work_waits_left x.work) (work_waits_left o.work) (listed_waits_left (front ++ back))

abbrev others : Option ℕ → List OpenSession → List OpenSession → Option ℕ
others hops front back = waits_sum hops (listed_waits_left (front ++ back))

all_with : (hops : Option ℕ) (front : List OpenSession) (o : OpenSession) (back : List OpenSession) → waits_sum hops (listed_waits_left (front ++ o ∷ back)) ≡ waits_sum (work_waits_left o.work) (others hops front back)
all_with hops front o back =
    ap (waits_sum hops) (listed_with front o back)
    ∙ sum_swapped hops (work_waits_left o.work) (listed_waits_left (front ++ back))

-- one in the place of another
changes_one : (m : ℕ) (hops : Option ℕ) (front : List OpenSession) (o p : OpenSession) (back : List OpenSession) → Spares m (work_waits_left o.work) (work_waits_left p.work)
    → Spares m (waits_sum hops (listed_waits_left (front ++ o ∷ back))) (waits_sum hops (listed_waits_left (front ++ p ∷ back)))
changes_one m hops front o p back h =
    let rest = others hops front back in
    let sum : m + 0 ≡ m = omega arith in
    subst (λ (n : ℕ). Spares n (waits_sum hops (listed_waits_left (front ++ o ∷ back))) (waits_sum hops (listed_waits_left (front ++ p ∷ back)))) sum
    (spares_as (m + 0) (waits_sum (work_waits_left o.work) rest) (waits_sum (work_waits_left p.work) rest) _ _ (all_with hops front o back) (all_with hops front p back)
    (spares_both m 0 (work_waits_left o.work) (work_waits_left p.work) rest rest h (spares_same rest)))

-- one that goes
loses_one : (hops : Option ℕ) (front : List OpenSession) (o : OpenSession) (back : List OpenSession) → Spares 0 (waits_sum hops (listed_waits_left (front ++ o ∷ back))) (waits_sum hops (listed_waits_left (front ++ back)))
loses_one hops front o back =
    let rest = others hops front back in
    spares_as 0 (waits_sum (work_waits_left o.work) rest) rest _ _ (all_with hops front o back) refl (spares_gone (work_waits_left o.work) rest)

-- one that comes, wherever it stands
listed_inserted : (o : OpenSession) (os : List OpenSession) → listed_waits_left (inserted o os) ≡ waits_sum (work_waits_left o.work) (listed_waits_left os)
listed_inserted o [] = refl
listed_inserted o (p ∷ ps) = one (nat_lt o.number p.number) (listed_inserted o ps)
  where
    one : (b : Bool) → listed_waits_left (inserted o ps) ≡ waits_sum (work_waits_left o.work) (listed_waits_left ps)
        → listed_waits_left (if b then o ∷ p ∷ ps else p ∷ inserted o ps) ≡ waits_sum (work_waits_left o.work) (listed_waits_left (p ∷ ps))
    one true rest = refl
    one false rest =
        ap (waits_sum (work_waits_left p.work)) rest
        ∙ sum_swapped (work_waits_left p.work) (work_waits_left o.work) (listed_waits_left ps)

pub opens_spare : (hops next : HopsView) (old new : Sessions) (o : OpenSession) → new ≡ with_session o old → Spares 0 hops.waits_left (waits_sum next.waits_left (work_waits_left o.work))
    → Spares 0 (waits_left hops old) (waits_left next new)
opens_spare hops next old new o is h =
    let rest = listed_waits_left old.listed in
    let made = work_waits_left o.work in
    spares_as 0 (waits_sum hops.waits_left rest) (waits_sum (waits_sum next.waits_left made) rest) _ _ refl
    (ap (waits_left next) is ∙ ap (waits_sum next.waits_left) (listed_inserted o old.listed) ∙ sym (sum_grouped next.waits_left made rest))
    (spares_both 0 0 hops.waits_left (waits_sum next.waits_left made) rest rest h (spares_same rest))

-- ---- the session that is polled next

-- where it stands
record Stands (o : OpenSession) (os : List OpenSession) : Type 0 where
  front : List OpenSession
  back : List OpenSession
  parts : os ≡ front ++ o ∷ back

stands_found : (test : OpenSession → Bool) (os : List OpenSession) (o : OpenSession) → find test os ≡ Some o → Stands o os
stands_found test [] o is = absurd cc
stands_found test (x ∷ os) o is = by (test x) is (λ rest. stands_found test os o rest)
  where
    by : (b : Bool) → (if b then Some x else find test os) ≡ Some o → (find test os ≡ Some o → Stands o os) → Stands o (x ∷ os)
    by true first later = let same : x ≡ o = cc in record { front = []; back = os; parts = ap (λ (y : OpenSession). y ∷ os) same }
    by false first later =
        let s = later first in
        record { front = x ∷ s.front; back = s.back; parts = ap (λ (ys : List OpenSession). x ∷ ys) s.parts }

stands_first : (os : List OpenSession) (o : OpenSession) → slice_get os 0 ≡ Some o → Stands o os
stands_first [] o is = absurd cc
stands_first (x ∷ os) o is = let same : x ≡ o = cc in record { front = []; back = os; parts = ap (λ (y : OpenSession). y ∷ os) same }

stands_next : (s : Sessions) (o : OpenSession) → next_polled s ≡ Some o → Stands o s.listed
stands_next s o is = by (find (λ (p : OpenSession). nat_lt s.polled p.number) s.listed) refl is
  where
    by : (found : Option OpenSession) → find (λ (p : OpenSession). nat_lt s.polled p.number) s.listed ≡ found → option_or found (slice_get s.listed 0) ≡ Some o → Stands o s.listed
    by None none first = stands_first s.listed o first
    by (Some p) some same = stands_found (λ (q : OpenSession). nat_lt s.polled q.number) s.listed o (some ∙ same)

-- it goes on
goes_on_spares : (tells : Bool) (host : HostView) (now : ℕ) (w v : Option Work) → GoesOn tells host now w v → Spares 1 (work_waits_left w) (work_waits_left v)
goes_on_spares tells host now (Some w) (Some v) h = h.spares
goes_on_spares tells host now None v h = absurd h
goes_on_spares tells host now (Some w) None h = absurd h

-- or is over, and nothing changes for the links that are still to be opened
ends_waits : (tells : Bool) (host : HostView) (now : ℕ) (w : Option Work) (site : SiteState) (outcomes : List Outcome) (old new : HopsView) → Ends tells host now w site outcomes old new → new.waits_left ≡ old.waits_left
ends_waits tells host now None site outcomes old new h = ap (λ (x : HopsView). x.waits_left) h.1
ends_waits tells host now (Some w) site outcomes old new h = ap (λ (x : HopsView). x.waits_left) h.closes.1

around_one : (front : List OpenSession) (o : OpenSession) (back os : List OpenSession) → os ≡ front ++ o ∷ back → Rises (map number_of os) → Around number_of o.number front back
around_one front o back os parts rises = around number_of front o back (subst (λ (xs : List OpenSession). Rises (map number_of xs)) parts rises)

pub next_spares : (tells : Bool) (host : HostView) (now : ℕ) (hops next : HopsView) (found : Option OpenSession) (r : Option Report) (old new : Sessions) → Rises (map number_of old.listed) → next_polled old ≡ found
    → PollsNext tells host now hops next found r old new → Spares (polls_spent found r) (waits_left hops old) (waits_left next new)
next_spares tells host now hops next None None old new rises is h =
    spares_is (waits_left hops old) (waits_left next new) (ap (waits_left next) h.0 ∙ ap (λ (x : HopsView). waits_left x old) h.1)
next_spares tells host now hops next None (Some r) old new rises is h = absurd h
next_spares tells host now hops next (Some o) None old new rises is (p, working, made, same) =
    let s = stands_next old o is in
    let a = around_one s.front o s.back old.listed s.parts rises in
    let listed = ap (replaced p) s.parts ∙ replaced_at s.front o p s.back a working.same.number in
    spares_as 1 (waits_sum hops.waits_left (listed_waits_left (s.front ++ o ∷ s.back))) (waits_sum hops.waits_left (listed_waits_left (s.front ++ p ∷ s.back))) _ _
    (ap (λ (os : List OpenSession). waits_sum hops.waits_left (listed_waits_left os)) s.parts)
    (ap (λ (x : HopsView). waits_left x new) same ∙ ap (waits_left hops) made ∙ ap (λ (os : List OpenSession). waits_sum hops.waits_left (listed_waits_left os)) listed)
    (changes_one 1 hops.waits_left s.front o p s.back (goes_on_spares tells host now o.work p.work working.work))
next_spares tells host now hops next (Some o) (Some r) old new rises is (report, made) =
    let s = stands_next old o is in
    let a = around_one s.front o s.back old.listed s.parts rises in
    let listed = ap (without o.number) s.parts ∙ without_at s.front o s.back a in
    spares_as 0 (waits_sum hops.waits_left (listed_waits_left (s.front ++ o ∷ s.back))) (waits_sum hops.waits_left (listed_waits_left (s.front ++ s.back))) _ _
    (ap (λ (os : List OpenSession). waits_sum hops.waits_left (listed_waits_left os)) s.parts)
    (ap (λ (n : Option ℕ). waits_sum n (listed_waits_left new.listed)) (ends_waits tells host now o.work r.site r.outcomes hops next report.ends)
    ∙ ap (waits_left hops) made ∙ ap (λ (os : List OpenSession). waits_sum hops.waits_left (listed_waits_left os)) listed)
    (loses_one hops.waits_left s.front o s.back)

-- none is open
pub none_spares : (hops : HopsView) (s : Sessions) → s.listed ≡ [] → Spares (polls_spent (next_polled s) None) (waits_left hops s) (waits_left hops s)
none_spares hops s none =
    let next : next_polled s ≡ None = ap (λ (os : List OpenSession). next_polled (record { listed = os; polled = s.polled })) none in
    subst (λ (found : Option OpenSession). Spares (polls_spent found None) (waits_left hops s) (waits_left hops s)) (sym next) (spares_same (waits_left hops s))

module _ {L : Type 0} (view : L → View) where
  numbers_shown : (slab : Slab (DeliverySession L)) (es : List Slot) → map number_of (map (shown_at view slab) es) ≡ map (λ (e : Slot). e.number) es
  numbers_shown slab [] = refl
  numbers_shown slab (e ∷ es) = ap (λ (ns : List ℕ). e.number ∷ ns) (numbers_shown slab es)

  -- the numbers of an agent's sessions rise
  pub rises_shown : (slab : Slab (DeliverySession L)) (slots : List Slot) (polled : ℕ) (s : Sessions) → Holds view slab slots → record { listed = map (shown_at view slab) slots; polled = polled } ≡ s → Rises (map number_of s.listed)
  rises_shown slab slots polled s holds is =
      subst (λ (x : Sessions). Rises (map number_of x.listed)) is (subst Rises (sym (numbers_shown slab slots)) holds.rise)

-- ---- a rest

rested_waits : (w v : Option Work) → RestsWork w v → work_waits_left v ≡ work_waits_left w
rested_waits w v r = ap work_waits_left r.rest ∙ r.link_rested.waits_left ∙ sym (ap work_waits_left r.has)

pub rest_spares : (hops next : HopsView) (old new : Sessions) → RestsOne old new → Rests hops next → Spares 0 (waits_left hops old) (waits_left next new)
rest_spares hops next old new r counted =
    let same : next.waits_left ≡ hops.waits_left = ap (λ (x : HopsView). x.waits_left) counted.1 in
    spares_as 0 (waits_sum hops.waits_left (listed_waits_left (r.before ++ r.waited ∷ r.behind))) (waits_sum hops.waits_left (listed_waits_left (r.before ++ r.rested ∷ r.behind))) _ _
    (ap (λ (os : List OpenSession). waits_sum hops.waits_left (listed_waits_left os)) r.sessions)
    (ap (λ (n : Option ℕ). waits_sum n (listed_waits_left new.listed)) same ∙ ap (waits_left hops) r.rest)
    (changes_one 0 hops.waits_left r.before r.waited r.rested r.behind (spares_is (work_waits_left r.waited.work) (work_waits_left r.rested.work) (rested_waits r.waited.work r.rested.work r.session.work)))
