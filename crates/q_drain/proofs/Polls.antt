-- The open sessions of a drain from call to call, whatever host and hops tell.
use native.Mathlib.Omega.{arith}
use Rattle.std.proofs.Common.{◌≡◌, ◌≢◌, ◌≤◌, ◌<◌, ◌+◌, ◌-◌, inl, inr, ℕ, Bool, true, false, if◌then◌else◌, List, [], ◌∷◌, ◌++◌, find, length, map, not, Option, Some, None, refl, sym, ap, ◌∙◌, subst, ltb-true, eq-eqb}
use Rattle.std.proofs.lemmas.Bool.{lt-ltb, ltb-false, ne_eqb}
use Rattle.std.proofs.lemmas.List.{length-map}
use Rattle.std.proofs.lemmas.Option.{same_Some}
use Rattle.std.specs.List.{AllByRecursion, list_all, list_any}
use Rattle.std.specs.Option.{option_or}
use Rattle.std.specs.Prelude.{◌&&◌, ◌==◌, ◌||◌, nat_lt, slice_get}
use Rattle.q_agent.specs.Sessions.{OpenSession, Rises, Sessions, Work, after_end, after_poll, is_sweep_over, is_waiting, link_waits, next_polled, replaced, unpolled, with_session, without, inserted, work_waits}
use Rattle.q_agent.specs.Answers.{PollsNext}
use Rattle.q_agent.specs.NextPoll.{Ends, GoesOn, IsReportOf, IsWorking}
use Rattle.q_agent.specs.declared.report.Report.{Report}
use Rattle.q_drain.proofs.Concluding.{IsBeside, beside}
use Rattle.q_drain.proofs.Connecting.{AreUpTo, inserted_last, rises_more}
use Rattle.q_drain.proofs.Reports.{rises_without}
use Rattle.q_drain.proofs.Sessions.{replaced_numbers}
use Rattle.q_drain.specs.Polling.{AreBelow, AreInOrder, ComesOrWaits, IsPolling, KeepsSame}
use Rattle.q_drain.specs.Progress.{OpensUpTo}
use Rattle.q_host.specs.View.{View as HostView}
use Rattle.q_laws.proofs.Members.{IsIn, any_in, find_in, find_none}
use Rattle.q_link.specs.Records.{HopsView}
use Rattle.q_link.specs.Views.{NoWait, ForRead, ForWrite, Wait}
use Rattle.q_model.specs.declared.outcome.Outcome.{Outcome}
use Rattle.q_model.specs.declared.outcome.SiteState.{SiteState}

-- ---- the next session of a sweep

not_false : (b : Bool) → not b ≡ false → b ≡ true
not_false true h = refl
not_false false h = cc

-- where a sweep isn't over, a session is still to be polled
pub some_unpolled : (s : Sessions) → is_sweep_over s ≡ false → (o : OpenSession) × (unpolled s ≡ Some o)
some_unpolled s h = on (unpolled s) refl
  where
    on : (found : Option OpenSession) → find (λ (o : OpenSession). nat_lt s.polled o.number) s.listed ≡ found → (o : OpenSession) × (unpolled s ≡ Some o)
    on (Some o) is = (o, is)
    on None is =
        let one = any_in (λ (o : OpenSession). nat_lt s.polled o.number) s.listed (not_false (list_any (λ (o : OpenSession). nat_lt s.polled o.number) s.listed) h) in
        let none = find_none (λ (o : OpenSession). nat_lt s.polled o.number) one.0 s.listed is one.1 in
        let both : true ≡ false = sym one.2 ∙ none in
        cc

-- which is polled next
pub next_is : (s : Sessions) (o : OpenSession) → unpolled s ≡ Some o → next_polled s ≡ Some o
next_is s o h = ap (λ (found : Option OpenSession). option_or found (slice_get s.listed 0)) h

-- ---- waits

is_so : (w : Wait) → w ≢ NoWait → is_waiting w ≡ true
is_so NoWait h = absurd (h refl)
is_so ForRead h = refl
is_so ForWrite h = refl

-- a session that goes on waits
pub still_waits : (tells : Bool) (host : HostView) (now : ℕ) (o p : Option Work) → GoesOn tells host now o p → work_waits p ≡ true
still_waits tells host now (Some w) (Some v) h = is_so v.link.wait h.passes.0
still_waits tells host now None p h = absurd h
still_waits tells host now (Some w) None h = absurd h

-- ---- numbers

of_numbers : (P : ℕ → Type 0) (os : List OpenSession) → AllByRecursion P (map (λ (x : OpenSession). x.number) os) → AllByRecursion (λ (o : OpenSession). P o.number) os
of_numbers P [] h = tt
of_numbers P (o ∷ os) h = (h.0, of_numbers P os h.1)

numbers_of : (P : ℕ → Type 0) (os : List OpenSession) → AllByRecursion (λ (o : OpenSession). P o.number) os → AllByRecursion P (map (λ (x : OpenSession). x.number) os)
numbers_of P [] h = tt
numbers_of P (o ∷ os) h = (h.0, numbers_of P os h.1)

-- sessions of the same numbers
pub order_same : (os ps : List OpenSession) (number : ℕ) → map (λ (x : OpenSession). x.number) ps ≡ map (λ (x : OpenSession). x.number) os → AreInOrder os number → AreInOrder ps number
order_same os ps number same h = record {
  rises = subst Rises (sym same) h.rises;
  positive = of_numbers (λ k. 1 ≤ k) ps (subst (AllByRecursion (λ k. 1 ≤ k)) (sym same) (numbers_of (λ k. 1 ≤ k) os h.positive));
  below = of_numbers (λ k. k < number) ps (subst (AllByRecursion (λ k. k < number)) (sym same) (numbers_of (λ k. k < number) os h.below));
}

kept : (P : OpenSession → Type 0) (x : OpenSession) (xs : List OpenSession) (b : Bool) → P x → AllByRecursion P xs → AllByRecursion P (if b then x ∷ xs else xs)
kept P x xs true p h = (p, h)
kept P x xs false p h = h

all_without : (P : OpenSession → Type 0) (n : ℕ) (os : List OpenSession) → AllByRecursion P os → AllByRecursion P (without n os)
all_without P n [] h = tt
all_without P n (o ∷ os) h = kept P o (without n os) (not (o.number == n)) h.0 (all_without P n os h.1)

order_without : (n : ℕ) (os : List OpenSession) (number : ℕ) → AreInOrder os number → AreInOrder (without n os) number
order_without n os number h = record {
  rises = rises_without n os h.rises;
  positive = all_without (λ o. 1 ≤ o.number) n os h.positive;
  below = all_without (λ o. o.number < number) n os h.below;
}

in_below : (number : ℕ) (o : OpenSession) (os : List OpenSession) → AreBelow number os → IsIn o os → o.number < number
in_below number o [] below h = absurd h
in_below number o (x ∷ os) below (inl is) = subst (λ (y : OpenSession). y.number < number) is below.0
in_below number o (x ∷ os) below (inr h) = in_below number o os below.1 h

-- ---- a poll

-- those behind the one that was polled
waited_behind : (p : OpenSession) (os : List OpenSession) → link_waits p ≡ true → AllByRecursion (λ k. p.number < k) (map (λ (x : OpenSession). x.number) os) → AllByRecursion (ComesOrWaits p.number) (replaced p os)
waited_behind p [] waits above = tt
waited_behind p (x ∷ os) waits above = (one (x.number == p.number), waited_behind p os waits above.1)
  where
    one : (b : Bool) → ComesOrWaits p.number (if b then p else x)
    one true = inr waits
    one false = inl above.0

waited_first : (polled : ℕ) (x p o : OpenSession) (os : List OpenSession) (b : Bool) (found : Option OpenSession) → nat_lt polled x.number ≡ b → (if b then Some x else found) ≡ Some o → p.number ≡ o.number → link_waits p ≡ true → polled < o.number
    → AllByRecursion (λ k. x.number < k) (map (λ (y : OpenSession). y.number) os) → ComesOrWaits polled x
    → (found ≡ Some o → AllByRecursion (ComesOrWaits p.number) (replaced p os)) → AllByRecursion (ComesOrWaits p.number) (replaced p (x ∷ os))
waited_first polled x p o os true found is first number waits late above was rest =
    let same : x.number ≡ p.number = ap (λ (y : OpenSession). y.number) (same_Some x o first) ∙ sym number in (
      subst (λ (c : Bool). ComesOrWaits p.number (if c then p else x)) (sym (eq-eqb x.number p.number same)) (inr waits),
      waited_behind p os waits (subst (λ n. AllByRecursion (λ k. n < k) (map (λ (y : OpenSession). y.number) os)) same above),
    )
waited_first polled x p o os false found is first number waits late above was rest =
    let low : x.number ≤ polled = ltb-false polled x.number is in
    let other : (x.number == p.number) ≡ false = ne_eqb x.number p.number (λ e. omega (arith, low, late, number, e)) in
    (subst (λ (c : Bool). ComesOrWaits p.number (if c then p else x)) (sym other) (inr (waited_low polled x was low)), rest first)
  where
    waited_low : (polled : ℕ) (x : OpenSession) → ComesOrWaits polled x → x.number ≤ polled → link_waits x ≡ true
    waited_low polled x (inl late) low = absurd (omega (arith, late, low))
    waited_low polled x (inr h) low = h

waited_polled : (polled : ℕ) (o p : OpenSession) (os : List OpenSession) → p.number ≡ o.number → link_waits p ≡ true → polled < o.number
    → Rises (map (λ (x : OpenSession). x.number) os) → find (λ (q : OpenSession). nat_lt polled q.number) os ≡ Some o
    → AllByRecursion (ComesOrWaits polled) os → AllByRecursion (ComesOrWaits p.number) (replaced p os)
waited_polled polled o p [] number waits late rises first h = tt
waited_polled polled o p (x ∷ os) number waits late rises first h =
    waited_first polled x p o os (nat_lt polled x.number) (find (λ (q : OpenSession). nat_lt polled q.number) os) refl first number waits late rises.0 h.0
    (λ found. waited_polled polled o p os number waits late rises.1 found h.1)

-- the session that was polled goes on
pub polling_on : (s : Sessions) (number : ℕ) (o p : OpenSession) → unpolled s ≡ Some o → p.number ≡ o.number → link_waits p ≡ true → IsPolling s number → IsPolling (after_poll p s) number
polling_on s number o p first same waits h =
    let found = find_in (λ (q : OpenSession). nat_lt s.polled q.number) o s.listed first in
    let late : s.polled < o.number = ltb-true s.polled o.number found.1 in
    record {
      order = order_same s.listed (replaced p s.listed) number (replaced_numbers p s.listed) h.order;
      polled = subst (λ n. n < number) (sym same) (in_below number o s.listed h.order.below found.0);
      waited = waited_polled s.polled o p s.listed same waits late h.order.rises first h.waited;
    }

waited_beside : (polled number : ℕ) (os : List OpenSession) → AllByRecursion (ComesOrWaits polled) os → AllByRecursion (IsBeside polled number) os → AllByRecursion (ComesOrWaits number) os
waited_beside polled number [] h beside = tt
waited_beside polled number (x ∷ os) h beside = (one h.0 beside.0, waited_beside polled number os h.1 beside.1)
  where
    one : ComesOrWaits polled x → IsBeside polled number x → ComesOrWaits number x
    one was (inr late) = inl late
    one (inr waits) (inl low) = inr waits
    one (inl late) (inl low) = absurd (omega (arith, late, low))

-- it is over
pub polling_less : (s : Sessions) (number : ℕ) (o : OpenSession) → unpolled s ≡ Some o → IsPolling s number → IsPolling (after_end o s) number
polling_less s number o first h =
    let found = find_in (λ (q : OpenSession). nat_lt s.polled q.number) o s.listed first in
    record {
      order = order_without o.number s.listed number h.order;
      polled = in_below number o s.listed h.order.below found.0;
      waited = waited_beside s.polled o.number (without o.number s.listed) (all_without (ComesOrWaits s.polled) o.number s.listed h.waited) (beside s.polled o s.listed h.order.rises first);
    }

-- as many stay open
pub same_on : (busy : Bool) (known : ℕ) (s : Sessions) (p : OpenSession) → KeepsSame busy busy known known s (after_poll p s)
same_on busy known s p idle = (idle, refl, length-map s.listed (λ (x : OpenSession). if x.number == p.number then p else x))

pub same_then : (first was busy : Bool) (known mid last : ℕ) (s t u : Sessions) → KeepsSame first was known mid s t → KeepsSame was busy mid last t u → KeepsSame first busy known last s u
same_then first was busy known mid last s t u h k idle =
    let later = k idle in
    let before = h later.0 in
    (before.0, later.1 ∙ before.1, later.2 ∙ before.2)

-- and so it is where sessions were opened before
pub same_from : (was busy : Bool) (known opened last : ℕ) (s t u : Sessions) → nat_lt known opened ≡ was → known ≤ opened → OpensUpTo known opened s t → KeepsSame was busy opened last t u → KeepsSame false busy known last s u
same_from was busy known opened last s t u is rises opens k idle =
    let later = k idle in
    let low : opened ≤ known = ltb-false known opened (is ∙ later.0) in
    let kept = opens.kept in
    let listed = opens.listed in
    let on = later.1 in
    let count = later.2 in
    (refl, omega (arith, on, low, rises), omega (arith, count, kept, listed, low, rises))

-- one is open where one was
pub some_left : (s t : Sessions) → length t.listed ≡ length s.listed → s.listed ≢ [] → t.listed ≢ []
some_left s t same some = on s.listed some same
  where
    on : (os : List OpenSession) → os ≢ [] → length t.listed ≡ length os → t.listed ≢ []
    on [] h is = absurd (h refl)
    on (o ∷ os) h is = λ none. let none_left = ap length none in absurd (omega (arith, is, none_left))

-- ---- a session more

up_to : (n : ℕ) (os : List OpenSession) → AreBelow (n + 1) os → AreUpTo n os
up_to n [] h = tt
up_to n (o ∷ os) h = let low = h.0 in (omega (arith, low), up_to n os h.1)

all_end : (P Q : OpenSession → Type 0) (o : OpenSession) (os : List OpenSession) → ((x : OpenSession) → P x → Q x) → AllByRecursion P os → Q o → AllByRecursion Q (os ++ o ∷ [])
all_end P Q o [] more h q = (q, tt)
all_end P Q o (x ∷ os) more h q = (more x h.0, all_end P Q o os more h.1 q)

-- behind all others
order_more : (n : ℕ) (o : OpenSession) (os : List OpenSession) → o.number ≡ n + 1 → AreInOrder os (n + 1) → AreInOrder (os ++ o ∷ []) (n + 1 + 1)
order_more n o os is h = record {
  rises = rises_more n o os is (up_to n os h.below) h.rises;
  positive = all_end (λ x. 1 ≤ x.number) (λ x. 1 ≤ x.number) o os (λ x p. p) h.positive (omega (arith, is));
  below = all_end (λ x. x.number < n + 1) (λ x. x.number < n + 1 + 1) o os (λ x p. omega (arith, p)) h.below (omega (arith, is));
}

polling_by : (n polled : ℕ) (o : OpenSession) (os : List OpenSession) → o.number ≡ n + 1 → IsPolling (record { listed = os; polled = polled }) (n + 1) → IsPolling (record { listed = inserted o os; polled = polled }) (n + 1 + 1)
polling_by n polled o os is h =
    let low = h.polled in
    subst (λ (xs : List OpenSession). IsPolling (record { listed = xs; polled = polled }) (n + 1 + 1)) (sym (inserted_last n o os is (up_to n os h.order.below)))
    (record {
      order = order_more n o os is h.order;
      polled = omega (arith, low);
      waited = all_end (ComesOrWaits polled) (ComesOrWaits polled) o os (λ x p. p) h.waited (inl (omega (arith, low, is)));
    })

one_before : (number polled : ℕ) → polled < number → (n : ℕ) × (number ≡ n + 1)
one_before number polled low = (number - 1, omega (arith, low))

pub polling_more : (number : ℕ) (old new : Sessions) (o : OpenSession) → new ≡ with_session o old → o.number ≡ number → IsPolling old number → IsPolling new (number + 1)
polling_more number old new o made is h =
    let b = one_before number old.polled h.polled in
    subst (λ (s : Sessions). IsPolling s (number + 1)) (sym made)
    (subst (λ n. IsPolling (with_session o old) (n + 1)) (sym b.1) (polling_by b.0 old.polled o old.listed (is ∙ b.1) (subst (IsPolling old) b.1 h)))

-- and none was opened
pub polling_later : (number : ℕ) (s : Sessions) → IsPolling s number → IsPolling s (number + 1)
polling_later number s h =
    let low = h.polled in
    record {
      order = record { rises = h.order.rises; positive = h.order.positive; below = below_later number s.listed h.order.below };
      polled = omega (arith, low);
      waited = h.waited;
    }
  where
    below_later : (number : ℕ) (os : List OpenSession) → AreBelow number os → AreBelow (number + 1) os
    below_later number [] h = tt
    below_later number (o ∷ os) h = let low = h.0 in (omega (arith, low), below_later number os h.1)

-- ---- the end of a sweep

-- each session waits
pub all_wait : (s : Sessions) (number : ℕ) → is_sweep_over s ≡ true → IsPolling s number → list_all link_waits s.listed ≡ true
all_wait s number over h = on s.listed (not_true (list_any (λ (o : OpenSession). nat_lt s.polled o.number) s.listed) over) h.waited
  where
    not_true : (b : Bool) → not b ≡ true → b ≡ false
    not_true true h = cc
    not_true false h = refl

    on : (os : List OpenSession) → list_any (λ (o : OpenSession). nat_lt s.polled o.number) os ≡ false → AllByRecursion (ComesOrWaits s.polled) os → list_all link_waits os ≡ true
    on [] none h = refl
    on (x ∷ os) none h = by x os (nat_lt s.polled x.number) refl none h.0 (λ rest. on os rest h.1)
      where
        by : (x : OpenSession) (os : List OpenSession) (b : Bool) → nat_lt s.polled x.number ≡ b → (b || list_any (λ (o : OpenSession). nat_lt s.polled o.number) os) ≡ false → ComesOrWaits s.polled x
            → (list_any (λ (o : OpenSession). nat_lt s.polled o.number) os ≡ false → list_all link_waits os ≡ true) → (link_waits x && list_all link_waits os) ≡ true
        by x os true is none w rest = cc
        by x os false is none (inl late) rest = let t : true ≡ false = sym (lt-ltb s.polled x.number late) ∙ is in cc
        by x os false is none (inr waits) rest = ap (λ (b : Bool). b && list_all link_waits os) waits ∙ rest none

-- the next sweep begins
pub polling_anew : (os : List OpenSession) (number : ℕ) → 1 ≤ number → AreInOrder os number → IsPolling (record { listed = os; polled = 0 }) number
polling_anew os number some h = record { order = h; polled = omega (arith, some); waited = on os h.positive }
  where
    on : (os : List OpenSession) → AllByRecursion (λ (o : OpenSession). 1 ≤ o.number) os → AllByRecursion (ComesOrWaits 0) os
    on [] h = tt
    on (x ∷ os) h = let one = h.0 in (inl (omega (arith, one)), on os h.1)

-- ---- the answer of a sweep

-- where it isn't over, and a session is polled that goes on
pub polled_on : (tells : Bool) (host : HostView) (now : ℕ) (hops next : HopsView) (s new : Sessions) (o : OpenSession) → unpolled s ≡ Some o → PollsNext tells host now hops next (next_polled s) None s new
    → (p : OpenSession) × IsWorking tells host now o p × (new ≡ after_poll p s) × (next ≡ hops)
polled_on tells host now hops next s new o first h = subst (λ (found : Option OpenSession). PollsNext tells host now hops next found None s new) (next_is s o first) h

-- or is over
pub polled_over : (tells : Bool) (host : HostView) (now : ℕ) (hops next : HopsView) (s new : Sessions) (o : OpenSession) (r : Report) → unpolled s ≡ Some o → PollsNext tells host now hops next (next_polled s) (Some r) s new
    → IsReportOf tells host now o r hops next × (new ≡ after_end o s)
polled_over tells host now hops next s new o r first h = subst (λ (found : Option OpenSession). PollsNext tells host now hops next found (Some r) s new) (next_is s o first) h

-- no rest was given
ends_rests : (tells : Bool) (host : HostView) (now : ℕ) (work : Option Work) (site : SiteState) (outcomes : List Outcome) (old new : HopsView) → Ends tells host now work site outcomes old new → new.rests ≡ old.rests
ends_rests tells host now None site outcomes old new h = ap (λ (x : HopsView). x.rests) h.1
ends_rests tells host now (Some w) site outcomes old new h = ap (λ (x : HopsView). x.rests) h.closes.1

pub polled_rests : (tells : Bool) (host : HostView) (now : ℕ) (hops next : HopsView) (found : Option OpenSession) (r : Option Report) (s new : Sessions) → PollsNext tells host now hops next found r s new → next.rests ≡ hops.rests
polled_rests tells host now hops next None None s new h = ap (λ (x : HopsView). x.rests) h.1
polled_rests tells host now hops next None (Some r) s new h = absurd h
polled_rests tells host now hops next (Some o) None s new h = ap (λ (x : HopsView). x.rests) h.3
polled_rests tells host now hops next (Some o) (Some r) s new h = ends_rests tells host now o.work r.site r.outcomes hops next h.0.ends
