-- How much is left of a drain, call by call.
use native.Mathlib.Omega.{arith}
use Rattle.std.proofs.Common.{suc, ◌≡◌, ◌≤◌, ◌<◌, ◌+◌, ◌*◌, ◌-◌, ◌^◌, inl, inr, ℕ, Bool, true, false, cond, if◌then◌else◌, List, [], ◌∷◌, ◌++◌, filter, find, length, map, not, Option, Some, None, refl, sym, ap, ◌∙◌, subst, ltb-true, eq-eqb}
use Rattle.std.proofs.lemmas.Bool.{lt-ltb, ltb-false}
use Rattle.std.proofs.lemmas.Option.{same_Some}
use Rattle.std.proofs.lemmas.List.{length-map}
use Rattle.std.specs.List.{count_by}
use Rattle.std.specs.Prelude.{◌==◌, nat_lt}
use Rattle.q_agent.specs.Answers.{PollsNext}
use Rattle.q_agent.specs.Rests.{RestsOne}
use Rattle.q_agent.specs.Sessions.{OpenSession, Sessions, after_end, after_poll, inserted, next_polled, replaced, unpolled, with_session, without}
use Rattle.q_agent.specs.declared.report.Report.{Report}
use Rattle.q_core.proofs.CountLaws.{counted_step}
use Rattle.q_drain.proofs.Polls.{polled_on, polled_over}
use Rattle.q_drain.proofs.Sessions.{replaced_numbers}
use Rattle.q_drain.specs.Drained.{RestsBehind}
use Rattle.q_drain.specs.Progress.{LeavesLess, OpensBy, OpensUpTo, polls_left, unpolled_count, work_left}
use Rattle.q_drain.specs.Waits.{idle}
use Rattle.q_host.specs.View.{View as HostView}
use Rattle.q_model.specs.declared.rows.Delivery.{Delivery}
use Rattle.q_laws.proofs.Members.{IsIn, find_in, in_map}
use Rattle.q_link.specs.Records.{HopsView}

abbrev numbers : List OpenSession → List ℕ
numbers os = map (λ (o : OpenSession). o.number) os

-- ---- a session more

inserted_more : (o : OpenSession) (os : List OpenSession) → length (inserted o os) ≡ length os + 1
inserted_more o [] = refl
inserted_more o (p ∷ ps) = one (nat_lt o.number p.number) (inserted_more o ps)
  where
    one : (b : Bool) → length (inserted o ps) ≡ length ps + 1 → length (if b then o ∷ p ∷ ps else p ∷ inserted o ps) ≡ length (p ∷ ps) + 1
    one true rest = omega arith
    one false rest = omega (arith, rest)

bit_few : (b : Bool) → cond b 1 0 ≤ 1
bit_few true = omega arith
bit_few false = omega arith

inserted_counts : (f : ℕ → Bool) (o : OpenSession) (os : List OpenSession) → count_by f (numbers (inserted o os)) ≤ count_by f (numbers os) + 1
inserted_counts f o [] =
    let one = counted_step f o.number [] in
    let few = bit_few (f o.number) in
    omega (arith, one, few)
inserted_counts f o (p ∷ ps) = one (nat_lt o.number p.number) (inserted_counts f o ps)
  where
    one : (b : Bool) → count_by f (numbers (inserted o ps)) ≤ count_by f (numbers ps) + 1 → count_by f (numbers (if b then o ∷ p ∷ ps else p ∷ inserted o ps)) ≤ count_by f (numbers (p ∷ ps)) + 1
    one true rest =
        let more = counted_step f o.number (numbers (p ∷ ps)) in
        let few = bit_few (f o.number) in
        omega (arith, more, few)
    one false rest =
        let first = counted_step f p.number (numbers (inserted o ps)) in
        let second = counted_step f p.number (numbers ps) in
        omega (arith, first, second, rest)

-- none more up to the same number
pub opens_none : (known : ℕ) (s : Sessions) → OpensUpTo known known s s
opens_none known s = record { kept = omega arith; listed = omega arith; unpolled = omega arith }

-- one more under the next
pub opens_more : (known last : ℕ) (old mid new : Sessions) (o : OpenSession) → new ≡ with_session o mid → OpensUpTo known last old mid → OpensUpTo known (last + 1) old new
opens_more known last old mid new o is h =
    let kept = h.kept in
    let listed = h.listed in
    let unpolled = h.unpolled in
    let more = inserted_more o mid.listed in
    let counts = inserted_counts (nat_lt mid.polled) o mid.listed in
    subst (OpensUpTo known (last + 1) old) (sym is) (record { kept = omega (arith, kept, more); listed = omega (arith, listed, more); unpolled = omega (arith, unpolled, counts) })

-- one more at most under the next
pub opens_by : (known last : ℕ) (old mid new : Sessions) (o : Option Delivery) → OpensBy o mid new → OpensUpTo known last old mid → OpensUpTo known (last + 1) old new
opens_by known last old mid new None is h =
    let listed = h.listed in
    let unpolled = h.unpolled in
    subst (OpensUpTo known (last + 1) old) (sym is) (record { kept = h.kept; listed = omega (arith, listed); unpolled = omega (arith, unpolled) })
opens_by known last old mid new (Some f) (o, is) h = opens_more known last old mid new o is h

-- ---- a poll

-- a number that was polled is passed
late_bit : (polled n m : ℕ) → polled < n → cond (nat_lt n m) 1 0 ≤ cond (nat_lt polled m) 1 0
late_bit polled n m late = one (nat_lt n m) (nat_lt polled m) refl refl
  where
    one : (b c : Bool) → nat_lt n m ≡ b → nat_lt polled m ≡ c → cond b 1 0 ≤ cond c 1 0
    one false true is at = omega arith
    one false false is at = omega arith
    one true true is at = omega arith
    one true false is at =
        let above : n < m = ltb-true n m is in
        let below : m ≤ polled = ltb-false polled m at in
        absurd (omega (arith, above, below, late))

own_bit : (polled n m : ℕ) → polled < n → m ≡ n → cond (nat_lt n m) 1 0 + 1 ≤ cond (nat_lt polled m) 1 0
own_bit polled n m late is = one (nat_lt n m) (nat_lt polled m) refl refl
  where
    one : (b c : Bool) → nat_lt n m ≡ b → nat_lt polled m ≡ c → cond b 1 0 + 1 ≤ cond c 1 0
    one false true itself at = omega arith
    one true c itself at = let above : n < m = ltb-true n m itself in absurd (omega (arith, above, is))
    one false false itself at = let below : m ≤ polled = ltb-false polled m at in absurd (omega (arith, below, is, late))

fewer_above : (polled n : ℕ) (ns : List ℕ) → polled < n → count_by (nat_lt n) ns ≤ count_by (nat_lt polled) ns
fewer_above polled n [] late = omega arith
fewer_above polled n (m ∷ ms) late =
    let above = counted_step (nat_lt n) m ms in
    let all = counted_step (nat_lt polled) m ms in
    let one = late_bit polled n m late in
    let rest = fewer_above polled n ms late in
    omega (arith, above, all, one, rest)

passed : (polled n : ℕ) (ns : List ℕ) → polled < n → IsIn n ns → count_by (nat_lt n) ns + 1 ≤ count_by (nat_lt polled) ns
passed polled n [] late h = absurd h
passed polled n (m ∷ ms) late (inl is) =
    let above = counted_step (nat_lt n) m ms in
    let all = counted_step (nat_lt polled) m ms in
    let one = own_bit polled n m late is in
    let rest = fewer_above polled n ms late in
    omega (arith, above, all, one, rest)
passed polled n (m ∷ ms) late (inr h) =
    let above = counted_step (nat_lt n) m ms in
    let all = counted_step (nat_lt polled) m ms in
    let one = late_bit polled n m late in
    let rest = passed polled n ms late h in
    omega (arith, above, all, one, rest)

-- the session that is polled next
first_late : (s : Sessions) (o : OpenSession) → unpolled s ≡ Some o → (s.polled < o.number) × IsIn o.number (numbers s.listed)
first_late s o first =
    let there = find_in (λ (p : OpenSession). nat_lt s.polled p.number) o s.listed first in
    (ltb-true s.polled o.number there.1, in_map (λ (p : OpenSession). p.number) o s.listed there.0)

less_counted : (f : ℕ → Bool) (n : ℕ) (os : List OpenSession) → count_by f (numbers (without n os)) ≤ count_by f (numbers os)
less_counted f n [] = omega arith
less_counted f n (o ∷ os) = one (not (o.number == n)) (less_counted f n os) (counted_step f o.number (numbers os))
  where
    one : (b : Bool) → count_by f (numbers (without n os)) ≤ count_by f (numbers os) → count_by f (numbers (o ∷ os)) ≡ cond (f o.number) 1 0 + count_by f (numbers os)
        → count_by f (numbers (cond b (o ∷ without n os) (without n os))) ≤ count_by f (numbers (o ∷ os))
    one true rest all = let first = counted_step f o.number (numbers (without n os)) in omega (arith, first, rest, all)
    one false rest all = omega (arith, rest, all)

shorter : (n : ℕ) (os : List OpenSession) → length (without n os) ≤ length os
shorter n [] = omega arith
shorter n (o ∷ os) = one (not (o.number == n)) (shorter n os)
  where
    one : (b : Bool) → length (without n os) ≤ length os → length (cond b (o ∷ without n os) (without n os)) ≤ length (o ∷ os)
    one true rest = omega (arith, rest)
    one false rest = omega (arith, rest)

one_gone : (n : ℕ) (os : List OpenSession) → IsIn n (numbers os) → length (without n os) + 1 ≤ length os
one_gone n [] h = absurd h
one_gone n (o ∷ os) (inl is) =
    let gone = ap (λ (b : Bool). length (cond (not b) (o ∷ without n os) (without n os))) (eq-eqb o.number n is) in
    let rest = shorter n os in
    omega (arith, gone, rest)
one_gone n (o ∷ os) (inr h) = one (not (o.number == n)) (one_gone n os h)
  where
    one : (b : Bool) → length (without n os) + 1 ≤ length os → length (cond b (o ∷ without n os) (without n os)) + 1 ≤ length (o ∷ os)
    one true rest = omega (arith, rest)
    one false rest = omega (arith, rest)

idle_few : (b : Bool) → idle b ≤ 1
idle_few true = omega arith
idle_few false = omega arith

-- a session that goes on is passed in this sweep
module _ (tells : Bool) (u : HostView) (now : ℕ) (hops next : HopsView) (agent new : Sessions) (o : OpenSession) (first : unpolled agent ≡ Some o) where
  pub passes_one : (known : ℕ) → PollsNext tells u now hops next (next_polled agent) None agent new → polls_left known new < polls_left known agent
  passes_one known polled =
      let (p, working, is, same) = polled_on tells u now hops next agent new o first polled in
      let (late, there) = first_late agent o first in
      let number : p.number ≡ o.number = working.same.number in
      let fewer = passed agent.polled p.number (numbers agent.listed) (omega (arith, late, number)) (subst (λ n. IsIn n (numbers agent.listed)) (sym number) there) in
      let count : unpolled_count new ≡ count_by (nat_lt p.number) (numbers agent.listed) = ap unpolled_count is ∙ ap (count_by (nat_lt p.number)) (replaced_numbers p agent.listed) in
      omega (arith, fewer, count)

  pub leaves_same : (known : ℕ) (busy : Bool) → PollsNext tells u now hops next (next_polled agent) None agent new → LeavesLess busy busy (work_left known agent) (work_left known new)
  leaves_same known busy polled =
      let (p, working, is, same) = polled_on tells u now hops next agent new o first polled in
      let count : length new.listed ≡ length agent.listed = ap (λ (n : Sessions). length n.listed) is ∙ length-map agent.listed (λ (x : OpenSession). if x.number == p.number then p else x) in
      omega (arith, count)

-- one that is over is gone, and sessions are opened behind it
module _ (tells : Bool) (u : HostView) (now : ℕ) (hops next : HopsView) (agent mid new : Sessions) (o : OpenSession) (r : Report) (first : unpolled agent ≡ Some o) (known last : ℕ)
    (polled : PollsNext tells u now hops next (next_polled agent) (Some r) agent mid) (rises : known ≤ last) (within : last < 2 ^ 64) (opens : OpensUpTo known last mid new) where
  pub ends_one : polls_left last new < polls_left known agent
  ends_one =
      let is = (polled_over tells u now hops next agent mid o r first polled).1 in
      let (late, there) = first_late agent o first in
      let gone = less_counted (nat_lt o.number) o.number agent.listed in
      let fewer = passed agent.polled o.number (numbers agent.listed) late there in
      let count : unpolled_count mid ≡ count_by (nat_lt o.number) (numbers (without o.number agent.listed)) = ap unpolled_count is in
      let more = opens.unpolled in
      omega (arith, gone, fewer, count, more, rises, within)

  pub leaves_less : (was : Bool) → LeavesLess was true (work_left known agent) (work_left last new)
  leaves_less was =
      let is = (polled_over tells u now hops next agent mid o r first polled).1 in
      let gone = one_gone o.number agent.listed (first_late agent o first).1 in
      let count : length mid.listed ≡ length (without o.number agent.listed) = ap (λ (n : Sessions). length n.listed) is in
      let more = opens.listed in
      let few = idle_few was in
      omega (arith, gone, count, more, few, rises, within)

-- ---- sweeps

pub left_then : (was mid busy : Bool) (old between new : ℕ) → LeavesLess was mid old between → LeavesLess mid busy between new → LeavesLess was busy old new
left_then was mid busy old between new h k = omega (arith, h, k)

-- the sessions that are opened first
pub left_first : (known last : ℕ) (old new : Sessions) → known ≤ last → last < 2 ^ 64 → OpensUpTo known last old new → LeavesLess false (nat_lt known last) (work_left known old) (work_left last new)
left_first known last old new rises within opens = one (nat_lt known last) refl
  where
    one : (b : Bool) → nat_lt known last ≡ b → LeavesLess false b (work_left known old) (work_left last new)
    one true is = let more = opens.listed in let late : known < last = ltb-true known last is in omega (arith, more, late, within)
    one false is = let more = opens.listed in omega (arith, more, rises, within)

-- and the rest behind a sweep that did nothing
pub left_behind : (b : Bool) (given rests more known before : ℕ) (agent new : Sessions) (hops rested : HopsView) → given ≤ rests → LeavesLess false b before (work_left known agent)
    → RestsBehind b given rests agent new hops rested (Some more) → work_left known new + (rests - more) < before + (rests - given)
left_behind true given rests more known before agent new hops rested few less h =
    let same = same_Some more given h.0 in
    let kept : length new.listed ≡ length agent.listed = ap (λ (s : Sessions). length s.listed) h.1 in
    omega (arith, few, less, same, kept)
left_behind false given rests more known before agent new hops rested few less h =
    let one = h.0 in
    let within = h.1 in
    let kept = rested_length agent new h.2 in
    omega (arith, few, less, one, within, kept)
  where
    same_length : (before behind : List OpenSession) (o p : OpenSession) → length (before ++ p ∷ behind) ≡ length (before ++ o ∷ behind)
    same_length [] behind o p = refl
    same_length (x ∷ before) behind o p = ap suc (same_length before behind o p)

    rested_length : (old next : Sessions) → RestsOne old next → length next.listed ≡ length old.listed
    rested_length old next r =
        ap (λ (s : Sessions). length s.listed) r.rest ∙ same_length r.before r.behind r.waited r.rested ∙ ap length (sym r.sessions)
