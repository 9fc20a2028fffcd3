-- How often links may still answer `NotYet`, through the sweeps of a drain.
use native.Mathlib.Omega.{arith}
use Rattle.std.proofs.Common.{◌≡◌, ◌≢◌, ◌≤◌, ◌<◌, ◌+◌, ◌∙◌, ℕ, Bool, true, false, List, [], ◌∷◌, Option, Some, None, not, refl, sym, ap, subst}
use Rattle.std.proofs.lemmas.Bool.{lt-ltb}
use Rattle.std.proofs.lemmas.Option.{same_Some}
use Rattle.std.specs.List.{AllByRecursion, list_any}
use Rattle.std.specs.Prelude.{◌||◌, nat_lt}
use Rattle.q_agent.proofs.Sparing.{spares_is, spares_less, spares_on, spares_still, spares_then, sum_none}
use Rattle.q_agent.proofs.WaitingLaws.{rest_spares}
use Rattle.q_agent.specs.Sessions.{OpenSession, Sessions, is_sweep_over, next_polled, unpolled}
use Rattle.q_agent.specs.WaitsLeft.{polls_spent, waits_left}
use Rattle.q_agent.specs.declared.report.Report.{Report}
use Rattle.q_drain.proofs.Polls.{next_is}
use Rattle.q_drain.specs.Drained.{RestsBehind}
use Rattle.q_drain.specs.Polling.{AreInOrder}
use Rattle.q_drain.specs.Waits.{idle}
use Rattle.q_link.specs.Records.{HopsView}
use Rattle.q_link.specs.WaitsLeft.{Spares}

-- ---- a poll of a session that this sweep hasn't polled

idle_few : (busy : Bool) → idle busy ≤ 1
idle_few true = omega arith
idle_few false = omega arith

module _ (agent : Sessions) (o : OpenSession) (first : unpolled agent ≡ Some o) (a b : Option ℕ) where
  -- it goes on
  pub on_spares : (busy : Bool) → Spares (polls_spent (next_polled agent) None) a b → Spares (idle busy) a b
  on_spares busy h =
      spares_less 1 (idle busy) a b (idle_few busy)
      (subst (λ (found : Option OpenSession). Spares (polls_spent found None) a b) (next_is agent o first) h)

  -- or is over, and sessions are opened behind it
  pub over_spares : (r : Report) (busy : Bool) (c : Option ℕ) → busy ≡ true → Spares (polls_spent (next_polled agent) (Some r)) a b → Spares 0 b c → Spares (idle busy) a c
  over_spares r busy c is h opens =
      subst (λ (x : Bool). Spares (idle x) a c) (sym is)
      (spares_on 0 a b c (subst (λ (found : Option OpenSession). Spares (polls_spent found (Some r)) a b) (next_is agent o first) h) opens)

-- ---- a sweep

-- where a session is open, a sweep that begins isn't over
pub not_over : (s : Sessions) (number : ℕ) → s.polled ≡ 0 → s.listed ≢ [] → AreInOrder s.listed number → is_sweep_over s ≡ false
not_over s number begins some h = on s.listed some h.positive
  where
    on : (os : List OpenSession) → os ≢ [] → AllByRecursion (λ (o : OpenSession). 1 ≤ o.number) os → not (list_any (λ (o : OpenSession). nat_lt s.polled o.number) os) ≡ false
    on [] none h = absurd (none refl)
    on (x ∷ os) one h =
        let late = h.0 in
        ap (λ (b : Bool). not (b || list_any (λ (o : OpenSession). nat_lt s.polled o.number) os)) (lt-ltb s.polled x.number (omega (arith, begins, late)))

-- ---- rests

pub none_spent : (hops : HopsView) (agent : Sessions) → agent ≡ record { listed = []; polled = 0 } → Spares 0 hops.waits_left (waits_left hops agent)
none_spent hops agent is = spares_is hops.waits_left (waits_left hops agent) (ap (waits_left hops) is ∙ sum_none hops.waits_left)

-- as many are spent as rests were given
pub given_spares : (b : Bool) (given rests more : ℕ) (agent new : Sessions) (hops rested : HopsView) (first before : Option ℕ) → Spares given first before → Spares (idle b) before (waits_left hops agent)
    → RestsBehind b given rests agent new hops rested (Some more) → Spares more first (waits_left rested new)
given_spares true given rests more agent new hops rested first before h k (is, kept, still) =
    subst (λ (n : ℕ). Spares n first (waits_left rested new)) (sym (same_Some more given is))
    (spares_still given first before (waits_left rested new) h
    (spares_still 0 before (waits_left hops agent) (waits_left rested new) k
    (spares_is (waits_left hops agent) (waits_left rested new) (ap (waits_left rested) kept ∙ ap (λ (x : HopsView). waits_left x agent) still))))
given_spares false given rests more agent new hops rested first before h k (is, within, one, counted) =
    subst (λ (n : ℕ). Spares n first (waits_left rested new)) (sym is)
    (spares_then given 1 first before (waits_left rested new) h
    (spares_still 1 before (waits_left hops agent) (waits_left rested new) k (rest_spares hops rested agent new one counted)))

-- and one more where another is needed
pub more_spent : (b : Bool) (given rests n : ℕ) (first before last : Option ℕ) → b ≡ false → given ≡ rests → first ≡ Some n → Spares given first before → Spares (idle b) before last → rests < n
more_spent b given rests n first before last is all known h k =
    let one = subst (λ (x : Bool). Spares (idle x) before last) is k in
    let (left, same, few) = subst (λ (x : Option ℕ). Spares (given + 1) x last) known (spares_then given 1 first before last h one) in
    omega (arith, few, all)
