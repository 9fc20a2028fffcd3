-- Reads and writes of a link that follows a script are those of a link.
use Rattle.std.proofs.Common.{◌≡◌, ℕ, Bool, true, false, List, length, take, Option, None, refl, sym, subst, arith, inl, inr, take_all}
use Rattle.std.specs.Prelude.{if◌then◌else◌}
use Rattle.q_link.specs.declared.link.Put.TheVariants as put
use Rattle.q_link.specs.Records.{counted}
use Rattle.q_link.specs.Scripts.{WritePlan, is_named, write_answer}
use Rattle.q_link.specs.Reads.{Adds, Fails, Leaves, with_not_yet, with_received, with_sent}
use Rattle.q_link.specs.ScriptLinks.{IsSent, receives, sends, tells_no_more, waits}
use Rattle.q_link.proofs.Telling.{tells_map, tells_more}
use Rattle.q_link.specs.Views.{NoWait, Told, View, Wait}
use Rattle.q_link.specs.WaitsLeft.{Spares, waits_spent}

adds_none : (change : Told → Told) (old : Option Told) → Adds change old None
adds_none change old now is = cc

-- the same, with so many left
abbrev pub with_left : Option ℕ → View → View
with_left left v = record v { waits_left = left }

pub took : (v new : View) (bytes : List ℕ) → new ≡ with_left new.waits_left (receives bytes v) → Spares 0 v.waits_left new.waits_left → Leaves NoWait (with_received bytes) v new
took v new bytes is spared =
    subst (λ (w : View). Leaves NoWait (with_received bytes) v w) (sym is)
    (record { faults = refl; wait = refl; ended = refl; usage = refl; waits_left = spared; told = tells_map (with_received bytes) v.told })

pub waited : (v mid new : View) (wait : Wait) → new ≡ waits wait mid → mid ≡ with_left mid.waits_left v → Spares (waits_spent wait) v.waits_left mid.waits_left → Leaves wait with_not_yet v new
waited v mid new wait is same spared =
    subst (λ (w : View). Leaves wait with_not_yet v w) (sym is) (subst (λ (m : View). Leaves wait with_not_yet v (waits wait m)) (sym same)
    (record { faults = refl; wait = refl; ended = refl; usage = refl; waits_left = spared; told = tells_more (λ t. t.not_yets) with_not_yet v.told }))

sent_all : (v mid new : View) (bytes : List ℕ) → IsSent bytes mid new → mid ≡ with_left mid.waits_left v → Spares 0 v.waits_left mid.waits_left → Leaves NoWait (with_sent bytes) v new
sent_all v mid new bytes (inl is) same spared =
    subst (λ (w : View). Leaves NoWait (with_sent bytes) v w) (sym is) (subst (λ (m : View). Leaves NoWait (with_sent bytes) v (sends bytes m)) (sym same)
    (record { faults = refl; wait = refl; ended = refl; usage = refl; waits_left = spared; told = tells_map (with_sent bytes) v.told }))
sent_all v mid new bytes (inr is) same spared =
    subst (λ (w : View). Leaves NoWait (with_sent bytes) v w) (sym is) (subst (λ (m : View). Leaves NoWait (with_sent bytes) v (tells_no_more (sends bytes m))) (sym same)
    (record { faults = refl; wait = refl; ended = refl; usage = refl; waits_left = spared; told = adds_none (with_sent bytes) v.told }))

pub gave : (v mid new : View) (bytes : List ℕ) (n : ℕ) → n ≡ length bytes → IsSent bytes mid new → mid ≡ with_left mid.waits_left v → Spares 0 v.waits_left mid.waits_left → Leaves NoWait (with_sent (take n bytes)) v new
gave v mid new bytes n all is same spared =
    subst (λ (b : List ℕ). Leaves NoWait (with_sent b) v new) (sym (take_all n bytes (omega (arith, all)))) (sent_all v mid new bytes is same spared)

-- a write that takes bytes takes all
pub whole : (plan : WritePlan) (n count : ℕ) → put.Gave count ≡ write_answer plan n → count ≡ n
whole plan n count is = by_tests (is_named plan.failing (counted plan.calls 1)) (is_named plan.not_yet (counted plan.calls 1)) is
  where
    by_tests : (failing waiting : Bool) → put.Gave count ≡ (if failing then put.Failed else if waiting then put.NotYet else put.Gave n) → count ≡ n
    by_tests true waiting e = cc
    by_tests false true e = cc
    by_tests false false e = cc

-- a failure, from what was known before the answer
pub fails_since : (old was new : View) → Fails old new → old ≡ with_left old.waits_left was → Fails was new
fails_since old was new h same =
    let since = subst (λ (v : View). Fails v new) same h in
    record { faults = since.faults; wait = since.wait; ended = since.ended; usage = since.usage; told = since.told }
