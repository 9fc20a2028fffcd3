-- Bytes between two places of a buffer, as they are sent.
use Rattle.std.proofs.Common.{◌≡◌, ℕ, ◌+◌, ◌-◌, ◌<◌, ◌≤◌, ◌≢◌, List, [], length, take, drop, sym, ap, ◌∙◌, arith, subst, inl, inr, length-take, length-drop}
use Rattle.std.proofs.lemmas.List.{drop-drop, drop-take}
use Rattle.q_link.specs.Reads.{Fails, Leaves, Rose, with_not_yet, with_sent}
use Rattle.q_link.specs.Views.{ForWrite, NoWait, View}
use Rattle.q_session.specs.Traffic.{Gave, GoesOn, Sends, Tells}
use Rattle.q_session.specs.declared.outbox.Sent.TheVariants as sent
use Rattle.q_session.proofs.Traffic.{gave_some, gave_then, goes_by_leaving, goes_then, tells_by_adding, tells_then}

-- those from one place up to another
pub window : (from to : ℕ) (bytes : List ℕ) → from ≤ to → take (to - from) (drop from bytes) ≡ drop from (take to bytes)
window from to bytes h =
    let e : from + (to - from) ≡ to = omega arith in
    sym (drop-take from (to - from) bytes) ∙ ap (λ (n : ℕ). drop from (take n bytes)) e

pub window_left : (from to : ℕ) (bytes : List ℕ) → from < to → to ≤ length bytes → drop from (take to bytes) ≢ []
window_left from to bytes h within none =
    let e = ap length none in
    omega (arith, e, length-drop from (take to bytes), length-take to bytes)

-- the front of a window went out
pub gives_on : (whole bytes : List ℕ) (from to n : ℕ) (u v w : View) → from ≤ to → n ≤ length (take (to - from) (drop from bytes)) → GoesOn u v
    → Tells (Gave whole (drop from (take to bytes)) 0) u v → Leaves NoWait (with_sent (take n (take (to - from) (drop from bytes)))) v w
    → (from + n ≤ to) × GoesOn u w × Tells (Gave whole (drop (from + n) (take to bytes)) 0) u w
gives_on whole bytes from to n u v w order few goes gave leaves =
    let mid = drop from (take to bytes) in
    let left = drop (from + n) (take to bytes) in
    let same : take (to - from) (drop from bytes) ≡ mid = window from to bytes order in
    let short : n ≤ to - from = omega (arith, length-take (to - from) (drop from bytes)) in
    let one : Tells (Gave mid (drop n mid) 0) v w = tells_by_adding (Gave mid (drop n mid) 0) (with_sent (take n mid)) v w
    (subst (λ (xs : List ℕ). Leaves NoWait (with_sent (take n xs)) v w) same leaves).told (gave_some mid n) in (
      omega arith,
      goes_then u v w goes (goes_by_leaving NoWait (with_sent (take n (take (to - from) (drop from bytes)))) v w leaves),
      subst (λ (xs : List ℕ). Tells (Gave whole xs 0) u w) (drop-drop n from (take to bytes)) (tells_then (Gave whole mid 0) (Gave mid (drop n mid) 0) (Gave whole (drop n mid) 0) u v w (gave_then whole mid (drop n mid) 0) gave one),
    )

-- the link isn't ready, with a window left
pub gives_no_more : (bytes : List ℕ) (from to : ℕ) (u v w : View) → from < to → to ≤ length bytes → GoesOn u v
    → Leaves ForWrite with_not_yet v w → Sends sent.NotYet (drop from (take to bytes)) u w
gives_no_more bytes from to u v w some within goes leaves =
    (goes_then u v w goes (goes_by_leaving ForWrite with_not_yet v w leaves), leaves.wait, window_left from to bytes some within)

-- a rise, from an earlier count
pub rose_since : {u v w : ℕ} → u ≤ v → Rose v w → Rose u w
rose_since h (inl more) = inl (omega (arith, h, more))
rose_since h (inr last) = inr last

-- the link failed, with a window left
pub gives_failed : (bytes : List ℕ) (from to : ℕ) (u v w : View) → from < to → to ≤ length bytes → GoesOn u v → Fails v w → Sends sent.Lost (drop from (take to bytes)) u w
gives_failed bytes from to u v w some within goes fails =
    (goes_then u v w goes (record { faults = fails.faults.0; ended = fails.ended }), rose_since goes.faults fails.faults.1, window_left from to bytes some within)
