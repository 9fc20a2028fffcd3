-- The sweeps of a drain, one after another, and how many of them every open session waited through.
use native.Mathlib.Omega.{arith}
use Rattle.std.proofs.Common.{◌≡◌, ◌≤◌, ◌+◌, ◌-◌, ◌*◌, ◌^◌, inl, inr, ℕ, Bool, true, false, if◌then◌else◌, List, [], ◌∷◌, ◌++◌, length, length-append, map, refl, sym, ap, ◌∙◌, append-nil, eq-eqb}
use Rattle.std.proofs.lemmas.Bool.{lt-ltb, ne_eqb}
use Rattle.std.proofs.lemmas.Grind.{flat_map-append}
use Rattle.std.proofs.lemmas.List.{map-append}
use Rattle.std.specs.List.{AllByRecursion}
use Rattle.std.specs.Prelude.{◌&&◌, nat_lt}
use Rattle.q_agent.specs.Sessions.{OpenSession}
use Rattle.q_drain.proofs.Adding.{begun_added, ended_added, moments_added}
use Rattle.q_drain.proofs.Ending.{all_begun}
use Rattle.q_drain.proofs.GivingUp.{none_after}
use Rattle.q_drain.proofs.Waiting.{done}
use Rattle.q_drain.specs.Driving.{Driving}
use Rattle.q_drain.specs.Sweeps.{IsClocked, rising}
use Rattle.q_drain.specs.Stories.{Story}
use Rattle.q_drain.specs.Told.{Begun, begun, begun_from, begun_of, ended, moment_after, moment_behind, moments_of}
use Rattle.q_drain.specs.Waited.{AreSweeps, IsSweep, MadeSweep, has_flight, is_silent, told_in, waiting_sweeps, waits_through}
use Rattle.q_link.specs.Views.{Told}
use Rattle.q_model.proofs.RunLaws.{after_all-append}
use Rattle.q_model.specs.declared.entry.Entry.{Entry}
use Rattle.q_model.specs.declared.entry.Entry.TheVariants as entries
use Rattle.q_model.specs.declared.rows.Delivery.{Delivery}
use Rattle.q_model.specs.Ledger.{Ledger}
use Rattle.q_model.specs.Settings.{World}
use Rattle.q_model.specs.Step.{after_all}

-- ---- what began and ended

one_begun : (t u : ℕ) (e : Entry) → length (begun_of t e) ≡ length (begun_of u e)
one_begun t u (entries.At now) = refl
one_begun t u entries.End = refl
one_begun t u (entries.Life generation mode) = refl
one_begun t u (entries.Arrive id sender to content) = refl
one_begun t u (entries.Reply number site os) = refl
one_begun t u (entries.Trigger kind) = refl
one_begun t u (entries.Start number id site positions) = refl
one_begun t u (entries.Back id) = refl
one_begun t u (entries.Admit id) = refl
one_begun t u (entries.Load id from to) = refl
one_begun t u (entries.Preempt child parent transport need) = refl
one_begun t u (entries.Skip id site positions) = refl
one_begun t u (entries.Log id failure) = refl
one_begun t u (entries.Mark id position) = refl
one_begun t u (entries.Sync id) = refl
one_begun t u (entries.Defer id due) = refl
one_begun t u (entries.Bounce id) = refl
one_begun t u (entries.Remove id) = refl
one_begun t u (entries.Corrupt id) = refl

-- as many begin, whatever the moment
begun_count : (t u : ℕ) (es : List Entry) → length (begun_from t es) ≡ length (begun_from u es)
begun_count t u [] = refl
begun_count t u (e ∷ es) =
    let first = one_begun t u e in
    let rest = begun_count (moment_behind t e) (moment_behind u e) es in
    let one = length-append (begun_of t e) (begun_from (moment_behind t e) es) in
    let other = length-append (begun_of u e) (begun_from (moment_behind u e) es) in
    omega (arith, first, rest, one, other)

-- what more entries began and ended
done_more : (s k : Story) (es : List Entry) → k.told ≡ s.told ++ es → done k ≡ done s + (length (begun es) + length (ended es))
done_more s k es told =
    let ends = ap (λ (xs : List Entry). length (ended xs)) told in
    let split = ap length (ended_added s.told es) in
    let sum = length-append (ended s.told) (ended es) in
    let begins = ap (λ (xs : List Entry). length (begun xs)) told in
    let parts = ap length (begun_added 0 s.told es) in
    let more = length-append (begun s.told) (begun_from (moment_after 0 s.told) es) in
    let same = begun_count (moment_after 0 s.told) 0 es in
    omega (arith, ends, split, sum, begins, parts, more, same)

fewer_begun : (s k : Story) (es : List Entry) → k.told ≡ s.told ++ es → length (begun s.told) ≤ length (begun k.told)
fewer_begun s k es told =
    let begins = ap (λ (xs : List Entry). length (begun xs)) told in
    let parts = ap length (begun_added 0 s.told es) in
    let more = length-append (begun s.told) (begun_from (moment_after 0 s.told) es) in
    omega (arith, begins, parts, more)

-- every delivery that has its session began, and is over where the session isn't open
done_open : (w : World) (l : Ledger) (Tells : Begun → Told → Type 0) (early : List Begun) (fs : List Delivery) (os : List OpenSession) (s : Story) → Driving w l Tells early [] fs os s → done s + length os ≡ 2 * length early
done_open w l Tells early fs os s d =
    let all = all_begun s early [] d.connected in
    let counted = d.opened.counted in
    omega (arith, all, counted)

-- A sweep is silent where none was opened and as many stay open, and else where less is left.
module _ (w : World) (l : Ledger) (Before Behind : Begun → Told → Type 0) (early later : List Begun) (fs gs : List Delivery) (os ps : List OpenSession) (s k : Story) (es : List Entry)
    (told : k.told ≡ s.told ++ es) (before : Driving w l Before early [] fs os s) (behind : Driving w l Behind later [] gs ps k) where
  pub silent_same : length later ≡ length early → length ps ≡ length os → is_silent es ≡ true
  silent_same opened stays =
      let first = done_open w l Before early fs os s before in
      let last = done_open w l Behind later gs ps k behind in
      let more = done_more s k es told in
      eq-eqb (length (begun es) + length (ended es)) 0 (omega (arith, first, last, more, opened, stays))

  pub silent_less : 2 * (2 ^ 64 - length later) + length ps + 1 ≤ 2 * (2 ^ 64 - length early) + length os → is_silent es ≡ false
  silent_less less =
      let first = done_open w l Before early fs os s before in
      let last = done_open w l Behind later gs ps k behind in
      let more = done_more s k es told in
      let all = all_begun s early [] before.connected in
      let most = all_begun k later [] behind.connected in
      let rises = fewer_begun s k es told in
      ne_eqb (length (begun es) + length (ended es)) 0 (λ none. omega (arith, first, last, more, all, most, rises, less, none))

-- ---- moments

some_after : (xs ys : List ℕ) → xs ++ ys ≡ xs → ys ≡ []
some_after xs [] h = refl
some_after xs (y ∷ ys) h =
    let count = ap length h in
    let sum = length-append xs (y ∷ ys) in
    absurd (omega (arith, count, sum))

-- what is told without a moment names none
pub no_more_moments : (s k : Story) (es : List Entry) → IsClocked s → IsClocked k → k.told ≡ s.told ++ es → k.moments ≡ s.moments → moments_of es ≡ []
no_more_moments s k es first last told same =
    some_after (moments_of s.told) (moments_of es) (sym (moments_added s.told es) ∙ ap moments_of (sym told) ∙ last ∙ ap rising same ∙ sym first)

-- and belongs to the sweep before it
pub line_on : (moment : ℕ) (es fs : List Entry) → IsSweep (record { moment = moment; told = es }) → moments_of fs ≡ [] → IsSweep (record { moment = moment; told = es ++ fs })
line_on moment es fs (rest, none, inl is) more =
    (rest ++ fs, moments_added rest fs ∙ ap (λ (xs : List ℕ). xs ++ moments_of fs) none ∙ more, inl (ap (λ (xs : List Entry). xs ++ fs) is))
line_on moment es fs (rest, none, inr is) more =
    (rest ++ fs, moments_added rest fs ∙ ap (λ (xs : List ℕ). xs ++ moments_of fs) none ∙ more, inr (ap (λ (xs : List Entry). xs ++ fs) is))

-- ---- sweep after sweep

told_more : (ps : List MadeSweep) (p : MadeSweep) → told_in (ps ++ p ∷ []) ≡ told_in ps ++ p.told
told_more ps p = flat_map-append (λ (q : MadeSweep). q.told) ps (p ∷ []) ∙ ap (λ (xs : List Entry). told_in ps ++ xs) (append-nil p.told)

each_more : (ps : List MadeSweep) (p : MadeSweep) → AllByRecursion IsSweep ps → IsSweep p → AllByRecursion IsSweep (ps ++ p ∷ [])
each_more [] p h one = (one, tt)
each_more (q ∷ ps) p h one = (h.0, each_more ps p h.1 one)

pub sweeps_none : (s : Story) → s.told ≡ [] → s.moments ≡ [] → AreSweeps s []
sweeps_none s told moments = record { told = told; moments = moments; each = tt }

pub sweeps_one_more : (s k : Story) (ps : List MadeSweep) (p : MadeSweep) → AreSweeps s ps → IsSweep p → k.told ≡ s.told ++ p.told → k.moments ≡ s.moments ++ p.moment ∷ [] → AreSweeps k (ps ++ p ∷ [])
sweeps_one_more s k ps p h one told moments = record {
  told = told ∙ ap (λ (xs : List Entry). xs ++ p.told) h.told ∙ sym (told_more ps p);
  moments = moments ∙ ap (λ (xs : List ℕ). xs ++ p.moment ∷ []) h.moments ∙ sym (map-append (λ (q : MadeSweep). q.moment) ps (p ∷ []));
  each = each_more ps p h.each one;
}

abbrev pub as_one : Bool → ℕ
as_one b = if b then 1 else 0

swap : (n : ℕ) → n + 0 ≡ 0 + n
swap n = omega arith

join_three : (a b c d : ℕ) → b ≡ c + d → a + b ≡ a + c + d
join_three a b c d h = omega (arith, h)

waiting_more : (w : World) (l : Ledger) (ps : List MadeSweep) (p : MadeSweep) → waiting_sweeps w l (ps ++ p ∷ []) ≡ waiting_sweeps w l ps + as_one (waits_through w (after_all w l (told_in ps)) p)
waiting_more w l [] p = swap (as_one (waits_through w l p)) ∙ ap (λ (k : Ledger). 0 + as_one (waits_through w k p)) (sym (none_after w l))
waiting_more w l (q ∷ ps) p =
    let rest = waiting_more w (after_all w l q.told) ps p in
    let join = ap (λ (k : Ledger). as_one (waits_through w k p)) (sym (after_all-append w l q.told (told_in ps))) in
    join_three (as_one (waits_through w l q)) (waiting_sweeps w (after_all w l q.told) (ps ++ p ∷ [])) (waiting_sweeps w (after_all w l q.told) ps) (as_one (waits_through w (after_all w l (told_in (q ∷ ps))) p))
    (rest ∙ ap (λ n. waiting_sweeps w (after_all w l q.told) ps + n) join)

-- the ledger behind it is that of what was told
behind_is : (w : World) (l : Ledger) (s k : Story) (ps : List MadeSweep) (p : MadeSweep) → AreSweeps s ps → k.told ≡ s.told ++ p.told → after_all w (after_all w l (told_in ps)) p.told ≡ after_all w l k.told
behind_is w l s k ps p h told = sym (after_all-append w l (told_in ps) p.told) ∙ ap (λ (xs : List Entry). after_all w l (xs ++ p.told)) (sym h.told) ∙ ap (after_all w l) (sym told)

some_flight : (l : Ledger) → (l.flights ≡ [] → ⊥) → has_flight l ≡ true
some_flight l some = on l.flights some
  where
    on : (fs : List Delivery) → (fs ≡ [] → ⊥) → nat_lt 0 (length fs) ≡ true
    on [] h = absurd (h refl)
    on (f ∷ fs) h = lt-ltb 0 (length (f ∷ fs)) (omega arith)

module _ (w : World) (l : Ledger) (s k : Story) (ps : List MadeSweep) (p : MadeSweep) (h : AreSweeps s ps) (told : k.told ≡ s.told ++ p.told) where
  -- in a silent sweep each open session waited, where there was one
  pub waited_more : is_silent p.told ≡ true → ((after_all w l k.told).flights ≡ [] → ⊥) → waiting_sweeps w l (ps ++ p ∷ []) ≡ waiting_sweeps w l ps + 1
  waited_more silent some =
      let all = waiting_more w l ps p in
      let flies = ap has_flight (behind_is w l s k ps p h told) ∙ some_flight (after_all w l k.told) some in
      let one : as_one (waits_through w (after_all w l (told_in ps)) p) ≡ 1 = ap as_one (ap (λ (b : Bool). b && has_flight (after_all w (after_all w l (told_in ps)) p.told)) silent ∙ flies) in
      omega (arith, all, one)

  -- not so where a delivery began or ended
  pub waited_same : is_silent p.told ≡ false → waiting_sweeps w l (ps ++ p ∷ []) ≡ waiting_sweeps w l ps
  waited_same loud =
      let all = waiting_more w l ps p in
      let one : as_one (waits_through w (after_all w l (told_in ps)) p) ≡ 0 = ap as_one (ap (λ (b : Bool). b && has_flight (after_all w (after_all w l (told_in ps)) p.told)) loud) in
      omega (arith, all, one)
