-- Ranks that rise along an order, as a number comes and as one goes.
use Rattle.std.proofs.Common.{◌≡◌, ◌∙◌, ◌≢◌, ◌<◌, ◌≤◌, ◌-◌, ◌∷◌, ◌++◌, [], ap, arith, Bool, cond, false, get_or, get_or-set_other, get_or-set_same, inl, inr, length, List, Option, refl, set, Some, subst, suc, sym, true, ℕ}
use Rattle.std.proofs.lemmas.Bool.{eq-eqb}
use Rattle.std.specs.Prelude.{◌==◌, not, slice_get}
use Rattle.q_chains.specs.Laid.{Lacks}
use Rattle.q_chains.specs.Lists.{ahead_from, inserted, last_of, without}
use Rattle.q_chains.proofs.Numbers.{other_test}
use Rattle.q_chains.proofs.Places.{inserted_here, inserted_lacking, inserted_there, IsAmong, lacks_other, other_way}
use Rattle.q_ranks.specs.Ranking.{rank_of, RiseAbove}

pub rise_lower : (low rank : ℕ) (ranks ns : List ℕ) → low ≤ rank → RiseAbove rank ranks ns → RiseAbove low ranks ns
rise_lower low rank ranks [] h rise = tt
rise_lower low rank ranks (n ∷ ns) h rise = (omega (arith, h, rise.0), rise.1)

-- a number whose rank is no higher than all of these isn't one of them
pub rise_lacks : (p low : ℕ) (ranks ns : List ℕ) → get_or ranks p 0 ≤ low → RiseAbove low ranks ns → Lacks p ns
rise_lacks p low ranks [] h rise = tt
rise_lacks p low ranks (n ∷ ns) h rise =
    let differ : p ≢ n = λ e. let same : get_or ranks p 0 ≡ get_or ranks n 0 = ap (λ m. get_or ranks m 0) e in absurd (omega (arith, same, h, rise.0)) in
    (differ, rise_lacks p (get_or ranks n 0) ranks ns (omega (arith, h, rise.0)) rise.1)

-- the rank of one that isn't among them changes
other_rank : (n m r : ℕ) (ranks : List ℕ) → n ≢ m → get_or (set ranks n r) m 0 ≡ get_or ranks m 0
other_rank n m r ranks h = get_or-set_other ranks n m r 0 (other_way n m h)

-- a first one whose rank stays, with what comes behind it
rise_first : (low m : ℕ) (ranks changed ns : List ℕ) → get_or changed m 0 ≡ get_or ranks m 0 → low < get_or ranks m 0 → RiseAbove (get_or ranks m 0) changed ns → RiseAbove low changed (m ∷ ns)
rise_first low m ranks changed ns same h rise = (subst (λ (k : ℕ). low < k) (sym same) h, subst (λ (k : ℕ). RiseAbove k changed ns) (sym same) rise)

pub rise_kept : (low n r : ℕ) (ranks ns : List ℕ) → Lacks n ns → RiseAbove low ranks ns → RiseAbove low (set ranks n r) ns
rise_kept low n r ranks [] lacks rise = tt
rise_kept low n r ranks (m ∷ ns) lacks rise =
    rise_first low m ranks (set ranks n r) ns (other_rank n m r ranks lacks.0) rise.0 (rise_kept (get_or ranks m 0) n r ranks ns lacks.1 rise.1)

-- One goes.
gone_step : (low x : ℕ) (ranks ns : List ℕ) (t : Bool) → low < get_or ranks x 0 → RiseAbove (get_or ranks x 0) ranks ns → RiseAbove low ranks (cond (not t) (x ∷ ns) ns)
gone_step low x ranks ns true h rise = rise_lower low (get_or ranks x 0) ranks ns (omega (arith, h)) rise
gone_step low x ranks ns false h rise = (h, rise)

pub rise_without : (low n : ℕ) (ranks ns : List ℕ) → RiseAbove low ranks ns → RiseAbove low ranks (without n ns)
rise_without low n ranks [] rise = tt
rise_without low n ranks (x ∷ ns) rise = gone_step low x ranks (without n ns) (x == n) rise.0 (rise_without (get_or ranks x 0) n ranks ns rise.1)

-- One comes at the end: the highest rank is that of the last.
abbrev highest : ℕ → List ℕ → List ℕ → ℕ
highest low ranks [] = low
highest low ranks (n ∷ ns) = highest (get_or ranks n 0) ranks ns

highest_more : (low n : ℕ) (ranks ns : List ℕ) → highest low ranks (n ∷ ns) ≡ rank_of ranks (last_of (n ∷ ns))
highest_more low n ranks [] = refl
highest_more low n ranks (m ∷ ns) =
    let one : (suc (suc (length ns)) - 1) ≡ suc (length ns) = omega arith in
    let two : (suc (length ns) - 1) ≡ length ns = omega arith in
    highest_more (get_or ranks n 0) m ranks ns
    ∙ ap (λ k. rank_of ranks (slice_get (m ∷ ns) k)) two ∙ ap (λ k. rank_of ranks (slice_get (n ∷ m ∷ ns) k)) (sym one)

highest_is : (ranks ns : List ℕ) → highest 0 ranks ns ≡ rank_of ranks (last_of ns)
highest_is ranks [] = refl
highest_is ranks (n ∷ ns) = highest_more 0 n ranks ns

rise_ended : (low n r : ℕ) (ranks ns : List ℕ) → Lacks n ns → n < length ranks → highest low ranks ns < r → RiseAbove low ranks ns → RiseAbove low (set ranks n r) (ns ++ n ∷ [])
rise_ended low n r ranks [] lacks known h rise = (subst (λ (k : ℕ). low < k) (sym (get_or-set_same ranks n r 0 known)) h, tt)
rise_ended low n r ranks (m ∷ ns) lacks known h rise =
    rise_first low m ranks (set ranks n r) (ns ++ n ∷ []) (other_rank n m r ranks lacks.0) rise.0 (rise_ended (get_or ranks m 0) n r ranks ns lacks.1 known h rise.1)

pub rise_pushed : (n r : ℕ) (ranks ns : List ℕ) → Lacks n ns → n < length ranks → rank_of ranks (last_of ns) < r → RiseAbove 0 ranks ns → RiseAbove 0 (set ranks n r) (ns ++ n ∷ [])
rise_pushed n r ranks ns lacks known h rise = rise_ended 0 n r ranks ns lacks known (subst (λ (k : ℕ). k < r) (sym (highest_is ranks ns)) h) rise

-- One comes before another.
rise_here : (low n x r : ℕ) (ranks ns : List ℕ) → Lacks n (x ∷ ns) → n < length ranks → low < r → r < get_or ranks x 0 → RiseAbove (get_or ranks x 0) ranks ns → RiseAbove low (set ranks n r) (n ∷ x ∷ ns)
rise_here low n x r ranks ns lacks known h k rise =
    let own : get_or (set ranks n r) n 0 ≡ r = get_or-set_same ranks n r 0 known in
    let behind = rise_first r x ranks (set ranks n r) ns (other_rank n x r ranks lacks.0) k (rise_kept (get_or ranks x 0) n r ranks ns lacks.1 rise) in
    (subst (λ (q : ℕ). low < q) (sym own) h, subst (λ (q : ℕ). RiseAbove q (set ranks n r) (x ∷ ns)) (sym own) behind)

pub rise_inserted : (low n at r : ℕ) (ahead : Option ℕ) (ranks ns : List ℕ) → low ≡ rank_of ranks ahead → Lacks n ns → n < length ranks → IsAmong at ns → rank_of ranks (ahead_from ahead at ns) < r → r < get_or ranks at 0 → RiseAbove low ranks ns → RiseAbove low (set ranks n r) (inserted n at ns)
rise_inserted low n at r ahead ranks [] same lacks known i h k rise = absurd i
rise_inserted low n at r ahead ranks (x ∷ ns) same lacks known (inl e) h k rise =
    let rank : get_or ranks at 0 ≡ get_or ranks x 0 = ap (λ m. get_or ranks m 0) e in
    let once = inserted_lacking n at ns (rise_lacks at (get_or ranks x 0) ranks ns (omega (arith, rank)) rise.1) in
    let before : ahead_from ahead at (x ∷ ns) ≡ ahead = ap (λ t. cond t ahead (ahead_from (Some x) at ns)) (eq-eqb x at (sym e)) in
    let above : low < r = subst (λ (q : ℕ). q < r) (ap (rank_of ranks) before ∙ sym same) h in
    subst (RiseAbove low (set ranks n r)) (sym (inserted_here n at x ns e ∙ ap (λ ms. n ∷ x ∷ ms) once)) (rise_here low n x r ranks ns lacks known above (omega (arith, rank, k)) rise.1)
rise_inserted low n at r ahead ranks (x ∷ ns) same lacks known (inr i) h k rise =
    let other = lacks_other x at ns (rise_lacks x (get_or ranks x 0) ranks ns (omega arith) rise.1) i in
    let before : ahead_from ahead at (x ∷ ns) ≡ ahead_from (Some x) at ns = ap (λ t. cond t ahead (ahead_from (Some x) at ns)) (other_test x at other) in
    let above = subst (λ (q : ℕ). q < r) (ap (rank_of ranks) before) h in
    subst (RiseAbove low (set ranks n r)) (sym (inserted_there n at x ns (other_way x at other)))
    (rise_first low x ranks (set ranks n r) (inserted n at ns) (other_rank n x r ranks lacks.0) rise.0 (rise_inserted (get_or ranks x 0) n at r (Some x) ranks ns refl lacks.1 known i above k rise.1))

-- Ranks that a rising function gives to the places rise.
pub rise_by : (f : ℕ → ℕ) (low : ℕ) (ranks ns : List ℕ) → ((j : ℕ) → f j < f (suc j)) → low < f 0 → ((j : ℕ) → j < length ns → get_or ranks (get_or ns j 0) 0 ≡ f j) → RiseAbove low ranks ns
rise_by f low ranks [] up h led = tt
rise_by f low ranks (n ∷ ns) up h led =
    let first : get_or ranks n 0 ≡ f 0 = led 0 (omega arith) in (
      subst (λ (k : ℕ). low < k) (sym first) h,
      subst (λ (k : ℕ). RiseAbove k ranks ns) (sym first) (rise_by (λ j. f (suc j)) (f 0) ranks ns (λ j. up (suc j)) (up 0) (λ j k. led (suc j) (omega (arith, k)))),
    )
