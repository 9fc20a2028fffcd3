-- The first message at some rank, and what stands at places.
use Rattle.std.proofs.Common.{◌≡◌, ◌+◌, ◌^◌, ◌<◌, ap, arith, Bool, cond, false, List, [], ◌∷◌, map, None, Option, option_map, refl, Some, true, ℕ}
use Rattle.std.specs.Prelude.{◌&&◌, ◌==◌, find, min, nat_le, nat_lt}
use Rattle.q_model.specs.declared.id.Id.{Id}
use Rattle.q_pool.specs.Kept.{is_idle, may_read, unread_of, wants_sync}
use Rattle.q_pool.specs.Ranks.{AreRanked, message_at, passes_at, rank_of, value_of, values_of}
use Rattle.q_pool.specs.declared.kept.Kept.{Kept}
use Rattle.q_register.specs.Members.{no_rank, ranks_within}
use Rattle.q_register.specs.declared.member.Member.{Member}

abbrev pub E : Type 0
E = Member Id Kept

place_step : (p : Kept → Bool) (e : E) (rest : Option (Option E)) (found : Option Kept) → message_at rest ≡ found → (b : Bool) →
    message_at (cond b (Some (Some e)) rest) ≡ cond b (Some (value_of e)) found
place_step p e rest found h true = refl
place_step p e rest found h false = h

-- the first place with a message that passes has the first such message
pub found_at_place : (p : Kept → Bool) (places : List (Option E)) → message_at (find (passes_at p) places) ≡ find p (values_of places)
found_at_place p [] = refl
found_at_place p (None ∷ places) = found_at_place p places
found_at_place p (Some e ∷ places) = place_step p e (find (passes_at p) places) (find p (values_of places)) (found_at_place p places) (p (value_of e))

ranked_step : (b c : Bool) → b ≡ c → (e : E) (o : Option E) (found : Option Kept) → option_map value_of o ≡ found → option_map value_of (cond b (Some e) o) ≡ cond c (Some (value_of e)) found
ranked_step true true same e o found h = refl
ranked_step false false same e o found h = h
ranked_step true false same e o found h = cc
ranked_step false true same e o found h = cc

-- a member stands at the rank of its message
pub first_ranked : (l m rank : ℕ) (es : List E) → AreRanked l m es → option_map value_of (find (ranks_within rank) es) ≡ find (λ k. nat_le (rank_of l m k) rank) (map value_of es)
first_ranked l m rank [] h = refl
first_ranked l m rank (e ∷ es) h =
    ranked_step (nat_le e.rank rank) (nat_le (rank_of l m e.value) rank) (ap (λ r. nat_le r rank) h.0.rank) e (find (ranks_within rank) es) (find (λ k. nat_le (rank_of l m k) rank) (map value_of es)) (first_ranked l m rank es h.1)

alike_step : (b c : Bool) → b ≡ c → (k : Kept) (o o' : Option Kept) → o ≡ o' → cond b (Some k) o ≡ cond c (Some k) o'
alike_step true true same k o o' h = refl
alike_step false false same k o o' h = h
alike_step true false same k o o' h = cc
alike_step false true same k o o' h = cc

none_step : (b : Bool) (k : Kept) (o : Option Kept) → cond b (Some k) o ≡ None → (b ≡ false) × (o ≡ None)
none_step true k o h = cc
none_step false k o h = (refl, h)

-- where no message passes one test, two others find the same
pub first_as : (before q p : Kept → Bool) → ((k : Kept) → before k ≡ false → q k ≡ p k) → (ks : List Kept) → find before ks ≡ None → find q ks ≡ find p ks
first_as before q p alike [] none = refl
first_as before q p alike (k ∷ ks) none =
    let parts = none_step (before k) k (find before ks) none in
    alike_step (q k) (p k) (alike k parts.0) k (find q ks) (find p ks) (first_as before q p alike ks parts.1)

nothing_before : (ks : List Kept) → find (λ k. false) ks ≡ None
nothing_before [] = refl
nothing_before (k ∷ ks) = nothing_before ks

-- the rank by what a message has to do
abbrev rank_by : Bool → Bool → Bool → ℕ → ℕ
rank_by sync idle read n = cond sync (cond idle 1 0) (cond idle 2 (cond read (3 + n) no_rank))

sync_rank : (sync idle read : Bool) (n : ℕ) → nat_le (rank_by sync idle read n) 1 ≡ sync
sync_rank true true read n = refl
sync_rank true false read n = refl
sync_rank false true read n = refl
sync_rank false false true n = grind arith
sync_rank false false false n = refl

idle_rank : (sync idle read : Bool) (n : ℕ) → nat_le (rank_by sync idle read n) 0 ≡ false → nat_le (rank_by sync idle read n) 2 ≡ idle
idle_rank true true read n h = refl
idle_rank true false read n h = cc
idle_rank false true read n h = refl
idle_rank false false true n h = grind arith
idle_rank false false false n h = refl

read_rank : (sync idle some none : Bool) (n free : ℕ) → free < 2 ^ 32 → nat_le (rank_by sync idle (some && none) n) 2 ≡ false →
    nat_le (rank_by sync idle (some && none) n) (3 + free) ≡ (some && none && nat_le n free)
read_rank true true some none n free few h = cc
read_rank true false some none n free few h = cc
read_rank false true some none n free few h = cc
read_rank false false true true n free few h = grind arith
read_rank false false true false n free few h = grind arith
read_rank false false false none n free few h = grind arith

-- the first that wants a sync
pub first_sync : (l m : ℕ) (ks : List Kept) → find (λ k. nat_le (rank_of l m k) 1) ks ≡ find (wants_sync l) ks
first_sync l m ks = first_as (λ k. false) (λ k. nat_le (rank_of l m k) 1) (wants_sync l)
    (λ k none. sync_rank (wants_sync l k) (is_idle k) (nat_lt 0 (unread_of k.slot) && (k.waiting == 0)) (min m (unread_of k.slot))) ks (nothing_before ks)

-- the first idle one, where each that wants a sync is idle
pub first_idle_one : (l m : ℕ) (ks : List Kept) → find (λ k. nat_le (rank_of l m k) 0) ks ≡ None → find (λ k. nat_le (rank_of l m k) 2) ks ≡ find is_idle ks
first_idle_one l m ks none = first_as (λ k. nat_le (rank_of l m k) 0) (λ k. nat_le (rank_of l m k) 2) is_idle
    (λ k h. idle_rank (wants_sync l k) (is_idle k) (nat_lt 0 (unread_of k.slot) && (k.waiting == 0)) (min m (unread_of k.slot)) h) ks none

-- the first that may read, where none wants a sync or is idle
pub first_reader : (l m free : ℕ) → free < 2 ^ 32 → (ks : List Kept) → find (λ k. nat_le (rank_of l m k) 2) ks ≡ None → find (λ k. nat_le (rank_of l m k) (3 + free)) ks ≡ find (may_read m free) ks
first_reader l m free few ks none = first_as (λ k. nat_le (rank_of l m k) 2) (λ k. nat_le (rank_of l m k) (3 + free)) (may_read m free)
    (λ k h. read_rank (wants_sync l k) (is_idle k) (nat_lt 0 (unread_of k.slot)) (k.waiting == 0) (min m (unread_of k.slot)) free few h) ks none
