-- From what a call noted to what the host tells.
use Rattle.std.proofs.Common.{◌≡◌, inl, ℕ, ◌≤◌, ◌+◌, List, [], ◌∷◌, ◌++◌, length, take, drop, Option, Some, None, refl, sym, ◌∙◌, ap, subst, arith, true≢false, take-append-drop, append-nil}
use Rattle.std.specs.Option.{option_map, IsSome, IsSomeAnd}
use Rattle.q_model.specs.declared.spot.Area.{Area}
use Rattle.q_host.specs.Files.{written}
use Rattle.q_host.specs.View.{Remains, View}
use Rattle.q_host.specs.Steps.{Tear, TornBytes}
use Rattle.q_host.specs.Calls.{Writes, Syncs}
use Rattle.q_host.proofs.Puts.{put-same}
use Rattle.q_mem_host.specs.Kept.{Kept}
use Rattle.q_mem_host.specs.Event.{Event, host_state_of, write, sync}
use Rattle.q_mem_host.specs.Left.{IsLeft, MayLeave, read_of, files_of, view_of}
use Rattle.q_mem_host.proofs.Effects.{synced, wrote}

-- a relation of views after a history that is known
pub at_history : (R : View → View → Type 0) (h g k : List Event) → g ≡ k → R (view_of h) (view_of k) → R (view_of h) (view_of g)
at_history R h g k e r = subst (λ (l : List Event). R (view_of h) (view_of l)) (sym e) r

found : (o : Option Kept) → IsSome (read_of o) → (k : Kept) × (o ≡ Some k)
found (Some k) h = (k, refl)
found None h = absurd (true≢false (sym h))

reaches : (o : Option Kept) (at : ℕ) → IsSomeAnd (read_of o) (λ file. at ≤ length file) → (k : Kept) × (o ≡ Some k) × (at ≤ length k.bytes)
reaches (Some k) at h = (k, refl, h)
reaches None at h = absurd h

pub synced_now : (h : List Event) (a : Area) (n : List ℕ) → IsSome (files_of (host_state_of h).disk a n) → Syncs a n (view_of h) (view_of (h ++ sync a n ∷ []))
synced_now h a n some = let k = found ((host_state_of h).disk a n) some in synced h a n k.0 k.1

pub wrote_now : (h : List Event) (a : Area) (n : List ℕ) (at : ℕ) (over : List ℕ) → IsSomeAnd (files_of (host_state_of h).disk a n) (λ file. at ≤ length file)
    → Writes a n at over (length over) (view_of h) (view_of (h ++ write a n at over ∷ []))
wrote_now h a n at over some = let k = reaches ((host_state_of h).disk a n) at some in wrote h a n at over k.0 k.1 k.2

-- ---- nothing was written

over_nothing : (at : ℕ) (bytes : List ℕ) → written at [] bytes ≡ bytes
over_nothing at bytes = ap (λ n. take at bytes ++ [] ++ drop n bytes) (let e : at + 0 ≡ at = omega arith in e) ∙ ap (λ (l : List ℕ). l ++ drop at bytes) (append-nil (take at bytes)) ∙ take-append-drop at bytes

some_left : (k : Kept) (o : Option (List ℕ)) → IsLeft (Some k) o → (c : List ℕ) × (o ≡ Some c)
some_left k None h = absurd h
some_left k (Some c) h = (c, refl)

torn_nothing : (at len : ℕ) (c : List ℕ) → TornBytes at len c c
torn_nothing at len c = record { before = refl; after = refl; no_shorter = omega arith; no_longer = omega arith }

pub wrote_nothing : (h : List Event) (a : Area) (n : List ℕ) (at : ℕ) (over : List ℕ) → IsSomeAnd (files_of (host_state_of h).disk a n) (λ file. at ≤ length file)
    → (k : ℕ) × (k ≤ length over) × Writes a n at over k (view_of h) (view_of h)
wrote_nothing h a n at over some = (
  0,
  omega arith,
  record {
    files = sym (put-same (files_of (host_state_of h).disk) a n (option_map (written at []) (files_of (host_state_of h).disk a n)) same);
    told = refl;
    goes = record {
      later = omega arith;
      crash = λ c left. (c, left, torn 0 c left);
      nothing_else = λ t c le left. inl left;
      keeps = λ t c le was. was;
    };
  },
)
  where
    k : (k : Kept) × ((host_state_of h).disk a n ≡ Some k) × (at ≤ length k.bytes)
    k = reaches ((host_state_of h).disk a n) at some

    same : files_of (host_state_of h).disk a n ≡ option_map (written at []) (files_of (host_state_of h).disk a n)
    same = ap read_of k.1 ∙ ap (λ (l : List ℕ). Some l) (sym (over_nothing at k.0.bytes)) ∙ sym (ap (λ (o : Option Kept). option_map (written at []) (read_of o)) k.1)

    torn : (len : ℕ) (c : Remains) → MayLeave (host_state_of h) c → Tear a n at len c c
    torn len c left =
        let x = some_left k.0 (c.files a n) (subst (λ (o : Option Kept). IsLeft o (c.files a n)) k.1 (left.each a n)) in
        record { old = x.0; new = x.0; was = x.1; is = x.1; torn = torn_nothing at len x.0; others = λ b m e. refl; told = refl }
