-- How often links that follow scripts may still answer `NotYet`, as reads and writes go on.
use Rattle.std.proofs.Common.{◌≡◌, ◌≤◌, ◌<◌, ◌+◌, ◌∙◌, ◌⊎◌, ℕ, Bool, true, false, List, [], ◌∷◌, length, Option, Some, None, refl, sym, ap, subst, arith, inl, inr}
use Rattle.std.specs.Prelude.{◌-◌, ◌^◌, ◌==◌, ◌||◌, cond, filter, if◌then◌else◌, nat_lt}
use Rattle.std.proofs.lemmas.Bool.{eqb-true, false≢true, le-ltb, lt-ltb, ltb-false, ltb-true}
use Rattle.q_link.specs.declared.link.Got.TheVariants as got
use Rattle.q_link.specs.declared.link.Put.TheVariants as put
use Rattle.q_link.specs.Records.{counted}
use Rattle.q_link.specs.Scripts.{Script, Step, WritePlan, end, failure, is_named, not_yet, piece, read_answer, script_waits, scripts_waits, steps_after, steps_waits, write_answer, writes_after, writes_waits}
use Rattle.q_link.specs.ScriptLinks.{ScriptLink}
use Rattle.q_link.specs.WaitsLeft.{Spares, waits_sum}
use Rattle.q_link.proofs.Sparing.{spares_same}

-- of two together, one spares
pub spares_left : (count : ℕ) (a b c : Option ℕ) → Spares count a b → Spares count (waits_sum a c) (waits_sum b c)
spares_left count None b c h = tt
spares_left count (Some n) b None h = tt
spares_left count (Some n) b (Some k) h =
    let less = h.2 in subst (λ (x : Option ℕ). Spares count (Some (n + k)) (waits_sum x (Some k))) (sym h.1) (h.0 + k, refl, omega (arith, less))

pub spares_right : (count : ℕ) (c a b : Option ℕ) → Spares count a b → Spares count (waits_sum c a) (waits_sum c b)
spares_right count None a b h = tt
spares_right count (Some k) None b h = tt
spares_right count (Some k) (Some n) b h =
    let less = h.2 in subst (λ (x : Option ℕ). Spares count (Some (k + n)) (waits_sum (Some k) x)) (sym h.1) (k + h.0, refl, omega (arith, less))

-- the first of two is counted apart
pub spares_turned : (a b : Option ℕ) → Spares 0 (waits_sum a b) (waits_sum b a)
spares_turned None b = tt
spares_turned (Some n) None = tt
spares_turned (Some n) (Some k) = (k + n, refl, omega arith)

-- ---- reads

rest_same : (b : Bool) (bytes : List ℕ) (steps : List Step) → steps_waits (if b then piece bytes ∷ steps else steps) ≡ steps_waits steps
rest_same true bytes steps = refl
rest_same false bytes steps = refl

one_less : (a : Option ℕ) → Spares 1 (waits_sum (Some 1) a) a
one_less None = tt
one_less (Some n) = (n, refl, omega arith)

took_spares : (steps : List Step) (room n : ℕ) → got.Took n ≡ read_answer steps room → Spares 0 (steps_waits steps) (steps_waits (steps_after steps room))
took_spares [] room n is = tt
took_spares (piece bytes ∷ steps) room n is = subst (λ (x : Option ℕ). Spares 0 (steps_waits steps) x) (sym (rest_same (nat_lt room (length bytes)) _ steps)) (spares_same (steps_waits steps))
took_spares (not_yet ∷ steps) room n is = cc
took_spares (end ∷ steps) room n is = cc
took_spares (failure ∷ steps) room n is = cc

waited_spares : (steps : List Step) (room : ℕ) → got.NotYet ≡ read_answer steps room → Spares 1 (steps_waits steps) (steps_waits (steps_after steps room))
waited_spares [] room is = tt
waited_spares (piece bytes ∷ steps) room is = cc
waited_spares (not_yet ∷ steps) room is = one_less (steps_waits steps)
waited_spares (end ∷ steps) room is = cc
waited_spares (failure ∷ steps) room is = cc

-- ---- writes

-- how many of the numbers are still to come
abbrev pub to_come : ℕ → List ℕ → ℕ
to_come calls numbers = length (filter (λ k. nat_lt calls k) numbers)

one : ℕ → ℕ → ℕ
one calls k = if nat_lt calls k then 1 else 0

counts : (b : Bool) (k : ℕ) (behind : List ℕ) → length (cond b (k ∷ behind) behind) ≡ (if b then 1 else 0) + length behind
counts true k behind = omega arith
counts false k behind = omega arith

first_apart : (calls k : ℕ) (numbers : List ℕ) → to_come calls (k ∷ numbers) ≡ one calls k + to_come calls numbers
unfolding one
first_apart calls k numbers = counts (nat_lt calls k) k (filter (λ n. nat_lt calls n) numbers)

at_most : (b : Bool) → (if b then 1 else 0) ≤ 1
at_most true = omega arith
at_most false = omega arith

one_fewer : (calls k : ℕ) → one (calls + 1) k ≤ one calls k
unfolding one
one_fewer calls k = by (nat_lt (calls + 1) k) refl
  where
    by : (b : Bool) → nat_lt (calls + 1) k ≡ b → (if b then 1 else 0) ≤ (if nat_lt calls k then 1 else 0)
    by true is = let above = ltb-true (calls + 1) k is in rw (lt-ltb calls k (omega (arith, above))) (omega arith)
    by false is = omega arith

one_named : (calls k : ℕ) → k ≡ calls + 1 → one (calls + 1) k + 1 ≤ one calls k
unfolding one
one_named calls k is = rw (is, lt-ltb calls (calls + 1) (omega arith), le-ltb (calls + 1) (calls + 1) (omega arith)) (omega arith)

-- one write more
fewer : (calls : ℕ) (numbers : List ℕ) → to_come (calls + 1) numbers ≤ to_come calls numbers
fewer calls [] = omega arith
fewer calls (k ∷ numbers) =
    let here = one_fewer calls k in
    let behind = fewer calls numbers in
    let old = first_apart calls k numbers in
    let new = first_apart (calls + 1) k numbers in
    omega (arith, here, behind, old, new)

-- one that is named
spent : (calls : ℕ) (numbers : List ℕ) → is_named numbers (calls + 1) ≡ true → to_come (calls + 1) numbers + 1 ≤ to_come calls numbers
spent calls [] is = cc
spent calls (k ∷ numbers) is = by (k == calls + 1) refl is (spent calls numbers)
  where
    old : to_come calls (k ∷ numbers) ≡ one calls k + to_come calls numbers
    old = first_apart calls k numbers

    new : to_come (calls + 1) (k ∷ numbers) ≡ one (calls + 1) k + to_come (calls + 1) numbers
    new = first_apart (calls + 1) k numbers

    by : (b : Bool) → (k == calls + 1) ≡ b → (b || is_named numbers (calls + 1)) ≡ true → (is_named numbers (calls + 1) ≡ true → to_come (calls + 1) numbers + 1 ≤ to_come calls numbers)
        → to_come (calls + 1) (k ∷ numbers) + 1 ≤ to_come calls (k ∷ numbers)
    by true same named others =
        let here = one_named calls k (eqb-true k (calls + 1) same) in
        let behind = fewer calls numbers in
        omega (arith, here, behind, old, new)
    by false other named others =
        let here = one_fewer calls k in
        let behind = others named in
        omega (arith, here, behind, old, new)

-- the next write's number, unless the count stands
next_number : (calls : ℕ) → calls < 2 ^ 64 → (counted calls 1 ≡ calls + 1) ⊎ ((counted calls 1 ≡ calls) × (calls ≡ 2 ^ 64 - 1))
next_number calls size = by (nat_lt (calls + 1) (2 ^ 64)) refl
  where
    by : (b : Bool) → nat_lt (calls + 1) (2 ^ 64) ≡ b → (counted calls 1 ≡ calls + 1) ⊎ ((counted calls 1 ≡ calls) × (calls ≡ 2 ^ 64 - 1))
    by true is = let below = ltb-true (calls + 1) (2 ^ 64) is in inl (omega (arith, below))
    by false is = let above = ltb-false (calls + 1) (2 ^ 64) is in inr (omega (arith, above, size), omega (arith, above, size))

spares_unless : (last : Bool) (count x y : ℕ) → (last ≡ false → y + count ≤ x) → Spares count (if last then None else Some x) (if last then None else Some y)
spares_unless true count x y h = tt
spares_unless false count x y h = (y, refl, h refl)

write_spares : (w : WritePlan) → w.calls < 2 ^ 64 → Spares 0 (writes_waits w) (writes_waits (writes_after w))
write_spares w size = spares_unless (is_named w.not_yet (2 ^ 64 - 1)) 0 _ _ (λ free. by (next_number w.calls size))
  where
    by : (counted w.calls 1 ≡ w.calls + 1) ⊎ ((counted w.calls 1 ≡ w.calls) × (w.calls ≡ 2 ^ 64 - 1)) → to_come (counted w.calls 1) w.not_yet + 0 ≤ to_come w.calls w.not_yet
    by (inl e) = let less = fewer w.calls w.not_yet in subst (λ (n : ℕ). to_come n w.not_yet + 0 ≤ to_come w.calls w.not_yet) (sym e) (omega (arith, less))
    by (inr e) = subst (λ (n : ℕ). to_come n w.not_yet + 0 ≤ to_come w.calls w.not_yet) (sym e.0) (omega arith)

write_spends : (w : WritePlan) → w.calls < 2 ^ 64 → is_named w.not_yet (counted w.calls 1) ≡ true → Spares 1 (writes_waits w) (writes_waits (writes_after w))
write_spends w size named = spares_unless (is_named w.not_yet (2 ^ 64 - 1)) 1 _ _ (λ free. by (next_number w.calls size) free)
  where
    by : (counted w.calls 1 ≡ w.calls + 1) ⊎ ((counted w.calls 1 ≡ w.calls) × (w.calls ≡ 2 ^ 64 - 1)) → is_named w.not_yet (2 ^ 64 - 1) ≡ false → to_come (counted w.calls 1) w.not_yet + 1 ≤ to_come w.calls w.not_yet
    by (inl e) free = subst (λ (n : ℕ). to_come n w.not_yet + 1 ≤ to_come w.calls w.not_yet) (sym e) (spent w.calls w.not_yet (subst (λ (n : ℕ). is_named w.not_yet n ≡ true) e named))
    by (inr e) free = absurd (false≢true (sym free ∙ ap (is_named w.not_yet) (sym (e.0 ∙ e.1)) ∙ named))

-- a write, whatever it answers
pub next_spares : (old new : WritePlan) → old.calls < 2 ^ 64 → new ≡ writes_after old → Spares 0 (writes_waits old) (writes_waits new)
next_spares old new size is = subst (λ (w : WritePlan). Spares 0 (writes_waits old) (writes_waits w)) (sym is) (write_spares old size)

-- one that answers `NotYet`
pub next_spends : (old new : WritePlan) → old.calls < 2 ^ 64 → new ≡ writes_after old → is_named old.not_yet (counted old.calls 1) ≡ true → Spares 1 (writes_waits old) (writes_waits new)
next_spends old new size is named = subst (λ (w : WritePlan). Spares 1 (writes_waits old) (writes_waits w)) (sym is) (write_spends old size named)

-- ---- links

-- a link whose steps are others
left_by_steps : (kept now : ScriptLink) (steps : List Step) (count : ℕ) → kept ≡ now → kept.view.waits_left ≡ script_waits kept.script → Spares count (steps_waits kept.script.steps) (steps_waits steps)
    → Spares count now.view.waits_left (script_waits (record kept.script { steps = steps }))
left_by_steps kept now steps count same all h =
    subst (λ (x : Option ℕ). Spares count x (script_waits (record kept.script { steps = steps }))) (sym all ∙ ap (λ (l : ScriptLink). l.view.waits_left) same)
    (spares_left count (steps_waits kept.script.steps) (steps_waits steps) (writes_waits kept.script.writes) h)

pub took_left : (kept now : ScriptLink) (steps : List Step) (room n : ℕ) → kept ≡ now → kept.view.waits_left ≡ script_waits kept.script → steps ≡ steps_after kept.script.steps room → got.Took n ≡ read_answer kept.script.steps room
    → Spares 0 now.view.waits_left (script_waits (record kept.script { steps = steps }))
took_left kept now steps room n same all is answer =
    left_by_steps kept now steps 0 same all (subst (λ (x : List Step). Spares 0 (steps_waits kept.script.steps) (steps_waits x)) (sym is) (took_spares kept.script.steps room n answer))

pub read_later_left : (kept now : ScriptLink) (steps : List Step) (room : ℕ) → kept ≡ now → kept.view.waits_left ≡ script_waits kept.script → steps ≡ steps_after kept.script.steps room → got.NotYet ≡ read_answer kept.script.steps room
    → Spares 1 now.view.waits_left (script_waits (record kept.script { steps = steps }))
read_later_left kept now steps room same all is answer =
    left_by_steps kept now steps 1 same all (subst (λ (x : List Step). Spares 1 (steps_waits kept.script.steps) (steps_waits x)) (sym is) (waited_spares kept.script.steps room answer))

-- a link whose writes are others
pub left_by_writes : (kept now : ScriptLink) (writes : WritePlan) (count : ℕ) → kept ≡ now → kept.view.waits_left ≡ script_waits kept.script → Spares count (writes_waits kept.script.writes) (writes_waits writes)
    → Spares count now.view.waits_left (script_waits (record kept.script { writes = writes }))
left_by_writes kept now writes count same all h =
    subst (λ (x : Option ℕ). Spares count x (script_waits (record kept.script { writes = writes }))) (sym all ∙ ap (λ (l : ScriptLink). l.view.waits_left) same)
    (spares_right count (steps_waits kept.script.steps) (writes_waits kept.script.writes) (writes_waits writes) h)

-- the first of these scripts is a link's
pub script_opened : (scripts rest : List Script) (s : Script) → scripts ≡ s ∷ rest → Spares 0 (scripts_waits scripts) (waits_sum (scripts_waits rest) (script_waits s))
script_opened scripts rest s is = subst (λ (l : List Script). Spares 0 (scripts_waits l) (waits_sum (scripts_waits rest) (script_waits s))) (sym is) (spares_turned (script_waits s) (scripts_waits rest))
