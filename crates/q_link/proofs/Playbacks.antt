-- A place in the steps of a script moves on.
use Rattle.std.proofs.Common.{◌≡◌, ◌<◌, ◌+◌, ◌∙◌, ℕ, zero, suc, true, false, List, [], ◌∷◌, ◌++◌, length, take, drop, min, get_or, refl, sym, ap, subst, arith, append-nil, append_assoc, drop-cons, length-drop, take_all, take-append-drop, ◌≢◌}
use Rattle.std.proofs.Math.Seq.{take-add}
use Rattle.std.specs.List.{flat_map}
use Rattle.std.specs.Prelude.{nat_lt}
use Rattle.std.proofs.lemmas.Bool.{le-ltb, lt-ltb, ltb-true}
use Rattle.std.proofs.lemmas.Grind.{flat_map-append}
use Rattle.std.proofs.lemmas.List.{drop-drop, drop-map, take_more}
use Rattle.q_link.specs.declared.link.Got.{Got}
use Rattle.q_link.specs.declared.link.Got.TheVariants as got
use Rattle.q_link.specs.declared.script.Step.{Step as Kept}
use Rattle.q_link.specs.declared.script.Step.TheVariants as kept
use Rattle.q_link.specs.Scripts.{Step, end, failure, next_bytes, not_yet, piece, read_answer, steps_after}
use Rattle.q_link.specs.Playback.{IsPlace, Played, IsFront, bytes_of, played, received_after, step_of, steps_of, without_front}

-- what a read makes of a place
pub record Takes (room : ℕ) (old new : Played) (given : Got) (buf : List ℕ) : Type 0 where
  pub answer : given ≡ read_answer old.rest room
  pub rest : new.rest ≡ steps_after old.rest room
  pub bytes : IsFront given (next_bytes old.rest) buf
  pub received : new.received ≡ received_after given buf old.received

-- the next step, with all before it and all behind it
pub record IsNext (steps : List Step) (next : ℕ) (step : Step) : Type 0 where
  pub behind : drop next steps ≡ step ∷ drop (next + 1) steps
  pub before : take (next + 1) steps ≡ take next steps ++ step ∷ []

length-steps : (steps : List Kept) → length (steps_of steps) ≡ length steps
length-steps [] = refl
length-steps (step ∷ steps) = ap suc (length-steps steps)

at_step : (steps : List Kept) (next : ℕ) (d : Kept) → next < length steps → get_or (steps_of steps) next (step_of d) ≡ step_of (get_or steps next d)
at_step [] next d within = refl
at_step (step ∷ steps) zero d within = refl
at_step (step ∷ steps) (suc next) d within = at_step steps next d (omega arith)

is_next : (steps : List Kept) (next : ℕ) (step : Kept) → next < length steps → get_or steps next step ≡ step → IsNext (steps_of steps) next (step_of step)
is_next steps next step within same =
    let s = steps_of steps in
    let fits : next < length s = omega (arith, within, length-steps steps) in
    let is : get_or s next (step_of step) ≡ step_of step = at_step steps next step within ∙ ap step_of same in
    record {
      behind = drop-cons s next (step_of step) fits ∙ ap (λ x. x ∷ drop (suc next) s) is ∙ ap (λ n. step_of step ∷ drop n s) (let e : suc next ≡ next + 1 = omega arith in e);
      before = take_more s next (step_of step) fits ∙ ap (λ x. take next s ++ x ∷ []) is;
    }

-- the step that was found in a list
pub next_step : (steps list : List Kept) (next : ℕ) (here step : Kept) → list ≡ steps → true ≡ nat_lt next (length list) → here ≡ get_or list next here → here ≡ step
    → IsNext (steps_of steps) next (step_of step)
next_step steps list next here step same within found is =
    subst (λ (k : Kept). IsNext (steps_of steps) next (step_of k)) is
    (is_next steps next here (subst (λ (l : List Kept). next < length l) same (ltb-true next (length list) (sym within))) (sym (found ∙ ap (λ (l : List Kept). get_or l next here) same)))

first_place : (steps : List Kept) → IsPlace 0 (steps_of steps)
first_place [] = refl
first_place (kept.Piece p ∷ steps) = p.some
first_place (kept.NotYet ∷ steps) = refl
first_place (kept.End ∷ steps) = refl
first_place (kept.Fail ∷ steps) = refl

-- the place before any step
pub places : (steps : List Kept) (next : ℕ) → IsPlace 0 (drop next (steps_of steps))
places steps next = rw (drop-map step_of next steps) (first_place (drop next steps))

whole : (steps : List Step) → without_front 0 steps ≡ steps
whole [] = refl
whole (piece bytes ∷ steps) = refl
whole (not_yet ∷ steps) = refl
whole (end ∷ steps) = refl
whole (failure ∷ steps) = refl

through : (steps : List Step) (next : ℕ) (step : Step) → IsNext steps next step → flat_map bytes_of (take (next + 1) steps) ≡ flat_map bytes_of (take next steps) ++ bytes_of step
through steps next step is =
    ap (flat_map bytes_of) is.before ∙ flat_map-append bytes_of (take next steps) (step ∷ [])
    ∙ ap (λ (x : List ℕ). flat_map bytes_of (take next steps) ++ x) (append-nil (bytes_of step))

-- a place, by the bytes of the steps that are behind and the steps from the next one on
place : List ℕ → ℕ → List Step → Played
place before at steps = record { received = before ++ take at (next_bytes steps); rest = without_front at steps }

-- the answers of the steps that bring no bytes
abbrev pub IsAnswer : Step → Got → Type 0
IsAnswer (piece bytes) answer = ⊥
IsAnswer not_yet answer = answer ≡ got.NotYet
IsAnswer end answer = answer ≡ got.End
IsAnswer failure answer = answer ≡ got.Failed

passed_at : (room at : ℕ) (before now : List ℕ) (step : Step) (more : List Step) (answer : Got) (buf : List ℕ) → IsAnswer step answer → at ≡ 0 → now ≡ before ++ bytes_of step
    → Takes room (place before at (step ∷ more)) (place now at more) answer buf
unfolding place
passed_at room at before now (piece bytes) more answer buf is start e = absurd is
passed_at room at before now not_yet more answer buf is start e =
    rw (start, is) (record { answer = refl; rest = whole more; bytes = tt; received = ap (λ (x : List ℕ). x ++ []) (e ∙ append-nil before) })
passed_at room at before now end more answer buf is start e =
    rw (start, is) (record { answer = refl; rest = whole more; bytes = tt; received = ap (λ (x : List ℕ). x ++ []) (e ∙ append-nil before) })
passed_at room at before now failure more answer buf is start e =
    rw (start, is) (record { answer = refl; rest = whole more; bytes = tt; received = ap (λ (x : List ℕ). x ++ []) (e ∙ append-nil before) })

starts : (at : ℕ) (step : Step) (more : List Step) (answer : Got) → IsAnswer step answer → IsPlace at (step ∷ more) → at ≡ 0
starts at (piece bytes) more answer is there = absurd is
starts at not_yet more answer is there = there
starts at end more answer is there = there
starts at failure more answer is there = there

-- a step that brings no bytes is behind
pub passed : (room at next : ℕ) (steps : List Step) (step : Step) (answer : Got) (buf : List ℕ) → IsNext steps next step → IsPlace at (drop next steps) → IsAnswer step answer
    → Takes room (played steps next at) (played steps (next + 1) at) answer buf
unfolding place
passed room at next steps step answer buf is there answers =
    let start = starts at step (drop (next + 1) steps) answer answers (subst (IsPlace at) is.behind there) in
    subst (λ (d : List Step). Takes room (place (flat_map bytes_of (take next steps)) at d) (played steps (next + 1) at) answer buf) (sym is.behind)
    (passed_at room at (flat_map bytes_of (take next steps)) (flat_map bytes_of (take (next + 1) steps)) step (drop (next + 1) steps) answer buf answers start (through steps next step is))

-- and its place is one again
pub place_passed : (at next : ℕ) (steps : List Kept) (step : Step) (answer : Got) → IsNext (steps_of steps) next step → IsPlace at (drop next (steps_of steps)) → IsAnswer step answer
    → IsPlace at (drop (next + 1) (steps_of steps))
place_passed at next steps step answer is there answers =
    let start = starts at step (drop (next + 1) (steps_of steps)) answer answers (subst (IsPlace at) is.behind there) in
    rw start (places steps (next + 1))

-- ---- the front of a piece

-- so many bytes of a piece, from a place in it, were copied into a buffer
pub record IsCopied (room at count : ℕ) (bytes buf : List ℕ) : Type 0 where
  pub some : 0 < room
  pub there : at < length bytes
  pub room_is : length buf ≡ room
  pub count_is : count ≡ min room (length (drop at bytes))
  pub front : take count buf ≡ take count (drop at bytes)

finished_at : (room at count : ℕ) (before now bytes : List ℕ) (more : List Step) (buf : List ℕ) → IsCopied room at count bytes buf → count ≡ length (drop at bytes) → now ≡ before ++ bytes
    → Takes room (place before at (piece bytes ∷ more)) (place now 0 more) (got.Took count) buf
unfolding place
finished_at room at count before now bytes more buf c all e =
    let n = length (drop at bytes) in
    let left = length-drop at bytes in
    let short : nat_lt room n ≡ false = le-ltb room n (omega (arith, c, all)) in
    let tail : take count buf ≡ drop at bytes = c.front ∙ take_all count (drop at bytes) (omega (arith, all)) in
    record {
      answer = ap (λ k. got.Took k) c.count_is;
      rest = rw short (whole more);
      bytes = (omega (arith, c, all, left), omega (arith, c, all), c.front);
      received =
          append-nil now ∙ e ∙ ap (λ (x : List ℕ). before ++ x) (sym (take-append-drop at bytes)) ∙ sym (append_assoc before (take at bytes) (drop at bytes))
          ∙ ap (λ (x : List ℕ). (before ++ take at bytes) ++ x) (sym tail);
    }

-- the rest of a piece was taken
pub finished : (room at next count : ℕ) (steps : List Step) (bytes buf : List ℕ) → IsNext steps next (piece bytes) → IsCopied room at count bytes buf → count ≡ length (drop at bytes)
    → Takes room (played steps next at) (played steps (next + 1) 0) (got.Took count) buf
unfolding place
finished room at next count steps bytes buf is c all =
    subst (λ (d : List Step). Takes room (place (flat_map bytes_of (take next steps)) at d) (played steps (next + 1) 0) (got.Took count) buf) (sym is.behind)
    (finished_at room at count (flat_map bytes_of (take next steps)) (flat_map bytes_of (take (next + 1) steps)) bytes (drop (next + 1) steps) buf c all (through steps next (piece bytes) is))

partly_at : (room at count : ℕ) (before bytes : List ℕ) (more : List Step) (buf : List ℕ) → IsCopied room at count bytes buf → count ≢ length (drop at bytes)
    → Takes room (place before at (piece bytes ∷ more)) (place before (at + count) (piece bytes ∷ more)) (got.Took count) buf
unfolding place
partly_at room at count before bytes more buf c some_left =
    let n = length (drop at bytes) in
    let left = length-drop at bytes in
    let long : nat_lt room n ≡ true = lt-ltb room n (omega (arith, c, some_left)) in
    let full : room ≡ count = omega (arith, c, some_left) in
    record {
      answer = ap (λ k. got.Took k) c.count_is;
      rest = rw (long, full, drop-drop count at bytes) refl;
      bytes = (omega (arith, c, full), omega (arith, c), c.front);
      received =
          ap (λ (x : List ℕ). before ++ x) (take-add at count bytes) ∙ sym (append_assoc before (take at bytes) (take count (drop at bytes)))
          ∙ ap (λ (x : List ℕ). (before ++ take at bytes) ++ x) (sym c.front);
    }

-- and some of it is left
pub partly : (room at next count : ℕ) (steps : List Step) (bytes buf : List ℕ) → IsNext steps next (piece bytes) → IsCopied room at count bytes buf → count ≢ length (drop at bytes)
    → Takes room (played steps next at) (played steps next (at + count)) (got.Took count) buf
unfolding place
partly room at next count steps bytes buf is c some_left =
    subst (λ (d : List Step). Takes room (place (flat_map bytes_of (take next steps)) at d) (place (flat_map bytes_of (take next steps)) (at + count) d) (got.Took count) buf) (sym is.behind)
    (partly_at room at count (flat_map bytes_of (take next steps)) bytes (drop (next + 1) steps) buf c some_left)

-- which is a place again
pub place_partly : (room at next count : ℕ) (steps : List Step) (bytes buf : List ℕ) → IsNext steps next (piece bytes) → IsCopied room at count bytes buf → count ≢ length (drop at bytes)
    → IsPlace (at + count) (drop next steps)
place_partly room at next count steps bytes buf is c some_left =
    let left = length-drop at bytes in
    let within : at + count < length bytes = omega (arith, c, some_left, left) in
    subst (IsPlace (at + count)) (sym is.behind) within

-- a place before the byte of a piece
pub piece_place : (at next : ℕ) (steps : List Step) (bytes : List ℕ) → IsNext steps next (piece bytes) → IsPlace at (drop next steps) → at < length bytes
piece_place at next steps bytes is there = subst (IsPlace at) is.behind there

-- what was copied from behind a place of a piece
pub copied : (room at count : ℕ) (bytes slice rest buf : List ℕ) → 0 < room → at < length bytes → slice ≡ bytes → rest ≡ drop at slice → length buf ≡ room
    → count ≡ min room (length rest) → take count buf ≡ take count rest → IsCopied room at count bytes buf
copied room at count bytes slice rest buf some there whole_piece behind room_is count_is front =
    let same : rest ≡ drop at bytes = behind ∙ ap (drop at) whole_piece in
    record {
      some = some;
      there = there;
      room_is = room_is;
      count_is = count_is ∙ ap (λ (x : List ℕ). min room (length x)) same;
      front = front ∙ ap (take count) same;
    }
