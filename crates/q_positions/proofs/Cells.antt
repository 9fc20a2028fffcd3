-- How lists side by side change with one of them.
use Rattle.std.proofs.Common.{◌≡◌, ◌∙◌, ◌∷◌, ◌++◌, ◌+◌, ◌*◌, ◌<◌, ◌≤◌, ◌^◌, [], ap, arith, drop, get_or, length, List, refl, replicate, set, suc, sym, take, zero, ℕ}
use Rattle.std.proofs.lemmas.List.{drop-append-le, drop-drop, drop-set-add, drop-set-lt, get_or_past, length-append, length-drop, length-set, length-take-le, take-append-drop, take-append-le, take-set-le, take_more_set}
use Rattle.std.proofs.lemmas.Nat.{mul-le}
use Rattle.std.proofs.Math.Nat.{suc-mul}
use Rattle.std.proofs.lemmas.Slice.{drop-append-drop}
use Rattle.std.proofs.Math.Seq.{take-append_seam}
use Rattle.q_positions.specs.Lists.{AreWithin, IsSound, lists_in}

pub length_lists : (most : ℕ) (cells lens : List ℕ) → length (lists_in most cells lens) ≡ length lens
length_lists most cells [] = refl
length_lists most cells (n ∷ ns) = ap suc (length_lists most (drop most cells) ns)

pub none_fresh : (most count : ℕ) (cells : List ℕ) → lists_in most cells (replicate count 0) ≡ replicate count []
none_fresh most zero cells = refl
none_fresh most (suc count) cells = ap (λ xss. [] ∷ xss) (none_fresh most count (drop most cells))

pub within_fresh : (most count : ℕ) → AreWithin most (replicate count 0)
within_fresh most zero = tt
within_fresh most (suc count) = (omega arith, within_fresh most count)

pub within_at : (most k : ℕ) (lens : List ℕ) → AreWithin most lens → get_or lens k 0 ≤ most
within_at most k [] h = omega arith
within_at most zero (n ∷ ns) h = h.0
within_at most (suc k) (n ∷ ns) h = within_at most k ns h.1

pub within_set : (most k n : ℕ) (lens : List ℕ) → n ≤ most → AreWithin most lens → AreWithin most (set lens k n)
within_set most k n [] few h = tt
within_set most zero n (m ∷ ms) few h = (few, h.1)
within_set most (suc k) n (m ∷ ms) few h = (h.0, within_set most k n ms few h.1)

within_list : (most n k : ℕ) → n ≤ most → n ≤ suc k * most
within_list most n k h = let more = suc-mul k most in omega (arith, h, more)

-- where the cells of a list stand
pub at_list : (most k : ℕ) (cells lens : List ℕ) → get_or (lists_in most cells lens) k [] ≡ take (get_or lens k 0) (drop (k * most) cells)
at_list most k cells [] = refl
at_list most zero cells (n ∷ ns) = let none : 0 * most ≡ 0 = omega arith in ap (λ i. take n (drop i cells)) (sym none)
at_list most (suc k) cells (n ∷ ns) =
    at_list most k (drop most cells) ns
    ∙ ap (take (get_or ns k 0)) (drop-drop (k * most) most cells ∙ ap (λ i. drop i cells) (let more = suc-mul k most in omega (arith, more)))

pub lists_cleared : (most k : ℕ) (cells lens : List ℕ) → lists_in most cells (set lens k 0) ≡ set (lists_in most cells lens) k []
lists_cleared most k cells [] = refl
lists_cleared most zero cells (n ∷ ns) = refl
lists_cleared most (suc k) cells (n ∷ ns) = ap (λ xss. take n cells ∷ xss) (lists_cleared most k (drop most cells) ns)

-- numbers are written over the cells of a list
pub lists_put : (most k : ℕ) (front back xs lens : List ℕ) → length front ≡ k * most → length xs ≤ most → AreWithin most lens →
    lists_in most (front ++ (xs ++ drop (length xs) back)) (set lens k (length xs)) ≡ set (lists_in most (front ++ back) lens) k xs
lists_put most k front back xs [] at few h = refl
lists_put most zero [] back xs (n ∷ ns) at few h =
    ap (λ ys. ys ∷ lists_in most (drop most (xs ++ drop (length xs) back)) ns) (take-append_seam xs (drop (length xs) back))
    ∙ ap (λ ys. xs ∷ lists_in most ys ns) (drop-append-drop (length xs) back xs most few refl)
lists_put most zero (x ∷ front) back xs (n ∷ ns) at few h = absurd (omega (arith, at))
lists_put most (suc k) front back xs (n ∷ ns) at few h =
    let own : n ≤ length front = let more = within_list most n k h.0 in omega (arith, more, at) in
    let over : most ≤ length front = let more = suc-mul k most in omega (arith, more, at) in
    let rest : length (drop most front) ≡ k * most = let more = suc-mul k most in let len = length-drop most front in omega (arith, more, at, len) in
    ap (λ ys. ys ∷ lists_in most (drop most (front ++ (xs ++ drop (length xs) back))) (set ns k (length xs))) (take-append-le n front (xs ++ drop (length xs) back) own ∙ sym (take-append-le n front back own))
    ∙ ap (λ xss. take n (front ++ back) ∷ xss)
    (ap (λ ys. lists_in most ys (set ns k (length xs))) (drop-append-le most front (xs ++ drop (length xs) back) over)
    ∙ lists_put most k (drop most front) back xs ns rest few h.1
    ∙ ap (λ ys. set (lists_in most ys ns) k xs) (sym (drop-append-le most front back over)))

-- a number is written behind those of a list
pub lists_pushed : (most k p : ℕ) (cells lens : List ℕ) → k < length lens → get_or lens k 0 < most → k * most + most ≤ length cells → AreWithin most lens →
    lists_in most (set cells (k * most + get_or lens k 0) p) (set lens k (get_or lens k 0 + 1)) ≡ set (lists_in most cells lens) k (get_or (lists_in most cells lens) k [] ++ p ∷ [])
lists_pushed most k p cells [] known few room h = absurd (omega (arith, known))
lists_pushed most zero p cells (n ∷ ns) known few room h =
    let at : 0 * most + n ≡ n = omega arith in
    let inside : n < length cells = omega (arith, few, room) in
    ap (λ i. take (n + 1) (set cells i p) ∷ lists_in most (drop most (set cells i p)) ns) at
    ∙ ap (λ ys. ys ∷ lists_in most (drop most (set cells n p)) ns) (take_more_set cells n p inside)
    ∙ ap (λ ys. (take n cells ++ p ∷ []) ∷ lists_in most ys ns) (drop-set-lt most cells n p few)
lists_pushed most (suc k) p cells (n ∷ ns) known few room h =
    let l = get_or ns k 0 in
    let more = suc-mul k most in
    let at : suc k * most + l ≡ most + (k * most + l) = omega (arith, more) in
    let own : n ≤ suc k * most + l = let less = within_list most n k h.0 in omega (arith, less) in
    let rest : k * most + most ≤ length (drop most cells) = let len = length-drop most cells in omega (arith, len, more, room) in
    ap (λ ys. ys ∷ lists_in most (drop most (set cells (suc k * most + l) p)) (set ns k (l + 1))) (take-set-le n cells (suc k * most + l) p own)
    ∙ ap (λ xss. take n cells ∷ xss)
    (ap (λ ys. lists_in most ys (set ns k (l + 1))) (ap (λ i. drop most (set cells i p)) at ∙ drop-set-add most cells (k * most + l) p)
    ∙ lists_pushed most k p (drop most cells) ns (omega (arith, known)) few rest h.1)

module _ (cells lens : List ℕ) (most : ℕ) (sound : IsSound cells lens most) where
  -- a list has its cells
  pub has_cells : (k : ℕ) → k < length lens → k * most + most ≤ length cells
  has_cells k known = let rows = mul-le (k + 1) most (length lens) most (omega (arith, known)) (omega arith) in let more = suc-mul k most in omega (arith, rows, more, sound.filled)

  pub length_at : (k : ℕ) → k < length lens → length (get_or (lists_in most cells lens) k []) ≡ get_or lens k 0
  length_at k known =
      let inside = has_cells k known in
      let own = within_at most k lens sound.within in
      let left = length-drop (k * most) cells in
      ap length (at_list most k cells lens) ∙ length-take-le (get_or lens k 0) (drop (k * most) cells) (omega (arith, inside, own, left))

  pub sound_put : (k : ℕ) (xs : List ℕ) → k < length lens → length xs ≤ most → IsSound (take (k * most) cells ++ (xs ++ drop (length xs) (drop (k * most) cells))) (set lens k (length xs)) most
  sound_put k xs known few =
      let inside = has_cells k known in
      let front = length-take-le (k * most) cells (omega (arith, inside)) in
      let left = length-drop (k * most) cells in
      let back = length-drop (length xs) (drop (k * most) cells) in
      let whole = length-append (take (k * most) cells) (xs ++ drop (length xs) (drop (k * most) cells)) in
      let behind = length-append xs (drop (length xs) (drop (k * most) cells)) in
      let same = length-set lens k (length xs) in
      record {
        few = omega (arith, same, sound.few);
        short = sound.short;
        filled =
            let is : length (take (k * most) cells ++ (xs ++ drop (length xs) (drop (k * most) cells))) ≡ length cells = omega (arith, inside, front, left, back, whole, behind, few) in
            is ∙ sound.filled ∙ ap (λ n. n * most) (sym same);
        within = within_set most k (length xs) lens few sound.within;
      }

  -- a list gets another length
  pub sound_length : (k n : ℕ) (changed : List ℕ) → length changed ≡ length cells → n ≤ most → IsSound changed (set lens k n) most
  sound_length k n changed len few =
      let same = length-set lens k n in
      record {
        few = omega (arith, same, sound.few);
        short = sound.short;
        filled = len ∙ sound.filled ∙ ap (λ m. m * most) (sym same);
        within = within_set most k n lens few sound.within;
      }

  pub known : (k : ℕ) → k < length (lists_in most cells lens) → k < length lens
  known k h = let same = length_lists most cells lens in omega (arith, h, same)

  pub few_lists : (k : ℕ) → k < length lens → k < 2 ^ 30
  few_lists k h = omega (arith, h, sound.few)

  -- another number has room behind those of the list
  pub has_room : (k : ℕ) → k < length lens → length (get_or (lists_in most cells lens) k []) < most → get_or lens k 0 < most
  has_room k h room = let same = length_at k h in omega (arith, room, same)

  pub inside : (k : ℕ) → k < length lens → get_or lens k 0 < most → k * most + get_or lens k 0 < length cells
  inside k h room = let cells = has_cells k h in omega (arith, cells, room)

  -- what stands where no list is
  pub none_there : (k : ℕ) → length lens ≤ k → get_or (lists_in most cells lens) k [] ≡ []
  none_there k past = let same = length_lists most cells lens in get_or_past (lists_in most cells lens) k [] (omega (arith, past, same))

  -- numbers are put in place of those of a list
  pub put_in : (k : ℕ) (xs : List ℕ) → k < length lens → length xs ≤ most →
      lists_in most (take (k * most) cells ++ (xs ++ drop (length xs) (drop (k * most) cells))) (set lens k (length xs)) ≡ set (lists_in most cells lens) k xs
  put_in k xs h few =
      let own = has_cells k h in
      lists_put most k (take (k * most) cells) (drop (k * most) cells) xs lens (length-take-le (k * most) cells (omega (arith, own))) few sound.within
      ∙ ap (λ ys. set (lists_in most ys lens) k xs) (take-append-drop (k * most) cells)
