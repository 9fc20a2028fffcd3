-- The first ticket past a cut, in a block and in all of them.
use Rattle.std.proofs.Common.{◌≡◌, ◌≤◌, ◌+◌, ◌++◌, ◌||◌, ap, arith, Bool, cond, false, find, get_or, length, List, [], ◌∷◌, Option, refl, Some, suc, sym, true, zero, ℕ, ◌∙◌}
use Rattle.std.specs.List.{list_any, position_or_len}
use Rattle.q_sorted.specs.declared.ticket.Cut.{Cut}
use Rattle.q_sorted.specs.declared.ticket.Ticket.{Ticket}
use Rattle.q_sorted.specs.Blocks.{block_at, ends_past, is_past, joined}
use Rattle.q_sorted.specs.Tickets.{Rises}
use Rattle.q_sorted.proofs.Cuts.{any_ends}
use Rattle.q_sorted.proofs.Rising.{rises_left, rises_right}

-- the last of tickets, by its place
pub ends_at : (c : Cut) (xs : List Ticket) (k : ℕ) (d : Ticket) → length xs ≡ suc k → is_past c (get_or xs k d) ≡ ends_past c xs
ends_at c [] k d h = absurd (omega (arith, h))
ends_at c (x ∷ []) zero d h = refl
ends_at c (x ∷ []) (suc k) d h = absurd (omega (arith, h))
ends_at c (x ∷ y ∷ ys) zero d h = absurd (omega (arith, h))
ends_at c (x ∷ y ∷ ys) (suc k) d h = ends_at c (y ∷ ys) k d (omega (arith, h))

find_step : {X : Type 0} (t u : Bool) (x : X) (a b : Option X) → (t || u) ≡ true → (u ≡ true → a ≡ b) → cond t (Some x) a ≡ cond t (Some x) b
find_step true u x a b h k = refl
find_step false u x a b h k = k h

skip_step : {X : Type 0} (t u : Bool) (x : X) (a b : Option X) → (t || u) ≡ false → (u ≡ false → a ≡ b) → cond t (Some x) a ≡ b
skip_step true u x a b h k = absurd cc
skip_step false u x a b h k = k h

find_left : {X : Type 0} (p : X → Bool) (xs ys : List X) → list_any p xs ≡ true → find p (xs ++ ys) ≡ find p xs
find_left p [] ys h = absurd cc
find_left p (x ∷ xs) ys h = find_step (p x) (list_any p xs) x (find p (xs ++ ys)) (find p xs) h (λ k. find_left p xs ys k)

find_right : {X : Type 0} (p : X → Bool) (xs ys : List X) → list_any p xs ≡ false → find p (xs ++ ys) ≡ find p ys
find_right p [] ys h = refl
find_right p (x ∷ xs) ys h = skip_step (p x) (list_any p xs) x (find p (xs ++ ys)) (find p ys) h (λ k. find_right p xs ys k)

-- what the place of the first that passes says of the rest
pub next_block : (n : ℕ) (xs : List Ticket) (lists : List (List Ticket)) → block_at (1 + n) (xs ∷ lists) ≡ block_at n lists
next_block n xs lists = let next : (1 + n) ≡ suc n = omega arith in ap (λ (k : ℕ). block_at k (xs ∷ lists)) next

-- the first ticket past the cut is that of the block
abbrev FindsIn : Cut → List (List Ticket) → Type 0
FindsIn c lists = find (is_past c) (joined lists) ≡ find (is_past c) (block_at (position_or_len (ends_past c) lists) lists)

found_step : (c : Cut) (xs : List Ticket) (lists : List (List Ticket)) (t : Bool) → ends_past c xs ≡ t → Rises (joined (xs ∷ lists)) → FindsIn c lists → FindsIn c (xs ∷ lists)
found_step c xs lists true e r h =
    rw e (find_left (is_past c) xs (joined lists) (any_ends c xs (rises_left xs (joined lists) r) ∙ e))
found_step c xs lists false e r h =
    rw e (find_right (is_past c) xs (joined lists) (any_ends c xs (rises_left xs (joined lists) r) ∙ e) ∙ h ∙ ap (find (is_past c)) (sym (next_block (position_or_len (ends_past c) lists) xs lists)))

pub found_in : (c : Cut) (lists : List (List Ticket)) → Rises (joined lists) → FindsIn c lists
found_in c [] r = refl
found_in c (xs ∷ lists) r = found_step c xs lists (ends_past c xs) refl r (found_in c lists (rises_right xs (joined lists) r))

pub no_block : (n : ℕ) (lists : List (List Ticket)) → length lists ≤ n → block_at n lists ≡ []
no_block n [] h = refl
no_block zero (xs ∷ lists) h = absurd (omega (arith, h))
no_block (suc n) (xs ∷ lists) h = no_block n lists (omega (arith, h))

pub block_rises : (n : ℕ) (lists : List (List Ticket)) → Rises (joined lists) → Rises (block_at n lists)
block_rises n [] r = tt
block_rises zero (xs ∷ lists) r = rises_left xs (joined lists) r
block_rises (suc n) (xs ∷ lists) r = block_rises n lists (rises_right xs (joined lists) r)
