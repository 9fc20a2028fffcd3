-- How full blocks are, after a ticket came or went.
use Rattle.std.proofs.Common.{◌≡◌, ◌≤◌, ◌<◌, ◌+◌, ◌-◌, ◌*◌, ◌++◌, ap, append_assoc, arith, Bool, cond, drop, false, get_or-set_same, length, length-append, length-drop, List, [], ◌∷◌, nat_lt, refl, set, suc, sym, take, true, zero, ℕ, ◌∙◌, subst}
use Rattle.std.proofs.lemmas.List.{length-take, take-append-drop}
use Rattle.std.proofs.lemmas.Bool.{ltb-true, ltb-false}
use Rattle.q_sorted.specs.declared.ticket.Ticket.{Ticket}
use Rattle.q_sorted.specs.Blocks.{AreFilled, block_at, block_room, half, joined, least, mended, most, parted, settled, united}

-- the tickets stay as they are
pub joined_parted : (n : ℕ) (lists : List (List Ticket)) → joined (parted n lists) ≡ joined lists
joined_parted n [] = refl
joined_parted zero (xs ∷ lists) =
    sym (append_assoc (take half xs) (drop half xs) (joined lists)) ∙ ap (λ ys. ys ++ joined lists) (take-append-drop half xs)
joined_parted (suc n) (xs ∷ lists) = ap (λ ys. xs ++ ys) (joined_parted n lists)

settled_step : (n : ℕ) (lists : List (List Ticket)) (t : Bool) → joined (cond t (parted n lists) lists) ≡ joined lists
settled_step n lists true = joined_parted n lists
settled_step n lists false = refl

pub joined_settled : (n : ℕ) (lists : List (List Ticket)) → joined (settled n lists) ≡ joined lists
joined_settled n lists = settled_step n lists (nat_lt most (length (block_at n lists)))

pub joined_united : (n : ℕ) (lists : List (List Ticket)) → joined (united n lists) ≡ joined lists
joined_united n [] = refl
joined_united n (xs ∷ []) = refl
joined_united zero (xs ∷ ys ∷ lists) = append_assoc xs ys (joined lists)
joined_united (suc n) (xs ∷ ys ∷ lists) = ap (λ zs. xs ++ zs) (joined_united n (ys ∷ lists))

pub length_united : (n : ℕ) (lists : List (List Ticket)) → n + 1 < length lists → length (united n lists) + 1 ≡ length lists
length_united n [] h = absurd (omega (arith, h))
length_united n (xs ∷ []) h = absurd (omega (arith, h))
length_united zero (xs ∷ ys ∷ lists) h = omega arith
length_united (suc n) (xs ∷ ys ∷ lists) h = let rest = length_united n (ys ∷ lists) (omega (arith, h)) in omega (arith, rest)

-- how many tickets a block has
pub block_filled : (low n : ℕ) (lists : List (List Ticket)) → AreFilled low lists → length (block_at n lists) ≤ most
block_filled low n [] f = omega arith
block_filled low zero (xs ∷ lists) f = f.1
block_filled low (suc n) (xs ∷ lists) f = block_filled least n lists f.2

pub block_least : (low n : ℕ) (lists : List (List Ticket)) → AreFilled low lists → suc n < length lists → least ≤ length (block_at (suc n) lists)
block_least low n [] f h = absurd (omega (arith, h))
block_least low n (xs ∷ []) f h = absurd (omega (arith, h))
block_least low zero (xs ∷ ys ∷ lists) f h = f.2.0
block_least low (suc n) (xs ∷ ys ∷ lists) f h = block_least least n (ys ∷ lists) f.2 (omega (arith, h))

filled_least : (n : ℕ) (lists : List (List Ticket)) → AreFilled 0 lists → n < length lists → 0 < n → least ≤ length (block_at n lists)
filled_least zero lists f h k = absurd (omega (arith, k))
filled_least (suc n) lists f h k = block_least 0 n lists f h

-- how many blocks there are
fills : (lists : List (List Ticket)) → AreFilled least lists → least * length lists ≤ length (joined lists)
fills [] f = omega arith
fills (xs ∷ lists) f = let rest = fills lists f.2 in omega (arith, rest, f.0, length-append xs (joined lists))

pub fills_others : (lists : List (List Ticket)) → AreFilled 0 lists → least * (length lists - 1) ≤ length (joined lists)
fills_others [] f = omega arith
fills_others (xs ∷ lists) f = let rest = fills lists f.2 in omega (arith, rest, length-append xs (joined lists))

-- a block that has another list
filled_set : (low n : ℕ) (lists : List (List Ticket)) (ys : List Ticket) → AreFilled low lists → n < length lists → (0 < n → least ≤ length ys) → (n ≡ 0 → low ≤ length ys) → length ys ≤ most → AreFilled low (set lists n ys)
filled_set low n [] ys f h other first k = absurd (omega (arith, h))
filled_set low zero (xs ∷ lists) ys f h other first k = (first refl, k, f.2)
filled_set low (suc n) (xs ∷ lists) ys f h other first k =
    (f.0, f.1, filled_set least n lists ys f.2 (omega (arith, h)) (λ z. other (omega arith)) (λ z. other (omega arith)) k)

filled_parted : (low n : ℕ) (lists : List (List Ticket)) (ys : List Ticket) → AreFilled low lists → low ≤ least → n < length lists → most < length ys → length ys ≤ block_room → AreFilled low (parted n (set lists n ys))
filled_parted low n [] ys f l h k m = absurd (omega (arith, h))
filled_parted low zero (xs ∷ lists) ys f l h k m =
    let lower = length-take half ys in
    let upper = length-drop half ys in
    (omega (arith, lower, k, l), omega (arith, lower), (omega (arith, upper, k), omega (arith, upper, m), f.2))
filled_parted low (suc n) (xs ∷ lists) ys f l h k m = (f.0, f.1, filled_parted least n lists ys f.2 (omega arith) (omega (arith, h)) k m)

filled_step : (n : ℕ) (lists : List (List Ticket)) (ys : List Ticket) (t : Bool) → nat_lt most (length ys) ≡ t → AreFilled 0 lists → n < length lists → (0 < n → least ≤ length ys) → length ys ≤ block_room → AreFilled 0 (cond t (parted n (set lists n ys)) (set lists n ys))
filled_step n lists ys true e f h other k = filled_parted 0 n lists ys f (omega arith) h (ltb-true most (length ys) e) k
filled_step n lists ys false e f h other k = filled_set 0 n lists ys f h other (λ z. omega arith) (ltb-false most (length ys) e)

-- a block that is settled once it has another list
pub filled_settled : (n : ℕ) (lists : List (List Ticket)) (ys : List Ticket) → AreFilled 0 lists → n < length lists → (0 < n → least ≤ length ys) → length ys ≤ block_room → AreFilled 0 (settled n (set lists n ys))
filled_settled n lists ys f h other k =
    let own : block_at n (set lists n ys) ≡ ys = get_or-set_same lists n ys [] h in
    subst (λ (t : Bool). AreFilled 0 (cond t (parted n (set lists n ys)) (set lists n ys))) (ap (λ zs. nat_lt most (length zs)) (sym own))
    (filled_step n lists ys (nat_lt most (length ys)) refl f h other k)

pub filled_short : (n : ℕ) (lists : List (List Ticket)) (ys : List Ticket) → AreFilled 0 lists → n < length lists → (0 < n → least ≤ length ys) → length ys ≤ most → AreFilled 0 (set lists n ys)
filled_short n lists ys f h other k = filled_set 0 n lists ys f h other (λ z. omega arith) k

-- the blocks but for the one behind this one
abbrev without_next : ℕ → List (List Ticket) → List (List Ticket)
without_next n [] = []
without_next n (xs ∷ []) = xs ∷ []
without_next zero (xs ∷ ys ∷ lists) = xs ∷ lists
without_next (suc n) (xs ∷ ys ∷ lists) = xs ∷ without_next n (ys ∷ lists)

filled_without : (low n : ℕ) (lists : List (List Ticket)) → AreFilled low lists → AreFilled low (without_next n lists)
filled_without low n [] f = tt
filled_without low n (xs ∷ []) f = f
filled_without low zero (xs ∷ ys ∷ lists) f = (f.0, f.1, f.2.2)
filled_without low (suc n) (xs ∷ ys ∷ lists) f = (f.0, f.1, filled_without least n (ys ∷ lists) f.2)

long_without : (n : ℕ) (lists : List (List Ticket)) → n + 1 < length lists → n < length (without_next n lists)
long_without n [] h = absurd (omega (arith, h))
long_without n (xs ∷ []) h = absurd (omega (arith, h))
long_without zero (xs ∷ ys ∷ lists) h = omega arith
long_without (suc n) (xs ∷ ys ∷ lists) h = let rest = long_without n (ys ∷ lists) (omega (arith, h)) in omega (arith, rest)

united_without : (n : ℕ) (lists : List (List Ticket)) (ys : List Ticket) → suc n < length lists → united n (set lists (suc n) ys) ≡ set (without_next n lists) n (block_at n lists ++ ys)
united_without n [] ys h = absurd (omega (arith, h))
united_without n (xs ∷ []) ys h = absurd (omega (arith, h))
united_without zero (xs ∷ zs ∷ lists) ys h = refl
united_without (suc n) (xs ∷ zs ∷ lists) ys h = ap (λ rest. xs ∷ rest) (united_without n (zs ∷ lists) ys (omega (arith, h)))

-- a block that unites with the next one, which has few, and is settled
pub filled_united : (n : ℕ) (lists : List (List Ticket)) (ys : List Ticket) → AreFilled 0 lists → suc n < length lists → length ys < least → AreFilled 0 (settled n (united n (set lists (suc n) ys)))
filled_united n lists ys f h few =
    let own = length-append (block_at n lists) ys in
    let upper = block_filled 0 n lists f in
    let inner = filled_settled n (without_next n lists) (block_at n lists ++ ys) (filled_without 0 n lists f) (long_without n lists (omega (arith, h)))
    (λ k. omega (arith, own, filled_least n lists f (omega (arith, h)) k)) (omega (arith, own, upper, few)) in
    subst (λ (zs : List (List Ticket)). AreFilled 0 (settled n zs)) (sym (united_without n lists ys h)) inner

-- Blocks that are mended.
mended_step : (n : ℕ) (lists : List (List Ticket)) (t : Bool) → joined (cond t (settled n (united n lists)) lists) ≡ joined lists
mended_step n lists true = joined_settled n (united n lists) ∙ joined_united n lists
mended_step n lists false = refl

pub joined_mended : (n : ℕ) (lists : List (List Ticket)) → joined (mended n lists) ≡ joined lists
joined_mended zero lists = refl
joined_mended (suc n) lists = mended_step n lists (nat_lt (length (block_at (suc n) lists)) least)

short_step : (n : ℕ) (lists : List (List Ticket)) (ys : List Ticket) (t : Bool) → nat_lt (length ys) least ≡ t → AreFilled 0 lists → suc n < length lists → length ys ≤ most → AreFilled 0 (cond t (settled n (united n (set lists (suc n) ys))) (set lists (suc n) ys))
short_step n lists ys true e f h k = filled_united n lists ys f h (ltb-true (length ys) least e)
short_step n lists ys false e f h k = filled_short (suc n) lists ys f h (λ z. ltb-false (length ys) least e) k

pub filled_mended : (n : ℕ) (lists : List (List Ticket)) (ys : List Ticket) → AreFilled 0 lists → n < length lists → length ys ≤ most → AreFilled 0 (mended n (set lists n ys))
filled_mended zero lists ys f h k = filled_short zero lists ys f h (λ z. absurd (omega (arith, z))) k
filled_mended (suc n) lists ys f h k =
    let own : block_at (suc n) (set lists (suc n) ys) ≡ ys = get_or-set_same lists (suc n) ys [] h in
    subst (λ (t : Bool). AreFilled 0 (cond t (settled n (united n (set lists (suc n) ys))) (set lists (suc n) ys))) (ap (λ zs. nat_lt (length zs) least) (sym own))
    (short_step n lists ys (nat_lt (length ys) least) refl f h k)

-- what the union of a block and the next one has
pub block_united : (n : ℕ) (lists : List (List Ticket)) → n + 1 < length lists → block_at n (united n lists) ≡ block_at n lists ++ block_at (suc n) lists
block_united n [] h = absurd (omega (arith, h))
block_united n (xs ∷ []) h = absurd (omega (arith, h))
block_united zero (xs ∷ ys ∷ lists) h = refl
block_united (suc n) (xs ∷ ys ∷ lists) h = block_united n (ys ∷ lists) (omega (arith, h))

-- there is always a block
some_filled : (n : ℕ) (lists : List (List Ticket)) → length lists ≤ length (parted n lists)
some_filled n [] = omega arith
some_filled zero (xs ∷ lists) = omega arith
some_filled (suc n) (xs ∷ lists) = let rest = some_filled n lists in omega (arith, rest)

some_step : (n : ℕ) (lists : List (List Ticket)) (t : Bool) → length lists ≤ length (cond t (parted n lists) lists)
some_step n lists true = some_filled n lists
some_step n lists false = omega arith

pub some_settled : (n : ℕ) (lists : List (List Ticket)) → length lists ≤ length (settled n lists)
some_settled n lists = some_step n lists (nat_lt most (length (block_at n lists)))

mends_step : (n : ℕ) (lists : List (List Ticket)) (t : Bool) → suc n < length lists → 1 ≤ length (cond t (settled n (united n lists)) lists)
mends_step n lists true h = omega (arith, h, length_united n lists (omega (arith, h)), some_settled n (united n lists))
mends_step n lists false h = omega (arith, h)

pub some_mended : (n : ℕ) (lists : List (List Ticket)) → n < length lists → 1 ≤ length (mended n lists)
some_mended zero lists h = omega (arith, h)
some_mended (suc n) lists h = mends_step n lists (nat_lt (length (block_at (suc n) lists)) least) h
