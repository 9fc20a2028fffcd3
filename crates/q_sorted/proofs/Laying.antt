-- A ticket put at its place in a block, and blocks parted and united.
use Rattle.std.proofs.Common.{◌≡◌, ◌≤◌, ◌<◌, ◌+◌, ◌++◌, ap, arith, Bool, drop, false, get_or, length, List, [], ◌∷◌, refl, set, suc, sym, take, true, zero, ℕ, ◌∙◌, subst}
use Rattle.std.proofs.lemmas.Bool.{not-false, not-true}
use Rattle.std.proofs.lemmas.List.{get_or_default}
use Rattle.std.proofs.lemmas.List.Edits.{get_or-remove_below}
use Rattle.std.specs.List.{insert, position_or_len, remove}
use Rattle.std.specs.Prelude.{not}
use Rattle.q_sorted.specs.declared.ticket.Ticket.{Ticket}
use Rattle.q_sorted.specs.Blocks.{block_at, Blocks, half, is_past, parted, removed, stands_at, united}
use Rattle.q_sorted.specs.Tickets.{goes_before, inserted}
use Rattle.q_sorted.proofs.Editing.{before}

abbrev pub TheBlocks : List (List Ticket) → ℕ → Blocks
TheBlocks lists total = record { lists = lists; total = total }

pub stands_within : (place : ℕ) (e : Ticket) (xs : List Ticket) (d : Ticket) → place < length xs → not (goes_before e (get_or xs place d)) ≡ stands_at place e xs
stands_within place e [] d h = absurd (omega (arith, h))
stands_within zero e (x ∷ xs) d h = refl
stands_within (suc place) e (x ∷ xs) d h = stands_within place e xs d (omega (arith, h))

pub stands_nowhere : (place : ℕ) (e : Ticket) (xs : List Ticket) → length xs ≤ place → false ≡ stands_at place e xs
stands_nowhere place e [] h = refl
stands_nowhere zero e (x ∷ xs) h = absurd (omega (arith, h))
stands_nowhere (suc place) e (x ∷ xs) h = stands_nowhere place e xs (omega (arith, h))

-- the place of a ticket, of those that don't go before it the first
abbrev pub place_of : Ticket → List Ticket → ℕ
place_of e xs = position_or_len (is_past (before e)) xs

stands_next : (n : ℕ) (e x : Ticket) (xs : List Ticket) → stands_at (1 + n) e (x ∷ xs) ≡ stands_at n e xs
stands_next n e x xs = let next : (1 + n) ≡ suc n = omega arith in ap (λ (k : ℕ). stands_at k e (x ∷ xs)) next

insert_next : (n : ℕ) (e x : Ticket) (xs : List Ticket) → insert (x ∷ xs) (1 + n) e ≡ x ∷ insert xs n e
insert_next n e x xs = let next : (1 + n) ≡ suc n = omega arith in ap (λ (k : ℕ). insert (x ∷ xs) k e) next

remove_next : (n : ℕ) (x : Ticket) (xs : List Ticket) → remove (x ∷ xs) (1 + n) ≡ x ∷ remove xs n
remove_next n x xs = let next : (1 + n) ≡ suc n = omega arith in ap (λ (k : ℕ). remove (x ∷ xs) k) next

there_step : (e x : Ticket) (xs : List Ticket) (t : Bool) → goes_before x e ≡ t → stands_at (place_of e (x ∷ xs)) e (x ∷ xs) ≡ true → (stands_at (place_of e xs) e xs ≡ true → xs ≡ inserted e xs) → x ∷ xs ≡ inserted e (x ∷ xs)
there_step e x xs true h k rest = rw h (ap (λ ys. x ∷ ys) (rest (sym (stands_next (place_of e xs) e x xs) ∙ (rw h at k))))
there_step e x xs false h k rest = rw h (rw (not-true (goes_before e x) (rw h at k)) refl)

-- a ticket that is there already
inserted_there : (e : Ticket) (xs : List Ticket) → stands_at (place_of e xs) e xs ≡ true → xs ≡ inserted e xs
inserted_there e [] h = absurd cc
inserted_there e (x ∷ xs) h = there_step e x xs (goes_before x e) refl h (λ k. inserted_there e xs k)

new_step : (e x : Ticket) (xs : List Ticket) (t : Bool) → goes_before x e ≡ t → stands_at (place_of e (x ∷ xs)) e (x ∷ xs) ≡ false → (stands_at (place_of e xs) e xs ≡ false → insert xs (place_of e xs) e ≡ inserted e xs) → insert (x ∷ xs) (place_of e (x ∷ xs)) e ≡ inserted e (x ∷ xs)
new_step e x xs true h k rest = rw h (insert_next (place_of e xs) e x xs ∙ ap (λ ys. x ∷ ys) (rest (sym (stands_next (place_of e xs) e x xs) ∙ (rw h at k))))
new_step e x xs false h k rest = rw h (rw (not-false (goes_before e x) (rw h at k)) refl)

-- and one that is new
inserted_new : (e : Ticket) (xs : List Ticket) → stands_at (place_of e xs) e xs ≡ false → insert xs (place_of e xs) e ≡ inserted e xs
inserted_new e [] h = refl
inserted_new e (x ∷ xs) h = new_step e x xs (goes_before x e) refl h (λ k. inserted_new e xs k)

gone_step : (e x : Ticket) (xs : List Ticket) (t : Bool) → goes_before x e ≡ t → stands_at (place_of e (x ∷ xs)) e (x ∷ xs) ≡ true → (stands_at (place_of e xs) e xs ≡ true → remove xs (place_of e xs) ≡ removed e xs) → remove (x ∷ xs) (place_of e (x ∷ xs)) ≡ removed e (x ∷ xs)
gone_step e x xs true h k rest = rw h (remove_next (place_of e xs) x xs ∙ ap (λ ys. x ∷ ys) (rest (sym (stands_next (place_of e xs) e x xs) ∙ (rw h at k))))
gone_step e x xs false h k rest = rw h (rw (not-true (goes_before e x) (rw h at k)) refl)

-- a ticket that is taken out
removed_there : (e : Ticket) (xs : List Ticket) → stands_at (place_of e xs) e xs ≡ true → remove xs (place_of e xs) ≡ removed e xs
removed_there e [] h = absurd cc
removed_there e (x ∷ xs) h = gone_step e x xs (goes_before x e) refl h (λ k. removed_there e xs k)

still_step : (e x : Ticket) (xs : List Ticket) (t : Bool) → goes_before x e ≡ t → stands_at (place_of e (x ∷ xs)) e (x ∷ xs) ≡ false → (stands_at (place_of e xs) e xs ≡ false → xs ≡ removed e xs) → x ∷ xs ≡ removed e (x ∷ xs)
still_step e x xs true h k rest = rw h (ap (λ ys. x ∷ ys) (rest (sym (stands_next (place_of e xs) e x xs) ∙ (rw h at k))))
still_step e x xs false h k rest = rw h (rw (not-false (goes_before e x) (rw h at k)) refl)

-- and one that isn't there
removed_new : (e : Ticket) (xs : List Ticket) → stands_at (place_of e xs) e xs ≡ false → xs ≡ removed e xs
removed_new e [] h = refl
removed_new e (x ∷ xs) h = still_step e x xs (goes_before x e) refl h (λ k. removed_new e xs k)

-- the same by the place
pub stays : (e : Ticket) (n : ℕ) (xs : List Ticket) → n ≡ place_of e xs → stands_at n e xs ≡ true → xs ≡ inserted e xs
stays e n xs is h = inserted_there e xs (subst (λ (k : ℕ). stands_at k e xs ≡ true) is h)

pub comes : (e : Ticket) (n : ℕ) (xs : List Ticket) → n ≡ place_of e xs → stands_at n e xs ≡ false → insert xs n e ≡ inserted e xs
comes e n xs is h = subst (λ (k : ℕ). insert xs k e ≡ inserted e xs) (sym is) (inserted_new e xs (subst (λ (k : ℕ). stands_at k e xs ≡ false) is h))

pub goes : (e : Ticket) (n : ℕ) (xs : List Ticket) → n ≡ place_of e xs → stands_at n e xs ≡ true → remove xs n ≡ removed e xs
goes e n xs is h = subst (λ (k : ℕ). remove xs k ≡ removed e xs) (sym is) (removed_there e xs (subst (λ (k : ℕ). stands_at k e xs ≡ true) is h))

pub lacks : (e : Ticket) (n : ℕ) (xs : List Ticket) → n ≡ place_of e xs → stands_at n e xs ≡ false → xs ≡ removed e xs
lacks e n xs is h = removed_new e xs (subst (λ (k : ℕ). stands_at k e xs ≡ false) is h)

pub stands_inside : (e : Ticket) (n : ℕ) (xs : List Ticket) → stands_at n e xs ≡ true → n < length xs
stands_inside e n [] h = absurd cc
stands_inside e zero (x ∷ xs) h = omega arith
stands_inside e (suc n) (x ∷ xs) h = let rest = stands_inside e n xs h in omega (arith, rest)

-- Blocks as they are read and written.
pub block_read : (n : ℕ) (lists : List (List Ticket)) (xs : List Ticket) → n < length lists → xs ≡ get_or lists n xs → xs ≡ block_at n lists
block_read n lists xs h read = read ∙ get_or_default lists n xs [] h

pub same_blocks : (these those : List (List Ticket)) (n m : ℕ) → these ≡ those → n ≡ m → TheBlocks these n ≡ TheBlocks those m
same_blocks these those n m e f = ap (λ lists. TheBlocks lists n) e ∙ ap (TheBlocks those) f

parted_laid : (n : ℕ) (lists : List (List Ticket)) → n < length lists → insert (set lists n (take half (block_at n lists))) (n + 1) (drop half (block_at n lists)) ≡ parted n lists
parted_laid n [] h = absurd (omega (arith, h))
parted_laid zero (xs ∷ lists) h = refl
parted_laid (suc n) (xs ∷ lists) h =
    let next : (suc n + 1) ≡ suc (n + 1) = omega arith in
    ap (λ (k : ℕ). insert (xs ∷ set lists n (take half (block_at n lists))) k (drop half (block_at n lists))) next ∙ ap (λ rest. xs ∷ rest) (parted_laid n lists (omega (arith, h)))

-- the halves of a block in their places
pub parts : (n : ℕ) (lists : List (List Ticket)) (xs lower upper : List Ticket) → n < length lists → xs ≡ get_or lists n xs → lower ≡ take half xs → upper ≡ drop half xs → insert (set lists n lower) (n + 1) upper ≡ parted n lists
parts n lists xs lower upper h read e f =
    let own = block_read n lists xs h read in
    ap (λ ys. insert (set lists n ys) (n + 1) upper) (e ∙ ap (take half) own) ∙ ap (insert (set lists n (take half (block_at n lists))) (n + 1)) (f ∙ ap (drop half) own)
    ∙ parted_laid n lists h

united_laid : (n : ℕ) (lists : List (List Ticket)) → n + 1 < length lists → set (remove lists (n + 1)) n (block_at n lists ++ block_at (n + 1) lists) ≡ united n lists
united_laid n [] h = absurd (omega (arith, h))
united_laid n (xs ∷ []) h = absurd (omega (arith, h))
united_laid zero (xs ∷ ys ∷ lists) h = refl
united_laid (suc n) (xs ∷ ys ∷ lists) h =
    let next : (suc n + 1) ≡ suc (n + 1) = omega arith in
    ap (λ (k : ℕ). set (remove (xs ∷ ys ∷ lists) k) (suc n) (block_at n (ys ∷ lists) ++ block_at k (xs ∷ ys ∷ lists))) next ∙ ap (λ rest. xs ∷ rest) (united_laid n (ys ∷ lists) (omega (arith, h)))

-- a block and the next one in their place
pub unites : (n : ℕ) (lists rest : List (List Ticket)) (xs ys : List Ticket) → n + 1 < length lists → rest ≡ remove lists (n + 1) → xs ≡ get_or rest n xs → ys ≡ get_or lists (n + 1) ys → set rest n (xs ++ ys) ≡ united n lists
unites n lists rest xs ys h e first next =
    let kept : get_or rest n xs ≡ get_or lists n xs = ap (λ zss. get_or zss n xs) e ∙ get_or-remove_below lists (n + 1) xs n (omega arith) h in
    let own = block_read n lists xs (omega (arith, h)) (first ∙ kept) in
    let upper = block_read (n + 1) lists ys h next in
    ap (λ zss. set zss n (xs ++ ys)) e ∙ ap (λ zs. set (remove lists (n + 1)) n (zs ++ ys)) own ∙ ap (λ zs. set (remove lists (n + 1)) n (block_at n lists ++ zs)) upper
    ∙ united_laid n lists h
