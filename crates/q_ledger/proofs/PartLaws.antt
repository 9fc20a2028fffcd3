-- Searches of a list by its parts, and among the elements that pass another test.
use Rattle.std.proofs.Common.{◌≡◌, ℕ, ◌+◌, Bool, true, false, cond, List, [], ◌∷◌, ◌++◌, filter, find, length, suc, Option, Some, None, refl, sym, ap, ◌∙◌, arith}
use Rattle.std.proofs.lemmas.Bool.{and_from, and_parts, or_from, or_parts}
use Rattle.std.proofs.lemmas.Bool.{ne_eqb}
use Rattle.std.proofs.lemmas.List.Sums.{length-filter, sum_by-cons}
use Rattle.std.specs.List.{list_all, list_any}
use Rattle.std.specs.Prelude.{◌&&◌, ◌==◌, ◌||◌, count_by, not, sum_by}
use Rattle.q_model.specs.Lists.{drop_first}
use Rattle.q_ledger.proofs.ListLaws.{find-none}

pub kept_all : {X : Type 0} (p : X → Bool) (xs : List X) → list_all p xs ≡ true → filter p xs ≡ xs
kept_all p [] h = refl
kept_all p (x ∷ xs) h =
    let two = and_parts (p x) (list_all p xs) h in
    ap (λ c. cond c (x ∷ filter p xs) (filter p xs)) two.0 ∙ ap (λ ys. x ∷ ys) (kept_all p xs two.1)

pub kept_none : {X : Type 0} (p : X → Bool) (xs : List X) → list_any p xs ≡ false → filter p xs ≡ []
kept_none p [] h = refl
kept_none p (x ∷ xs) h =
    let two = or_parts (p x) (list_any p xs) h in
    ap (λ c. cond c (x ∷ filter p xs) (filter p xs)) two.0 ∙ kept_none p xs two.1

-- ---- the first that passes, in two lists

drop_step : {X : Type 0} (x : X) (all xs rest zs : List X) (b a : Bool) → (b || a) ≡ true → (a ≡ true → zs ≡ rest ++ xs) → cond b (all ++ xs) (x ∷ zs) ≡ cond b all (x ∷ rest) ++ xs
drop_step x all xs rest zs true a h k = refl
drop_step x all xs rest zs false a h k = ap (λ ws. x ∷ ws) (k h)

-- one of the first list passes
pub dropped_there : {X : Type 0} (p : X → Bool) (xs ys : List X) → list_any p xs ≡ true → drop_first p (xs ++ ys) ≡ drop_first p xs ++ ys
dropped_there p [] ys h = cc
dropped_there p (x ∷ xs) ys h = drop_step x xs ys (drop_first p xs) (drop_first p (xs ++ ys)) (p x) (list_any p xs) h (dropped_there p xs ys)

-- none of them does
pub dropped_behind : {X : Type 0} (p : X → Bool) (xs ys : List X) → list_any p xs ≡ false → drop_first p (xs ++ ys) ≡ xs ++ drop_first p ys
dropped_behind p [] ys h = refl
dropped_behind p (x ∷ xs) ys h =
    let two = or_parts (p x) (list_any p xs) h in
    ap (λ c. cond c (xs ++ ys) (x ∷ drop_first p (xs ++ ys))) two.0 ∙ ap (λ zs. x ∷ zs) (dropped_behind p xs ys two.1)

-- what is dropped counts no more
sum_step : {X : Type 0} (f : X → ℕ) (x y : X) (xs rest : List X) (o : Option X) (b : Bool) → (o ≡ Some y → sum_by f xs ≡ f y + sum_by f rest) → cond b (Some x) o ≡ Some y → sum_by f (x ∷ xs) ≡ f y + sum_by f (cond b xs (x ∷ rest))
sum_step f x y xs rest o true h e = let same : x ≡ y = cc in sum_by-cons f x xs ∙ ap (λ z. f z + sum_by f xs) same
sum_step f x y xs rest o false h e =
    let less : sum_by f xs ≡ f y + sum_by f rest = h e in
    let more : sum_by f (x ∷ rest) ≡ f x + sum_by f rest = sum_by-cons f x rest in
    sum_by-cons f x xs ∙ omega (arith, less, more)

pub sum_dropped : {X : Type 0} (f : X → ℕ) (p : X → Bool) (xs : List X) (y : X) → find p xs ≡ Some y → sum_by f xs ≡ f y + sum_by f (drop_first p xs)
sum_dropped f p [] y h = cc
sum_dropped f p (x ∷ xs) y h = sum_step f x y xs (drop_first p xs) (find p xs) (p x) (sum_dropped f p xs y) h

pub nothing_dropped : {X : Type 0} (p : X → Bool) (xs : List X) → list_any p xs ≡ false → drop_first p xs ≡ xs
nothing_dropped p [] h = refl
nothing_dropped p (x ∷ xs) h =
    let two = or_parts (p x) (list_any p xs) h in
    ap (λ c. cond c xs (x ∷ drop_first p xs)) two.0 ∙ ap (λ zs. x ∷ zs) (nothing_dropped p xs two.1)

-- ---- among those that pass another test

among_step : {X : Type 0} (q : X → Bool) (x : X) (rest : List X) (a b : Bool) (n : Bool) → q x ≡ b → n ≡ list_any q rest → ((a && b) || n) ≡ list_any q (cond a (x ∷ rest) rest)
among_step q x rest true b n e h = ap (λ c. c || n) (sym e) ∙ ap (λ c. q x || c) h
among_step q x rest false b n e h = h

pub any_among : {X : Type 0} (p q : X → Bool) (xs : List X) → list_any (λ x. p x && q x) xs ≡ list_any q (filter p xs)
any_among p q [] = refl
any_among p q (x ∷ xs) = among_step q x (filter p xs) (p x) (q x) (list_any (λ y. p y && q y) xs) refl (any_among p q xs)

kept_step : {X : Type 0} (q : X → Bool) (x : X) (rest kept : List X) (a b : Bool) → q x ≡ b → kept ≡ filter q rest → cond (a && b) (x ∷ kept) kept ≡ filter q (cond a (x ∷ rest) rest)
kept_step q x rest kept true b e h = ap (λ c. cond c (x ∷ kept) kept) (sym e) ∙ ap (λ zs. cond (q x) (x ∷ zs) zs) h
kept_step q x rest kept false b e h = h

pub kept_among : {X : Type 0} (p q : X → Bool) (xs : List X) → filter (λ x. p x && q x) xs ≡ filter q (filter p xs)
kept_among p q [] = refl
kept_among p q (x ∷ xs) = kept_step q x (filter p xs) (filter (λ y. p y && q y) xs) (p x) (q x) refl (kept_among p q xs)

find_step : {X : Type 0} (q : X → Bool) (x : X) (rest : List X) (o : Option X) (a b : Bool) → q x ≡ b → o ≡ find q rest → cond (a && b) (Some x) o ≡ find q (cond a (x ∷ rest) rest)
find_step q x rest o true b e h = ap (λ c. cond c (Some x) o) (sym e) ∙ ap (λ r. cond (q x) (Some x) r) h
find_step q x rest o false b e h = h

pub some_length : {X : Type 0} (x : X) (xs : List X) → (length (x ∷ xs) == 0) ≡ false
some_length x xs = ne_eqb (suc (length xs)) 0 (λ e. omega (arith, e))

counted_step : {X : Type 0} (x : X) (rest : List X) (a n : Bool) → n ≡ not (length rest == 0) → (a || n) ≡ not (length (cond a (x ∷ rest) rest) == 0)
counted_step x rest true n h = ap not (sym (some_length x rest))
counted_step x rest false n h = h

-- one passes where those that pass are not none
pub any_kept : {X : Type 0} (p : X → Bool) (xs : List X) → list_any p xs ≡ not (length (filter p xs) == 0)
any_kept p [] = refl
any_kept p (x ∷ xs) = counted_step x (filter p xs) (p x) (list_any p xs) (any_kept p xs)

-- ---- where what passes one test passes the other too

abbrev pub Implies : {X : Type 0} → (X → Bool) → (X → Bool) → Type 0
Implies {X} p q = (x : X) → p x ≡ true → q x ≡ true

within_step : {X : Type 0} (p : X → Bool) (x : X) (rest : List X) (o : Option X) (a b : Bool) → p x ≡ a → (a ≡ true → b ≡ true) → o ≡ find p rest → cond a (Some x) o ≡ find p (cond b (x ∷ rest) rest)
within_step p x rest o true true e h k = ap (λ c. cond c (Some x) (find p rest)) (sym e)
within_step p x rest o true false e h k = let bad : false ≡ true = h refl in cc
within_step p x rest o false true e h k = k ∙ ap (λ c. cond c (Some x) (find p rest)) (sym e)
within_step p x rest o false false e h k = k

pub find_within : {X : Type 0} (p q : X → Bool) (xs : List X) → Implies p q → find p xs ≡ find p (filter q xs)
find_within p q [] h = refl
find_within p q (x ∷ xs) h = within_step p x (filter q xs) (find p xs) (p x) (q x) refl (h x) (find_within p q xs h)

any_step : {X : Type 0} (p : X → Bool) (x : X) (rest : List X) (n : Bool) (a b : Bool) → p x ≡ a → (a ≡ true → b ≡ true) → n ≡ list_any p rest → (a || n) ≡ list_any p (cond b (x ∷ rest) rest)
any_step p x rest n true true e h k = ap (λ c. c || list_any p rest) (sym e)
any_step p x rest n true false e h k = let bad : false ≡ true = h refl in cc
any_step p x rest n false true e h k = k ∙ ap (λ c. c || list_any p rest) (sym e)
any_step p x rest n false false e h k = k

pub any_within : {X : Type 0} (p q : X → Bool) (xs : List X) → Implies p q → list_any p xs ≡ list_any p (filter q xs)
any_within p q [] h = refl
any_within p q (x ∷ xs) h = any_step p x (filter q xs) (list_any p xs) (p x) (q x) refl (h x) (any_within p q xs h)

both_false : (a b : Bool) → (a ≡ true → b ≡ true) → b ≡ false → a ≡ false
both_false true b h e = let bad : true ≡ false = sym (h refl) ∙ e in cc
both_false false b h e = refl

pub none_within : {X : Type 0} (p q : X → Bool) (xs : List X) → Implies p q → list_any q xs ≡ false → list_any p xs ≡ false
none_within p q [] h e = refl
none_within p q (x ∷ xs) h e =
    let two = or_parts (q x) (list_any q xs) e in
    or_from (p x) (list_any p xs) (both_false (p x) (q x) (h x) two.0) (none_within p q xs h two.1)

-- ---- what all have, those that are left have

left_step : {X : Type 0} (q : X → Bool) (x : X) (xs rest : List X) (b : Bool) → q x ≡ true → list_all q xs ≡ true → list_all q rest ≡ true → list_all q (cond b xs (x ∷ rest)) ≡ true
left_step q x xs rest true e h k = h
left_step q x xs rest false e h k = and_from (q x) (list_all q rest) e k

pub all_left : {X : Type 0} (q p : X → Bool) (xs : List X) → list_all q xs ≡ true → list_all q (drop_first p xs) ≡ true
all_left q p [] h = refl
all_left q p (x ∷ xs) h =
    let two = and_parts (q x) (list_all q xs) h in
    left_step q x xs (drop_first p xs) (p x) two.0 two.1 (all_left q p xs two.1)

pub none_dropped : {X : Type 0} (p : X → Bool) (xs : List X) → find p xs ≡ None → drop_first p xs ≡ xs
none_dropped p xs h = nothing_dropped p xs (find-none p xs h)

kept_within_step : {X : Type 0} (p : X → Bool) (x : X) (rest kept : List X) (a b : Bool) → p x ≡ a → (a ≡ true → b ≡ true) → kept ≡ filter p rest → cond a (x ∷ kept) kept ≡ filter p (cond b (x ∷ rest) rest)
kept_within_step p x rest kept true true e h k = ap (λ ys. x ∷ ys) k ∙ ap (λ c. cond c (x ∷ filter p rest) (filter p rest)) (sym e)
kept_within_step p x rest kept true false e h k = let bad : false ≡ true = h refl in cc
kept_within_step p x rest kept false true e h k = k ∙ ap (λ c. cond c (x ∷ filter p rest) (filter p rest)) (sym e)
kept_within_step p x rest kept false false e h k = k

pub kept_within : {X : Type 0} (p q : X → Bool) (xs : List X) → Implies p q → filter p xs ≡ filter p (filter q xs)
kept_within p q [] h = refl
kept_within p q (x ∷ xs) h = kept_within_step p x (filter q xs) (filter p xs) (p x) (q x) refl (h x) (kept_within p q xs h)

pub count_among : {X : Type 0} (p q : X → Bool) (xs : List X) → count_by (λ x. p x && q x) xs ≡ count_by q (filter p xs)
count_among p q xs = sym (length-filter (λ x. p x && q x) xs) ∙ ap length (kept_among p q xs) ∙ length-filter q (filter p xs)

length_step : {X : Type 0} (x y : X) (xs rest : List X) (o : Option X) (b : Bool) → (o ≡ Some y → length xs ≡ 1 + length rest) → cond b (Some x) o ≡ Some y → length (x ∷ xs) ≡ 1 + length (cond b xs (x ∷ rest))
length_step x y xs rest o true h e = omega arith
length_step x y xs rest o false h e = let less : length xs ≡ 1 + length rest = h e in omega (arith, less)

-- one less is left
pub length_dropped : {X : Type 0} (p : X → Bool) (xs : List X) (y : X) → find p xs ≡ Some y → length xs ≡ 1 + length (drop_first p xs)
length_dropped p [] y h = cc
length_dropped p (x ∷ xs) y h = length_step x y xs (drop_first p xs) (find p xs) (p x) (length_dropped p xs y) h
