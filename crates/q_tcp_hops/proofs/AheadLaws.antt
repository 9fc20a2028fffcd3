-- Bytes that were read, as the first of them are given.
use Rattle.std.proofs.Common.{◌≡◌, ◌∙◌, ◌++◌, ◌+◌, ◌-◌, ◌≤◌, ℕ, List, drop, take, length, slice_range, sym, ap, subst, arith, drop-drop, length-drop, length-take-le, take-append-drop}
use Rattle.std.proofs.lemmas.List.{drop-take, take-take}

-- the first m of those between two places, and the others
pub parted : (xs : List ℕ) (a e m : ℕ) → m ≤ e - a → slice_range xs a e ≡ take m (drop a xs) ++ slice_range xs (a + m) e
parted xs a e m low =
    let whole : m + (e - (a + m)) ≡ e - a = omega (arith, low) in
    sym (take-append-drop m (take (e - a) (drop a xs)))
    ∙ ap (λ l. l ++ drop m (take (e - a) (drop a xs))) (take-take m (e - a) (drop a xs) low)
    ∙ ap (λ l. take m (drop a xs) ++ l)
    (ap (λ k. drop m (take k (drop a xs))) (sym whole) ∙ drop-take m (e - (a + m)) (drop a xs) ∙ ap (take (e - (a + m))) (drop-drop m a xs))

-- They are given by a copy of as many into the front of a buffer.
pub given : (xs buf : List ℕ) (a e m k : ℕ) → k ≡ m → m ≤ e - a → e ≤ length xs → take (length (take k (drop a xs))) buf ≡ take k (drop a xs)
    → slice_range xs a e ≡ take m buf ++ slice_range xs (a + m) e
given xs buf a e m k same low fits copied =
    let within : k ≤ length (drop a xs) = omega (arith, same, low, fits, length-drop a xs) in
    let size : length (take k (drop a xs)) ≡ k = length-take-le k (drop a xs) within in
    let front : take k buf ≡ take k (drop a xs) = subst (λ (n : ℕ). take n buf ≡ take k (drop a xs)) size copied in
    let first : take m buf ≡ take m (drop a xs) = subst (λ (n : ℕ). take n buf ≡ take n (drop a xs)) same front in
    parted xs a e m low ∙ ap (λ l. l ++ slice_range xs (a + m) e) (sym first)
