-- When no number has a key.
use Rattle.std.proofs.Common.{◌≡◌, ◌≢◌, ◌≤◌, All, arith, List, slice_get, Some, ℕ}
use Rattle.std.proofs.lemmas.List.Elements.{All-from_get_or}
use Rattle.std.proofs.lemmas.Option.{get_or_from_slice_get, slice_get_within}
use Rattle.q_least.specs.Keys.{IsLeastAt, key_at, no_key}

-- the least key is the greatest that there is
pub none_has : (keys : List ℕ) (i key : ℕ) → All (λ k. k ≤ no_key) keys → IsLeastAt keys i → slice_get keys i ≡ Some key → key ≡ no_key → All (λ k. k ≡ no_key) keys
none_has keys i key bound h there e =
    let here : key_at keys i ≡ key = get_or_from_slice_get keys i key 0 there in
    All-from_get_or (λ k. k ≡ no_key) keys 0 (λ j within. omega (arith, here, e, h.least j within, bound j 0 within))

-- some number has another key
pub one_has : (keys : List ℕ) (i key : ℕ) → slice_get keys i ≡ Some key → key ≢ no_key → All (λ k. k ≡ no_key) keys → ⊥
one_has keys i key there other none =
    let here : key_at keys i ≡ key = get_or_from_slice_get keys i key 0 there in
    other (omega (arith, here, none i 0 (slice_get_within keys i key there)))
