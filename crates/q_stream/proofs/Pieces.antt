-- Pieces from the front of what is left.
use Rattle.std.proofs.Common.{◌≡◌, ℕ, ◌+◌, List, [], ◌++◌, length, take, drop, Some, None, Option, sym, ap, ◌∙◌, arith, length-append, length-take-le, true≢false, is_some}
use Rattle.std.proofs.lemmas.List.{take-append-drop}
use Rattle.std.proofs.lemmas.Grind.{common_steps}
use Rattle.q_stream.specs.Takes.{TakesFront}
use Rattle.q_stream.specs.declared.source.Take.TheVariants.{Took}

drop_more : (at n : ℕ) (xs : List ℕ) → drop (at + n) xs ≡ drop n (drop at xs)
drop_more at n xs = search (arith, common_steps)

-- bytes that were copied from what is left, and the rest
pub front_taken : (bytes new : List ℕ) (at n : ℕ) → take n new ≡ take n (drop at bytes) → drop at bytes ≡ take n new ++ drop (at + n) bytes
front_taken bytes new at n e =
    sym (take-append-drop n (drop at bytes)) ∙ ap (λ (x : List ℕ). x ++ drop n (drop at bytes)) (sym e) ∙ ap (λ (x : List ℕ). take n new ++ x) (sym (drop_more at n bytes))

bytes_of : Option (List ℕ) → List ℕ
bytes_of None = []
bytes_of (Some bytes) = bytes

-- so many bytes fewer are left
pub fewer_left : (old new buf : List ℕ) (n : ℕ) → TakesFront (Some old) (Some new) (Took n) buf → length old ≡ n + length new
unfolding bytes_of
fewer_left old new buf n takes =
    ap (λ o. length (bytes_of o)) takes.2 ∙ length-append (take n buf) new ∙ ap (λ m. m + length new) (length-take-le n buf takes.1)

-- where nothing is left, nothing is taken
pub none_taken : (new : Option (List ℕ)) (buf : List ℕ) (n : ℕ) → TakesFront (Some []) new (Took n) buf → ⊥
none_taken None buf n takes = absurd (true≢false (ap is_some takes.2))
none_taken (Some new) buf n takes = omega (arith, takes.0, fewer_left [] new buf n takes)
