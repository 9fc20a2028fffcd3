-- Worked rows of ranks that rise, and of the rank of a place.
use Rattle.std.proofs.Common.{◌≡◌, ◌∷◌, [], arith, lit<, None, refl, Some}
use Rattle.q_ranks.specs.Ranking.{rank_of, Rises}

none : Rises (7 ∷ []) []
none = tt

three : Rises (30 ∷ 10 ∷ 0 ∷ 20 ∷ []) (1 ∷ 3 ∷ 0 ∷ [])
three = (lit< tt, (lit< tt, (lit< tt, tt)))

equal : Rises (10 ∷ 10 ∷ []) (0 ∷ 1 ∷ []) → ⊥
equal h = absurd (omega (arith, h.1.0))

unranked : Rises (10 ∷ []) (1 ∷ []) → ⊥
unranked h = absurd (omega (arith, h.0))

ranks : (rank_of (30 ∷ 10 ∷ []) (Some 1) ≡ 10) × (rank_of (30 ∷ 10 ∷ []) (Some 2) ≡ 0) × (rank_of (30 ∷ 10 ∷ []) None ≡ 0)
ranks = (refl, refl, refl)
