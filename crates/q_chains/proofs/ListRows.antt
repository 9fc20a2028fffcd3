-- Worked rows of what calls see in lists and make of them.
use Rattle.std.proofs.Common.{◌≡◌, ◌∷◌, [], false, List, map, None, refl, Some, true, ℕ}
use Rattle.q_chains.specs.Lists.{ahead_of, behind, first_of, inserted, last_of, list_with, pushed, stands, without}

abbrev lists : List (List ℕ)
lists = [] ∷ (3 ∷ 4 ∷ 0 ∷ []) ∷ (5 ∷ []) ∷ []

stands_there : stands 4 lists ≡ true
stands_there = refl

stands_nowhere : stands 2 lists ≡ false
stands_nowhere = refl

list_of_last : list_with 0 lists ≡ 3 ∷ 4 ∷ 0 ∷ []
list_of_last = refl

list_of_none : list_with 2 lists ≡ []
list_of_none = refl

comes_last : pushed 1 2 lists ≡ [] ∷ (3 ∷ 4 ∷ 0 ∷ 2 ∷ []) ∷ (5 ∷ []) ∷ []
comes_last = refl

comes_alone : pushed 0 2 lists ≡ (2 ∷ []) ∷ (3 ∷ 4 ∷ 0 ∷ []) ∷ (5 ∷ []) ∷ []
comes_alone = refl

comes_between : map (inserted 2 0) lists ≡ [] ∷ (3 ∷ 4 ∷ 2 ∷ 0 ∷ []) ∷ (5 ∷ []) ∷ []
comes_between = refl

comes_first : map (inserted 2 3) lists ≡ [] ∷ (2 ∷ 3 ∷ 4 ∷ 0 ∷ []) ∷ (5 ∷ []) ∷ []
comes_first = refl

goes : map (without 4) lists ≡ [] ∷ (3 ∷ 0 ∷ []) ∷ (5 ∷ []) ∷ []
goes = refl

was_nowhere : map (without 2) lists ≡ lists
was_nowhere = refl

ends : (first_of (3 ∷ 4 ∷ 0 ∷ []) ≡ Some 3) × (last_of (3 ∷ 4 ∷ 0 ∷ []) ≡ Some 0)
ends = (refl, refl)

no_ends : (first_of [] ≡ None) × (last_of [] ≡ None)
no_ends = (refl, refl)

neighbours : (behind 4 (3 ∷ 4 ∷ 0 ∷ []) ≡ Some 0) × (ahead_of 4 (3 ∷ 4 ∷ 0 ∷ []) ≡ Some 3)
neighbours = (refl, refl)

no_neighbours : (behind 0 (3 ∷ 4 ∷ 0 ∷ []) ≡ None) × (ahead_of 3 (3 ∷ 4 ∷ 0 ∷ []) ≡ None)
no_neighbours = (refl, refl)
