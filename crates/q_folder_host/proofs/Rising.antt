-- Names that rise, and one more.
use Rattle.std.proofs.Common.{◌≡◌, ℕ, List, [], ◌∷◌, ◌++◌, Option, Some}
use Rattle.std.specs.Ordering.{nat_cmp}
use Rattle.std.specs.declared.cmp.Ordering.TheVariants.{Less}
use Rattle.std.specs.Cmp.Lexicographic.{slice_cmp}
use Rattle.q_host.specs.Reads.{Rise}

-- what stands after the last name rises with the others
pub rise_further : (after : Option (List ℕ)) (names : List (List ℕ)) (last n : List ℕ) → Rise after (names ++ last ∷ []) → slice_cmp nat_cmp last n ≡ Less → Rise after ((names ++ last ∷ []) ++ n ∷ [])
rise_further after [] last n rise later = (rise.0, (later, tt))
rise_further after (m ∷ names) last n rise later = (rise.0, rise_further (Some m) names last n rise.1 later)
