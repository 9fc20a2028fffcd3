-- The numbers in all lists are apart, as the places of the one path are.
use Rattle.std.proofs.Common.{◌∷◌, ◌++◌, ◌+◌, [], List, ℕ}
use Rattle.std.specs.List.{concat}
use Rattle.q_chains.specs.Laid.{AreApart, IsLaid, Lacks, strung}
use Rattle.q_chains.specs.Lists.{StandOnce}
use Rattle.q_chains.proofs.Borders.{apart_back, lacks_append, lacks_back, lacks_front}
use Rattle.q_chains.proofs.Walks.{distinct}

lacks_joined : (p border : ℕ) (xss : List (List ℕ)) → Lacks p (strung border xss) → Lacks p (concat xss)
lacks_joined p border [] h = tt
lacks_joined p border (xs ∷ xss) h =
    let rest = strung (border + 1) xss in
    lacks_append p xs (concat xss) (lacks_front p xs ((border + 1) ∷ rest) h) (lacks_joined p (border + 1) xss (lacks_back p xs ((border + 1) ∷ rest) h).1)

-- what stands behind is replaced by others that lack no less
apart_swapped : (xs ys zs : List ℕ) → ((p : ℕ) → Lacks p ys → Lacks p zs) → AreApart zs → AreApart (xs ++ ys) → AreApart (xs ++ zs)
apart_swapped [] ys zs f k h = k
apart_swapped (x ∷ xs) ys zs f k h = (lacks_append x xs zs (lacks_front x xs ys h.0) (f x (lacks_back x xs ys h.0)), apart_swapped xs ys zs f k h.1)

apart_joined : (border : ℕ) (xss : List (List ℕ)) → AreApart (strung border xss) → AreApart (concat xss)
apart_joined border [] h = tt
apart_joined border (xs ∷ xss) h =
    let rest = strung (border + 1) xss in
    apart_swapped xs ((border + 1) ∷ rest) (concat xss) (λ p k. lacks_joined p (border + 1) xss k.1) (apart_joined (border + 1) xss (apart_back xs ((border + 1) ∷ rest) h).1) h

pub laid_once : (nx bf : List ℕ) (numbers : ℕ) (xss : List (List ℕ)) → IsLaid nx bf numbers xss → StandOnce (record { lists = xss; numbers = numbers })
laid_once nx bf numbers xss h = record { below = h.below; once = distinct (concat xss) (apart_joined numbers xss h.apart.1) }
