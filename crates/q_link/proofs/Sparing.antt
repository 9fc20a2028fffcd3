-- How many fewer answers `NotYet` are left, over more calls than one.
use Rattle.std.proofs.Common.{◌+◌, ℕ, Option, None, Some, refl, subst, sym, arith}
use Rattle.q_link.specs.WaitsLeft.{Spares}

pub spares_same : (x : Option ℕ) → Spares 0 x x
spares_same None = tt
spares_same (Some n) = (n, refl, omega arith)

-- first some, then others
pub spares_then : (a b : ℕ) (x y z : Option ℕ) → Spares a x y → Spares b y z → Spares (a + b) x z
spares_then a b None y z first h = tt
spares_then a b (Some n) y z first h =
    let mid : Spares b (Some first.0) z = subst (λ (o : Option ℕ). Spares b o z) first.1 h in
    let less = first.2 in
    let more = mid.2 in
    (mid.0, mid.1, omega (arith, less, more))

-- of so many the first
pub spares_some : (a b : ℕ) (x y : Option ℕ) → Spares (a + b) x y → Spares a x y
spares_some a b None y h = tt
spares_some a b (Some n) y h = let less = h.2 in (h.0, h.1, omega (arith, less))
