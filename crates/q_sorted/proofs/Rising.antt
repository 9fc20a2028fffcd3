-- Tickets that rise.
use Rattle.std.proofs.Common.{◌≡◌, ◌<◌, ◌++◌, arith, get_or, length, List, [], ◌∷◌, suc, true, zero, ℕ}
use Rattle.std.specs.List.{AllByRecursion}
use Rattle.q_sorted.specs.declared.ticket.Ticket.{Ticket}
use Rattle.q_sorted.specs.Tickets.{goes_before, Rises}
use Rattle.q_sorted.proofs.Order.{before_along}

-- the ticket goes before all of these
abbrev pub AreBehind : Ticket → List Ticket → Type 0
AreBehind x ys = AllByRecursion (λ y. goes_before x y ≡ true) ys

pub behind_along : (x y : Ticket) (ys : List Ticket) → goes_before x y ≡ true → AreBehind y ys → AreBehind x ys
behind_along x y [] h b = tt
behind_along x y (z ∷ zs) h b = (before_along x y z h b.0, behind_along x y zs h b.1)

pub behind_left : (x : Ticket) (ys zs : List Ticket) → AreBehind x (ys ++ zs) → AreBehind x ys
behind_left x [] zs b = tt
behind_left x (y ∷ ys) zs b = (b.0, behind_left x ys zs b.1)

pub behind_right : (x : Ticket) (ys zs : List Ticket) → AreBehind x (ys ++ zs) → AreBehind x zs
behind_right x [] zs b = b
behind_right x (y ∷ ys) zs b = behind_right x ys zs b.1

pub behind_both : (x : Ticket) (ys zs : List Ticket) → AreBehind x ys → AreBehind x zs → AreBehind x (ys ++ zs)
behind_both x [] zs b c = c
behind_both x (y ∷ ys) zs b c = (b.0, behind_both x ys zs b.1 c)

pub rises_left : (xs ys : List Ticket) → Rises (xs ++ ys) → Rises xs
rises_left [] ys r = tt
rises_left (x ∷ xs) ys r = (behind_left x xs ys r.0, rises_left xs ys r.1)

pub rises_right : (xs ys : List Ticket) → Rises (xs ++ ys) → Rises ys
rises_right [] ys r = r
rises_right (x ∷ xs) ys r = rises_right xs ys r.1

-- what stands between goes
pub rises_around : (xs ys zs : List Ticket) → Rises (xs ++ (ys ++ zs)) → Rises (xs ++ zs)
rises_around [] ys zs r = rises_right ys zs r
rises_around (x ∷ xs) ys zs r =
    (behind_both x xs zs (behind_left x xs (ys ++ zs) r.0) (behind_right x ys zs (behind_right x xs (ys ++ zs) r.0)), rises_around xs ys zs r.1)

-- and what stands at the end
pub rises_first : (xs ys zs : List Ticket) → Rises (xs ++ (ys ++ zs)) → Rises (xs ++ ys)
rises_first [] ys zs r = rises_left ys zs r
rises_first (x ∷ xs) ys zs r =
    (behind_both x xs ys (behind_left x xs (ys ++ zs) r.0) (behind_left x ys zs (behind_right x xs (ys ++ zs) r.0)), rises_first xs ys zs r.1)

behind_at : (x : Ticket) (ys : List Ticket) (j : ℕ) (d : Ticket) → AreBehind x ys → j < length ys → goes_before x (get_or ys j d) ≡ true
behind_at x [] j d b h = absurd (omega (arith, h))
behind_at x (y ∷ ys) zero d b h = b.0
behind_at x (y ∷ ys) (suc j) d b h = behind_at x ys j d b.1 (omega (arith, h))

pub rises_at : (xs : List Ticket) (i j : ℕ) (d : Ticket) → Rises xs → i < j → j < length xs → goes_before (get_or xs i d) (get_or xs j d) ≡ true
rises_at [] i j d r h k = absurd (omega (arith, k))
rises_at (x ∷ xs) i zero d r h k = absurd (omega (arith, h))
rises_at (x ∷ xs) zero (suc j) d r h k = behind_at x xs j d r.0 (omega (arith, k))
rises_at (x ∷ xs) (suc i) (suc j) d r h k = rises_at xs i j d r.1 (omega (arith, h)) (omega (arith, k))
