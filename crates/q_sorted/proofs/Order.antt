-- The order of tickets, and what is past a cut.
use Rattle.std.proofs.Common.{◌≡◌, arith, Bool, cond, false, true, ℕ}
use Rattle.std.proofs.lemmas.Bool.{false_from_ne_true, not-true, not_from_false}
use Rattle.std.proofs.lemmas.Bool.Decides.{nat_tests}
use Rattle.std.specs.Prelude.{not}
use Rattle.q_sorted.specs.declared.ticket.Cut.{Cut}
use Rattle.q_sorted.specs.declared.ticket.Ticket.{Ticket}
use Rattle.q_sorted.specs.Blocks.{is_past}
use Rattle.q_sorted.specs.Tickets.{goes_before, is_another, is_of}

pub before_along : (a b c : Ticket) → goes_before a b ≡ true → goes_before b c ≡ true → goes_before a c ≡ true
before_along a b c h k = grind (arith, nat_tests)

pub not_back : (a b : Ticket) → goes_before a b ≡ true → goes_before b a ≡ false
not_back a b h = grind (arith, nat_tests)

pub another_before : (e x : Ticket) → goes_before x e ≡ true → is_another e x ≡ true
another_before e x h = grind (arith, nat_tests)

pub another_behind : (e x : Ticket) → goes_before e x ≡ true → is_another e x ≡ true
another_behind e x h = grind (arith, nat_tests)

pub same_between : (e x : Ticket) → goes_before x e ≡ false → goes_before e x ≡ false → is_another e x ≡ false
same_between e x h k = grind (arith, nat_tests)

-- what goes behind the same ticket
pub between : (e x y : Ticket) → goes_before x e ≡ false → goes_before e x ≡ false → goes_before x y ≡ true → goes_before e y ≡ true
between e x y h k b = grind (arith, nat_tests)

-- the least ticket of a group
abbrev pub least_of : ℕ → Ticket
least_of group = record { group = group; key = 0; item = 0 }

-- what goes before it is of a group below
pub not_below : (group : ℕ) (x : Ticket) → goes_before x (least_of group) ≡ true → is_of group x ≡ false
not_below group x h = grind (arith, nat_tests)

-- and what goes behind one of a group above is of no group below that
pub not_of : (group : ℕ) (x y : Ticket) → goes_before x (least_of group) ≡ false → is_of group x ≡ false → goes_before x y ≡ true → is_of group y ≡ false
not_of group x y h k b = grind (arith, nat_tests)

past_step : (t : Bool) (e x y : Ticket) → goes_before x y ≡ true → cond t (goes_before e x) (not (goes_before x e)) ≡ true → cond t (goes_before e y) (not (goes_before y e)) ≡ true
past_step true e x y h k = before_along e x y k h
past_step false e x y h k =
    not_from_false (goes_before y e) (false_from_ne_true (goes_before y e) (λ back. let ahead = before_along x y e h back in let none = not-true (goes_before x e) k in absurd cc))

-- what goes behind a ticket past the cut is past it too
pub past_along : (c : Cut) (x y : Ticket) → goes_before x y ≡ true → is_past c x ≡ true → is_past c y ≡ true
past_along c x y h k = past_step c.behind c.ticket x y h k
