-- The foremost of heads.
use Rattle.std.proofs.Common.{◌≡◌, ◌∙◌, ◌&&◌, [], ◌∷◌, ap, arith, Bool, false, inl, inr, List, None, not, Option, refl, Some, sym, true, ℕ}
use Rattle.std.proofs.lemmas.Bool.{and_from, and_parts, both_ways, eq-eqb, eqb-true, false_from_ne_true, not-true, not_from_false, or_cases}
use Rattle.std.proofs.lemmas.Bool.Decides.{nat_tests}
use Rattle.std.specs.List.{list_any}
use Rattle.std.specs.Prelude.{◌==◌, find}
use Rattle.q_sorted.specs.declared.ticket.Ticket.{Ticket}
use Rattle.q_sorted.specs.Tickets.{is_of}
use Rattle.q_heads.specs.Lanes.{class_of, foremost, goes_ahead, heads_of, is_head, is_same, is_the, Lanes, stands}
use Rattle.q_heads.specs.Walking.{IsHeadOf}
use Rattle.q_heads.proofs.Standing.{any_none, found, found_only, none_any, none_found, none_stand, same_is, same_refl, stands_filtered, stands_here, stands_later}

pub ahead_along : (a b c : Ticket) → goes_ahead a b ≡ true → goes_ahead b c ≡ true → goes_ahead a c ≡ true
ahead_along a b c h k = grind (arith, nat_tests)

pub not_ahead_of_itself : (a : Ticket) → goes_ahead a a ≡ false
not_ahead_of_itself a = grind (arith, nat_tests)

pub not_ahead_back : (a b : Ticket) → goes_ahead a b ≡ true → goes_ahead b a ≡ false
not_ahead_back a b h = grind (arith, nat_tests)

same_lane : (a b : Ticket) → goes_ahead a b ≡ false → goes_ahead b a ≡ false → a.group ≡ b.group
same_lane a b h k = grind (arith, nat_tests)

the_is : (e : Ticket) (o : Option Ticket) → is_the e o ≡ true → o ≡ Some e
the_is e None h = absurd cc
the_is e (Some x) h = ap (λ (y : Ticket). Some y) (sym (same_is e x h))

pub head_from : (class : ℕ) (s : Lanes) (e : Ticket) → stands e (heads_of class s) ≡ true → IsHeadOf class s e
head_from class s e h =
    let outer = and_parts ((class_of e.group s.classes == class) && is_head s.items e) (stands e s.items) (sym (stands_filtered (λ x. (class_of x.group s.classes == class) && is_head s.items x) e s.items) ∙ h) in
    let inner = and_parts (class_of e.group s.classes == class) (is_head s.items e) outer.0 in
    record { of_class = eqb-true (class_of e.group s.classes) class inner.0; first = the_is e (find (is_of e.group) s.items) inner.1 }

pub head_stands : (class : ℕ) (s : Lanes) (e : Ticket) → IsHeadOf class s e → stands e (heads_of class s) ≡ true
head_stands class s e is =
    stands_filtered (λ x. (class_of x.group s.classes == class) && is_head s.items x) e s.items
    ∙ and_from ((class_of e.group s.classes == class) && is_head s.items e) (stands e s.items)
    (and_from (class_of e.group s.classes == class) (is_head s.items e) (eq-eqb (class_of e.group s.classes) class is.of_class) (ap (is_the e) is.first ∙ same_refl e))
    (found (is_of e.group) e s.items is.first).0

-- two heads of which neither goes ahead of the other are one
pub same_head : (class : ℕ) (s : Lanes) (a b : Ticket) → IsHeadOf class s a → IsHeadOf class s b → goes_ahead a b ≡ false → goes_ahead b a ≡ false → a ≡ b
same_head class s a b p q h k =
    let lanes = ap (λ (n : ℕ). find (is_of n) s.items) (same_lane a b h k) in
    let both : Some a ≡ Some b = sym p.first ∙ lanes ∙ q.first in
    cc

-- What is foremost.
pub foremost_stands : (heads : List Ticket) (e : Ticket) → foremost heads ≡ Some e → stands e heads ≡ true
foremost_stands heads e h = (found (λ x. not (list_any (λ y. goes_ahead y x) heads)) e heads h).0

pub none_ahead_of : (heads : List Ticket) (e x : Ticket) → foremost heads ≡ Some e → stands x heads ≡ true → goes_ahead x e ≡ false
none_ahead_of heads e x h k =
    let passes = (found (λ y. not (list_any (λ z. goes_ahead z y) heads)) e heads h).1 in
    any_none (λ z. goes_ahead z e) x heads (not-true (list_any (λ z. goes_ahead z e) heads) passes) k

-- one of them, with none ahead of it
record HasNoneAhead (heads : List Ticket) : Type 0 where
  ticket : Ticket
  there : stands ticket heads ≡ true
  none : (x : Ticket) → stands x heads ≡ true → goes_ahead x ticket ≡ false

least_step : (z : Ticket) (zs : List Ticket) (least : HasNoneAhead zs) (t : Bool) → goes_ahead z least.ticket ≡ t → HasNoneAhead (z ∷ zs)
least_step z zs least true h = record {
  ticket = z;
  there = stands_here z z zs refl;
  none = λ x k. elim (or_cases (is_same x z) (stands x zs) k) [
    | inl here ↦ ap (λ w. goes_ahead w z) (same_is x z here) ∙ not_ahead_of_itself z
    | inr later ↦ false_from_ne_true (goes_ahead x z) (λ a. both_ways (goes_ahead x least.ticket) (least.none x later) (ahead_along x z least.ticket a h))
  ];
}
least_step z zs least false h = record {
  ticket = least.ticket;
  there = stands_later least.ticket z zs least.there;
  none = λ x k. elim (or_cases (is_same x z) (stands x zs) k) [
    | inl here ↦ ap (λ w. goes_ahead w least.ticket) (same_is x z here) ∙ h
    | inr later ↦ least.none x later
  ];
}

has_none_ahead : (z : Ticket) (zs : List Ticket) → HasNoneAhead (z ∷ zs)
has_none_ahead z [] = record {
  ticket = z;
  there = stands_here z z [] refl;
  none = λ x k. elim (or_cases (is_same x z) false k) [
    | inl here ↦ ap (λ w. goes_ahead w z) (same_is x z here) ∙ not_ahead_of_itself z
    | inr later ↦ absurd cc
  ];
}
has_none_ahead z (y ∷ ys) = let least = has_none_ahead y ys in least_step z (y ∷ ys) least (goes_ahead z least.ticket) refl

-- where none is foremost there are none
pub none_foremost : (heads : List Ticket) → foremost heads ≡ None → heads ≡ []
none_foremost [] h = refl
none_foremost (z ∷ zs) h =
    let least = has_none_ahead z zs in
    let heads : List Ticket = z ∷ zs in
    let fails = none_found (λ y. not (list_any (λ w. goes_ahead w y) heads)) least.ticket heads h least.there in
    let passes = not_from_false (list_any (λ w. goes_ahead w least.ticket) heads) (none_any (λ w. goes_ahead w least.ticket) heads least.none) in
    absurd (both_ways (not (list_any (λ w. goes_ahead w least.ticket) heads)) fails passes)

pub foremost_none : (heads : List Ticket) → ((x : Ticket) → stands x heads ≡ true → ⊥) → foremost heads ≡ None
foremost_none heads h = rw (none_stand heads h) refl

-- a head with none ahead of it is the foremost
pub foremost_is : (class : ℕ) (s : Lanes) (heads : List Ticket) (e : Ticket) → ((x : Ticket) → stands x heads ≡ true → IsHeadOf class s x) → stands e heads ≡ true → ((x : Ticket) → stands x heads ≡ true → goes_ahead x e ≡ false) → foremost heads ≡ Some e
foremost_is class s heads e are there none =
    found_only (λ y. not (list_any (λ z. goes_ahead z y) heads)) e heads there (not_from_false (list_any (λ z. goes_ahead z e) heads) (none_any (λ z. goes_ahead z e) heads none))
    (λ x k q. let back = any_none (λ z. goes_ahead z x) e heads (not-true (list_any (λ z. goes_ahead z x) heads) q) there in same_head class s e x (are e there) (are x k) back (none x k))
