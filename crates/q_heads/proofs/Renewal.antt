-- One mark in the place of another.
use Rattle.std.proofs.Common.{◌≡◌, ◌∙◌, ◌≤◌, ◌<◌, ◌||◌, ◌&&◌, ap, arith, Bool, false, length, List, None, not, Option, refl, Some, true, ℕ}
use Rattle.std.specs.Option.{IfNone}
use Rattle.std.specs.Prelude.{IfSome}
use Rattle.q_sorted.specs.declared.ticket.Ticket.{Ticket}
use Rattle.q_heads.specs.Lanes.{is_same, is_the, stands}
use Rattle.q_heads.specs.Marks.{are_same, with_mark, without}
use Rattle.q_heads.proofs.Standing.{fewer_left, same_is, stands_inserted, stands_left}

-- what is taken out leaves room
pub room_left : (from : Option Ticket) (xs : List Ticket) (room : ℕ) → IfSome from (λ m. stands m xs ≡ true) → IfNone from (length xs < room) → length xs ≤ room → length (without from xs) < room
room_left None xs room there few within = few
room_left (Some m) xs room there few within = omega (arith, within, fewer_left m xs there)

-- and is asked for where something comes
pub room_for : (to : Option Ticket) (n room : ℕ) → n < room → IfSome to (λ _. n < room)
room_for None n room h = tt
room_for (Some m) n room h = h

out_step : (a b : Bool) → (not a && b) ≡ (b && not a)
out_step true true = refl
out_step true false = refl
out_step false true = refl
out_step false false = refl

and_all : (b : Bool) → b ≡ (b && not false)
and_all true = refl
and_all false = refl

stands_out : (from : Option Ticket) (x : Ticket) (xs : List Ticket) → stands x (without from xs) ≡ (stands x xs && not (is_the x from))
stands_out None x xs = and_all (stands x xs)
stands_out (Some m) x xs = stands_left m x xs ∙ out_step (is_same x m) (stands x xs)

stands_in : (to : Option Ticket) (x : Ticket) (xs : List Ticket) → stands x (with_mark to xs) ≡ (is_the x to || stands x xs)
stands_in None x xs = refl
stands_in (Some m) x xs = stands_inserted m x xs

-- what stands once one mark is in the place of another
pub renewed : (from to : Option Ticket) (x : Ticket) (xs : List Ticket) → stands x (with_mark to (without from xs)) ≡ (is_the x to || stands x xs && not (is_the x from))
renewed from to x xs = stands_in to x (without from xs) ∙ ap (λ t. is_the x to || t) (stands_out from x xs)

same_step : (a b : Bool) → (a ≡ true → b ≡ true) → b ≡ (a || b && not a)
same_step true b h = h refl
same_step false b h = and_all b

-- nothing changes where both are the same
pub kept : (from to : Option Ticket) (x : Ticket) (xs : List Ticket) → are_same from to ≡ true → IfSome from (λ m. stands m xs ≡ true) → stands x xs ≡ (is_the x to || stands x xs && not (is_the x from))
kept None None x xs same there = and_all (stands x xs)
kept None (Some b) x xs same there = absurd cc
kept (Some a) None x xs same there = absurd cc
kept (Some a) (Some b) x xs same there =
    let one = same_is a b same in
    same_step (is_same x a) (stands x xs) (λ own. ap (λ y. stands y xs) (same_is x a own) ∙ there)
    ∙ ap (λ y. is_same x y || stands x xs && not (is_same x a)) one
