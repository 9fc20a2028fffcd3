-- Worked rows of heads and of what is foremost among them.
use Rattle.std.proofs.Common.{◌≡◌, ◌∷◌, [], false, None, refl, Some, true, ℕ}
use Rattle.q_sorted.specs.declared.ticket.Ticket.{Ticket}
use Rattle.q_heads.specs.Lanes.{foremost, goes_ahead, heads_behind, heads_of, is_head, Lanes}

abbrev ticket : ℕ → ℕ → ℕ → Ticket
ticket lane key item = record { group = lane; key = key; item = item }

by_key : (goes_ahead (ticket 4 20 9) (ticket 1 30 0) ≡ true) × (goes_ahead (ticket 1 30 0) (ticket 4 20 9) ≡ false)
by_key = (refl, refl)

by_lane : (goes_ahead (ticket 1 20 9) (ticket 4 20 0) ≡ true) × (goes_ahead (ticket 4 20 0) (ticket 1 20 9) ≡ false)
by_lane = (refl, refl)

not_by_item : (goes_ahead (ticket 1 20 0) (ticket 1 20 9) ≡ false) × (goes_ahead (ticket 1 20 9) (ticket 1 20 0) ≡ false)
not_by_item = (refl, refl)

-- lanes 1, 3 and 4 are of class 7, and lane 2 of class 5
abbrev lanes : Lanes
lanes = record {
  items = ticket 1 30 6 ∷ ticket 1 30 8 ∷ ticket 2 10 4 ∷ ticket 3 20 1 ∷ ticket 3 90 1 ∷ ticket 4 20 0 ∷ [];
  classes = 7 ∷ 7 ∷ 5 ∷ 7 ∷ 7 ∷ [];
  room = 9;
  lanes = 5;
}

first_is_head : (is_head lanes.items (ticket 1 30 6) ≡ true) × (is_head lanes.items (ticket 1 30 8) ≡ false)
first_is_head = (refl, refl)

heads : heads_of 7 lanes ≡ ticket 1 30 6 ∷ ticket 3 20 1 ∷ ticket 4 20 0 ∷ []
heads = refl

first : foremost (heads_of 7 lanes) ≡ Some (ticket 3 20 1)
first = refl

of_another_class : foremost (heads_of 5 lanes) ≡ Some (ticket 2 10 4)
of_another_class = refl

of_no_lane : foremost (heads_of 6 lanes) ≡ None
of_no_lane = refl

second : foremost (heads_behind (ticket 3 20 1) lanes) ≡ Some (ticket 4 20 0)
second = refl

last : foremost (heads_behind (ticket 4 20 0) lanes) ≡ Some (ticket 1 30 6)
last = refl

none_behind : foremost (heads_behind (ticket 1 30 6) lanes) ≡ None
none_behind = refl

-- lane 0 has no ticket
behind_no_head : foremost (heads_behind (ticket 0 20 5) lanes) ≡ Some (ticket 3 20 1)
behind_no_head = refl
