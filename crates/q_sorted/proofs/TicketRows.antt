-- Worked rows of the order of tickets, and of a ticket that comes.
use Rattle.std.proofs.Common.{◌≡◌, ◌∷◌, [], false, List, refl, true, ℕ}
use Rattle.std.specs.Prelude.{filter}
use Rattle.q_sorted.specs.declared.ticket.Ticket.{Ticket}
use Rattle.q_sorted.specs.Tickets.{goes_before, inserted, is_another, Rises}

abbrev ticket : ℕ → ℕ → ℕ → Ticket
ticket group key item = record { group = group; key = key; item = item }

by_group : (goes_before (ticket 1 9 9) (ticket 2 0 0) ≡ true) × (goes_before (ticket 2 0 0) (ticket 1 9 9) ≡ false)
by_group = (refl, refl)

by_key : (goes_before (ticket 7 4 9) (ticket 7 5 0) ≡ true) × (goes_before (ticket 7 5 0) (ticket 7 4 9) ≡ false)
by_key = (refl, refl)

by_item : (goes_before (ticket 7 5 0) (ticket 7 5 1) ≡ true) × (goes_before (ticket 7 5 1) (ticket 7 5 0) ≡ false)
by_item = (refl, refl)

not_before_itself : goes_before (ticket 7 5 1) (ticket 7 5 1) ≡ false
not_before_itself = refl

abbrev three : List Ticket
three = ticket 2 60 8 ∷ ticket 7 4 9 ∷ ticket 7 5 1 ∷ []

three_rise : Rises three
three_rise = ((refl, (refl, tt)), ((refl, tt), (tt, tt)))

equal_do_not : Rises (ticket 7 5 1 ∷ ticket 7 5 1 ∷ []) → ⊥
equal_do_not h = absurd cc

comes_first : inserted (ticket 2 60 7) three ≡ ticket 2 60 7 ∷ three
comes_first = refl

comes_between : inserted (ticket 7 5 0) three ≡ ticket 2 60 8 ∷ ticket 7 4 9 ∷ ticket 7 5 0 ∷ ticket 7 5 1 ∷ []
comes_between = refl

comes_last : inserted (ticket 9 0 0) three ≡ ticket 2 60 8 ∷ ticket 7 4 9 ∷ ticket 7 5 1 ∷ ticket 9 0 0 ∷ []
comes_last = refl

is_there : inserted (ticket 7 4 9) three ≡ three
is_there = refl

goes : filter (is_another (ticket 7 4 9)) three ≡ ticket 2 60 8 ∷ ticket 7 5 1 ∷ []
goes = refl

none_goes : filter (is_another (ticket 7 4 8)) three ≡ three
none_goes = refl
