-- What a contract sees of tickets in order.
use Rattle.std.specs.Prelude.{◌≡◌, ◌&&◌, ◌||◌, ◌==◌, [], Bool, if◌then◌else◌, List, nat_lt, not, true, ℕ, ◌∷◌}
use Rattle.std.specs.List.{AllByRecursion}
use Rattle.q_sorted.specs.declared.ticket.Ticket.{Ticket}

-- the tickets, and how many have room
pub record Tickets : Type 0 where
  pub items : List Ticket
  pub room : ℕ

-- by group, then by key, then by item
abbrev pub goes_before : Ticket → Ticket → Bool
goes_before a b = nat_lt a.group b.group
    || (a.group == b.group) && (nat_lt a.key b.key || (a.key == b.key) && nat_lt a.item b.item)

-- x isn't the ticket e
abbrev pub is_another : Ticket → Ticket → Bool
is_another e x = not ((x.group == e.group) && (x.key == e.key) && (x.item == e.item))

abbrev pub is_of : ℕ → Ticket → Bool
is_of group x = x.group == group

-- the ticket stands behind those that go before it, and only once
abbrev pub inserted : Ticket → List Ticket → List Ticket
inserted e [] = e ∷ []
inserted e (x ∷ xs) =
    if goes_before x e then x ∷ inserted e xs
    else (if goes_before e x then e ∷ x ∷ xs else x ∷ xs)

-- each ticket goes before all that stand behind it
abbrev pub Rises : List Ticket → Type 0
Rises [] = Unit {0}
Rises (x ∷ xs) = AllByRecursion (λ y. goes_before x y ≡ true) xs × Rises xs
