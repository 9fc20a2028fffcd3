-- What an insertion and a removal make of tickets that rise.
use Rattle.std.proofs.Common.{◌≡◌, ◌≢◌, ap, Bool, cond, false, List, [], ◌∷◌, refl, sym, true, ◌∙◌}
use Rattle.std.proofs.lemmas.Bool.{eq-eqb, ne_eqb}
use Rattle.std.specs.Prelude.{filter, find, None, not, Option, Some, ◌==◌, ℕ}
use Rattle.q_sorted.specs.declared.ticket.Ticket.{Ticket}
use Rattle.q_sorted.specs.Blocks.{removed}
use Rattle.q_sorted.specs.Tickets.{goes_before, inserted, is_another, is_of, Rises, Tickets}
use Rattle.q_sorted.proofs.Order.{another_before, another_behind, between, least_of, not_below, not_of, same_between}
use Rattle.q_sorted.proofs.Rising.{AreBehind, behind_along}

-- A ticket comes.
behind_inserted_step : (x e y : Ticket) (ys : List Ticket) (t u : Bool) → goes_before x e ≡ true → AreBehind x (y ∷ ys) → AreBehind x (inserted e ys) → AreBehind x (cond t (y ∷ inserted e ys) (cond u (e ∷ y ∷ ys) (y ∷ ys)))
behind_inserted_step x e y ys true u h b rest = (b.0, rest)
behind_inserted_step x e y ys false true h b rest = (h, b)
behind_inserted_step x e y ys false false h b rest = b

behind_inserted : (x e : Ticket) (ys : List Ticket) → goes_before x e ≡ true → AreBehind x ys → AreBehind x (inserted e ys)
behind_inserted x e [] h b = (h, tt)
behind_inserted x e (y ∷ ys) h b = behind_inserted_step x e y ys (goes_before y e) (goes_before e y) h b (behind_inserted x e ys h b.1)

rises_inserted_step : (e x : Ticket) (xs : List Ticket) (t u : Bool) → goes_before x e ≡ t → goes_before e x ≡ u → Rises (x ∷ xs) → Rises (inserted e xs) → Rises (cond t (x ∷ inserted e xs) (cond u (e ∷ x ∷ xs) (x ∷ xs)))
rises_inserted_step e x xs true u h k r rest = (behind_inserted x e xs h r.0, rest)
rises_inserted_step e x xs false true h k r rest = ((k, behind_along e x xs k r.0), r)
rises_inserted_step e x xs false false h k r rest = r

pub rises_inserted : (e : Ticket) (xs : List Ticket) → Rises xs → Rises (inserted e xs)
rises_inserted e [] r = (tt, tt)
rises_inserted e (x ∷ xs) r = rises_inserted_step e x xs (goes_before x e) (goes_before e x) refl refl r (rises_inserted e xs r.1)

-- A ticket goes.
behind_removed_step : (x y : Ticket) (ys zs : List Ticket) (t u : Bool) → AreBehind x (y ∷ ys) → AreBehind x zs → AreBehind x (cond t (y ∷ zs) (cond u (y ∷ ys) ys))
behind_removed_step x y ys zs true u b rest = (b.0, rest)
behind_removed_step x y ys zs false true b rest = b
behind_removed_step x y ys zs false false b rest = b.1

behind_removed : (x e : Ticket) (ys : List Ticket) → AreBehind x ys → AreBehind x (removed e ys)
behind_removed x e [] b = tt
behind_removed x e (y ∷ ys) b = behind_removed_step x y ys (removed e ys) (goes_before y e) (goes_before e y) b (behind_removed x e ys b.1)

rises_removed_step : (e x : Ticket) (xs : List Ticket) (t u : Bool) → Rises (x ∷ xs) → Rises (removed e xs) → Rises (cond t (x ∷ removed e xs) (cond u (x ∷ xs) xs))
rises_removed_step e x xs true u r rest = (behind_removed x e xs r.0, rest)
rises_removed_step e x xs false true r rest = r
rises_removed_step e x xs false false r rest = r.1

pub rises_removed : (e : Ticket) (xs : List Ticket) → Rises xs → Rises (removed e xs)
rises_removed e [] r = tt
rises_removed e (x ∷ xs) r = rises_removed_step e x xs (goes_before x e) (goes_before e x) r (rises_removed e xs r.1)

-- all that stand behind another one are others
others_behind : (e : Ticket) (xs : List Ticket) → AreBehind e xs → filter (is_another e) xs ≡ xs
others_behind e [] b = refl
others_behind e (x ∷ xs) b = rw (another_behind e x b.0) (ap (λ ys. x ∷ ys) (others_behind e xs b.1))

same_behind : (e x : Ticket) (xs : List Ticket) → goes_before x e ≡ false → goes_before e x ≡ false → AreBehind x xs → AreBehind e xs
same_behind e x [] h k b = tt
same_behind e x (y ∷ ys) h k b = (between e x y h k b.0, same_behind e x ys h k b.1)

removed_step : (e x : Ticket) (xs : List Ticket) (t u : Bool) → goes_before x e ≡ t → goes_before e x ≡ u → Rises (x ∷ xs) → removed e xs ≡ filter (is_another e) xs → cond t (x ∷ removed e xs) (cond u (x ∷ xs) xs) ≡ filter (is_another e) (x ∷ xs)
removed_step e x xs true u h k r rest = rw (another_before e x h) (ap (λ ys. x ∷ ys) rest)
removed_step e x xs false true h k r rest = rw (another_behind e x k) (ap (λ ys. x ∷ ys) (sym (others_behind e xs (behind_along e x xs k r.0))))
removed_step e x xs false false h k r rest = rw (same_between e x h k) (sym (others_behind e xs (same_behind e x xs h k r.0)))

pub removed_filters : (e : Ticket) (xs : List Ticket) → Rises xs → removed e xs ≡ filter (is_another e) xs
removed_filters e [] r = refl
removed_filters e (x ∷ xs) r = removed_step e x xs (goes_before x e) (goes_before e x) refl refl r (removed_filters e xs r.1)

-- The first of a group.
-- the first ticket, where it is of the group
abbrev pub if_of : ℕ → Option Ticket → Option Ticket
if_of group None = None
if_of group (Some x) = cond (x.group == group) (Some x) None

none_behind : (group : ℕ) (x : Ticket) (xs : List Ticket) → goes_before x (least_of group) ≡ false → is_of group x ≡ false → AreBehind x xs → find (is_of group) xs ≡ None
none_behind group x [] h k b = refl
none_behind group x (y ∷ ys) h k b = rw (not_of group x y h k b.0) (none_behind group x ys h k b.1)

of_step : (group : ℕ) (x : Ticket) (xs : List Ticket) (t u : Bool) → goes_before x (least_of group) ≡ t → is_of group x ≡ u → Rises (x ∷ xs)
    → if_of group (find (λ y. not (goes_before y (least_of group))) xs) ≡ find (is_of group) xs → if_of group (cond (not t) (Some x) (find (λ y. not (goes_before y (least_of group))) xs)) ≡ cond u (Some x) (find (is_of group) xs)
of_step group x xs true u h k r rest = rest ∙ ap (λ (t : Bool). cond t (Some x) (find (is_of group) xs)) (sym (not_below group x h) ∙ k)
of_step group x xs false true h k r rest = rw k refl
of_step group x xs false false h k r rest = rw k (sym (none_behind group x xs h k r.0))

pub first_of_group : (group : ℕ) (xs : List Ticket) → Rises xs → if_of group (find (λ y. not (goes_before y (least_of group))) xs) ≡ find (is_of group) xs
first_of_group group [] r = refl
first_of_group group (x ∷ xs) r = of_step group x xs (goes_before x (least_of group)) (is_of group x) refl refl r (first_of_group group xs r.1)

pub own_group : (group : ℕ) (x : Ticket) → x.group ≡ group → Some x ≡ if_of group (Some x)
own_group group x h = rw (eq-eqb x.group group h) refl

pub other_group : (group : ℕ) (x : Ticket) → x.group ≢ group → None ≡ if_of group (Some x)
other_group group x h = rw (ne_eqb x.group group h) refl

-- what a removal leaves
abbrev TheTickets : List Ticket → ℕ → Tickets
TheTickets items room = record { items = items; room = room }

pub left_by : (e : Ticket) (old new : List Ticket) (was : Tickets) (room : ℕ) → Rises old → new ≡ removed e old → TheTickets old room ≡ was → TheTickets new room ≡ TheTickets (filter (is_another e) was.items) was.room
left_by e old new was room r is view =
    ap (λ items. TheTickets items room) (is ∙ removed_filters e old r) ∙ ap (λ (s : Tickets). TheTickets (filter (is_another e) s.items) s.room) view
