-- How the tickets stand in blocks.
use Rattle.std.specs.Prelude.{◌≡◌, ◌≤◌, ◌<◌, ◌+◌, ◌++◌, ◌/◌, ◌^◌, [], Bool, drop, false, if◌then◌else◌, length, List, nat_lt, not, slice_index_or, slice_set, suc, take, Vec, vec_capacity, zero, ℕ, ◌∷◌}
use Rattle.std.specs.declared.alloc.Global.{Global}
use Rattle.std.specs.List.{flat_map}
use Rattle.q_sorted.specs.declared.ticket.Ticket.{Ticket}
use Rattle.q_sorted.specs.declared.ticket.Cut.{Cut}
use Rattle.q_sorted.specs.Tickets.{goes_before, Rises}

-- the blocks, and how many there are with those that wait
pub record Blocks : Type 0 where
  pub lists : List (List Ticket)
  pub total : ℕ

abbrev pub all_blocks : List (List Ticket) → List (List Ticket) → Blocks
all_blocks used free = record { lists = used; total = length used + length free }

-- the tickets of all blocks in order
abbrev pub joined : List (List Ticket) → List Ticket
joined lists = flat_map (λ list. list) lists

-- the ticket goes behind the one of the cut, or is no longer before it
abbrev pub is_past : Cut → Ticket → Bool
is_past cut x = if cut.behind then goes_before cut.ticket x else not (goes_before x cut.ticket)

-- its last ticket is past the cut
abbrev pub ends_past : Cut → List Ticket → Bool
ends_past cut [] = false
ends_past cut (x ∷ []) = is_past cut x
ends_past cut (x ∷ y ∷ ys) = ends_past cut (y ∷ ys)

-- the ticket is taken from behind those that go before it, where it stands there
abbrev pub removed : Ticket → List Ticket → List Ticket
removed e [] = []
removed e (x ∷ xs) =
    if goes_before x e then x ∷ removed e xs else (if goes_before e x then x ∷ xs else xs)

-- the place has a ticket that doesn't go behind this one
abbrev pub stands_at : ℕ → Ticket → List Ticket → Bool
stands_at place e [] = false
stands_at zero e (x ∷ xs) = not (goes_before e x)
stands_at (suc place) e (x ∷ xs) = stands_at place e xs

-- how many tickets a block has at most, and how many at least but for the first block
abbrev pub most : ℕ
most = 64

abbrev pub least : ℕ
least = 28

-- how many stay in a block that is parted
abbrev pub half : ℕ
half = 32

-- how many tickets a block has room for: those of a full one, and fewer than the least
abbrev pub block_room : ℕ
block_room = 92

-- no block has more than the most, the first has so many and each other at least the least
abbrev pub AreFilled : ℕ → List (List Ticket) → Type 0
AreFilled low [] = Unit {0}
AreFilled low (list ∷ lists) = (low ≤ length list) × (length list ≤ most) × AreFilled least lists

-- the block at a place
abbrev pub block_at : ℕ → List (List Ticket) → List Ticket
block_at place lists = slice_index_or lists place []

-- another list in the place of a block
abbrev pub with_block : ℕ → List Ticket → Blocks → Blocks
with_block place list blocks = record blocks { lists = slice_set blocks.lists place list }

-- a block in two halves
abbrev pub parted : ℕ → List (List Ticket) → List (List Ticket)
parted place [] = []
parted zero (list ∷ lists) = take half list ∷ drop half list ∷ lists
parted (suc place) (list ∷ lists) = list ∷ parted place lists

-- in two halves where it has more than the most
abbrev pub settled : ℕ → List (List Ticket) → List (List Ticket)
settled place lists =
    if nat_lt most (length (block_at place lists)) then parted place lists else lists

-- a block and the next one as one
abbrev pub united : ℕ → List (List Ticket) → List (List Ticket)
united place [] = []
united place (list ∷ []) = list ∷ []
united zero (list ∷ next ∷ lists) = (list ++ next) ∷ lists
united (suc place) (list ∷ next ∷ lists) = list ∷ united place (next ∷ lists)

-- united with the one before it where it has fewer than the least
abbrev pub mended : ℕ → List (List Ticket) → List (List Ticket)
mended zero lists = lists
mended (suc place) lists =
    if nat_lt (length (block_at (suc place) lists)) least then settled place (united place lists)
    else lists

-- there is room for each block where it is used and where it waits
pub record HaveRoom {A : Type 0} (used free : Vec (List A) Global) : Type 0 where
  pub to_use : length used.items + length free.items ≤ vec_capacity used
  pub to_wait : length used.items + length free.items ≤ vec_capacity free

-- the blocks that so many tickets can fill, and one more
abbrev pub blocks_for : ℕ → ℕ
blocks_for room = room / least + 2

-- what always holds of blocks in order
pub record AreSound (lists : List (List Ticket)) : Type 0 where
  pub rising : Rises (joined lists)
  pub filled : AreFilled 0 lists
  pub some : 1 ≤ length lists

-- what always holds of tickets in order
pub record IsSound (blocks : Blocks) (len room : ℕ) : Type 0 where
  pub sound : AreSound blocks.lists
  pub total : blocks.total ≡ blocks_for room
  pub count : len ≡ length (joined blocks.lists)
  pub within : len ≤ room
  pub few : room < 2 ^ 30
