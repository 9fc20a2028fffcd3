-- What a walk along tickets finds.
use Rattle.std.specs.Prelude.{◌≡◌, ◌&&◌, Bool, false, List, None, Option, Some, true, ℕ}
use Rattle.q_dest.specs.declared.dest.Dest.{Dest}
use Rattle.q_heads.specs.Lanes.{stands}
use Rattle.q_keyed.specs.Numbered.{Numbered}
use Rattle.q_sorted.specs.declared.ticket.Ticket.{Ticket}
use Rattle.q_sorted.specs.Tickets.{goes_before, is_of}
use Rattle.q_rounds.specs.declared.peer.Peer.{Peer}
use Rattle.q_rounds.specs.Listing.{space_in}

-- the ticket is of the round, and its peer's site has space
abbrev pub can_start : List Dest → List (Numbered Peer) → ℕ → Ticket → Bool
can_start ds ks round e = is_of round e && space_in ds ks e.item

-- the first ticket that passes: none that passes goes before it
pub record IsLeast (test : Ticket → Bool) (items : List Ticket) (e : Ticket) : Type 0 where
  pub there : stands e items ≡ true
  pub passes : test e ≡ true
  pub first : (x : Ticket) → stands x items ≡ true → test x ≡ true → goes_before x e ≡ false

abbrev pub IsFirst : (Ticket → Bool) → List Ticket → Option Ticket → Type 0
IsFirst test items None = (x : Ticket) → stands x items ≡ true → test x ≡ false
IsFirst test items (Some e) = IsLeast test items e
