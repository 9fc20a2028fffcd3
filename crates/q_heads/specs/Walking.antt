-- What a caller knows in a walk along the heads of a class.
use Rattle.std.specs.Prelude.{◌≡◌, Bool, false, find, Some, true, ℕ}
use Rattle.q_sorted.specs.declared.ticket.Ticket.{Ticket}
use Rattle.q_sorted.specs.Tickets.{goes_before, is_of}
use Rattle.q_heads.specs.Lanes.{class_of, goes_ahead, Lanes}

-- the ticket is the head of a lane of the class
pub record IsHeadOf (class : ℕ) (s : Lanes) (e : Ticket) : Type 0 where
  pub of_class : class_of e.group s.classes ≡ class
  pub first : find (is_of e.group) s.items ≡ Some e

-- no head of the class that goes ahead of the ticket passes the test
pub record FailAhead (class : ℕ) (s : Lanes) (test : Ticket → Bool) (e : Ticket) : Type 0 where
  pub fails : (x : Ticket) → IsHeadOf class s x → goes_ahead x e ≡ true → test x ≡ false

-- the ticket's lane has a head, which doesn't go behind the ticket
pub record HasHead (class : ℕ) (s : Lanes) (e : Ticket) : Type 0 where
  pub head : Ticket
  pub is : IsHeadOf class s head
  pub lane : head.group ≡ e.group
  pub first : goes_before e head ≡ false
