use Rattle.std.proofs.Common.{◌≡◌, false, length}
use Rattle.std.specs.Prelude.{◌==◌}
use Rattle.q_heads.specs.Lanes.{class_of, stands}
use Rattle.q_sorted.specs.declared.ticket.Ticket.{Ticket}
use Rattle.q_turns.proofs.TakenOut.{with_items}
use Rattle.q_turns.proofs.moving.take_class_out.Given as goal

-- the tickets of other classes stay
abbrev pub invariant-loop-head : goal.invariant-loop-head
invariant-loop-head l = record {
  rest : l.heads ≡ with_items l.fn.heads l.heads.items;
  others : (x : Ticket) → (class_of x.group l.fn.heads.classes == l.class) ≡ false → stands x l.heads.items ≡ stands x l.fn.heads.items;
}

abbrev pub decreases-loop-head : goal.decreases-loop-head
decreases-loop-head l = length l.heads.items
