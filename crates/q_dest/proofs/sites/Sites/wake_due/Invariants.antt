use Rattle.std.proofs.Common.{◌≡◌, map}
use Rattle.std.specs.Prelude.{filter}
use Rattle.q_dest.specs.Counting.{count_of}
use Rattle.q_dest.specs.Dests.{is_due_at, is_kept, woken_when_due}
use Rattle.q_dest.proofs.sites.Sites.wake_due.Given as goal

-- what is left to revive comes to the same
abbrev pub invariant-loop-found : goal.invariant-loop-found
invariant-loop-found l = record {
  room : l.self.room ≡ l.fn.self.room;
  rest : filter is_kept (map (woken_when_due l.params l.moment) l.self.items)
      ≡ filter is_kept (map (woken_when_due l.params l.moment) l.fn.self.items);
}

abbrev pub decreases-loop-found : goal.decreases-loop-found
decreases-loop-found l = count_of (is_due_at l.moment) l.self.items
