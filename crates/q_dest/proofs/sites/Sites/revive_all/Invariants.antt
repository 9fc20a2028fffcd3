use Rattle.std.proofs.Common.{◌≡◌, map}
use Rattle.std.specs.Prelude.{filter}
use Rattle.q_dest.specs.Counting.{count_of}
use Rattle.q_dest.specs.Dests.{is_dead, is_kept, revived_when_dead}
use Rattle.q_dest.proofs.sites.Sites.revive_all.Given as goal

-- what is left to revive comes to the same
abbrev pub invariant-loop-found : goal.invariant-loop-found
invariant-loop-found l = record {
  room : l.self.room ≡ l.fn.self.room;
  rest : filter is_kept (map (revived_when_dead l.params) l.self.items)
      ≡ filter is_kept (map (revived_when_dead l.params) l.fn.self.items);
}

abbrev pub decreases-loop-found : goal.decreases-loop-found
decreases-loop-found l = count_of is_dead l.self.items
