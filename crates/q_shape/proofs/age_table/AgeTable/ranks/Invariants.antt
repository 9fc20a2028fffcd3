use Rattle.std.proofs.Common.{◌≡◌, ◌++◌, map}
use Rattle.q_shape.specs.Rows.{names_of, rank_at, rank_seen}
use Rattle.q_shape.proofs.age_table.AgeTable.ranks.Given as goal

abbrev pub invariant-loop-name : goal.invariant-loop-name
invariant-loop-name l = record {
  ranks : map rank_seen l.ranks.items ++ map (λ key. rank_at l.self.rows.entries key.items) l.name-iterator ≡ map (rank_at l.self.rows.entries) (names_of l.self.rows.entries);
}
