use Rattle.std.proofs.Common.{map, subst}
use Rattle.std.specs.List.Sorted.{IsPermutation}
use Rattle.std.proofs.lemmas.List.Sorted.{IsPermutation-map}
use Rattle.q_shape.specs.Rows.{rank_seen}
use Rattle.q_shape.proofs.TextLaws.{seen-in-order}
use Rattle.q_shape.proofs.age_table.AgeTable.ranks_in_order.Goals as goal

pub returns : goal.returns
returns c = record {
  each_once = subst (λ xs. IsPermutation xs (map rank_seen c.sort.new.self.items)) c.in_ok-ranks.ensures (IsPermutation-map rank_seen c.in_ok-ranks.ranks.items c.sort.new.self.items c.in_ok-sort.ensures.permutation);
  in_order = seen-in-order c.sort.new.self.items c.in_ok-sort.ensures.sorted;
}
