use Rattle.std.proofs.Common.{rules}
use Rattle.std.proofs.lemmas.Map.Iter.{rest_more}
use Rattle.std.specs.Map.Iter.{deref}
use Rattle.q_shape.specs.Rows.{rank_at}
use Rattle.q_shape.proofs.TextLaws.{ranks-end, ranks-more, ranks-start}
use Rattle.q_shape.proofs.age_table.AgeTable.ranks.Goals as goal

pub loop-name-init : goal.loop-name-init
loop-name-init c = record { ranks = ranks-start (rank_at c.args.self.now.rows.entries) _ c.into_iter-name-iterator.result c.new-ranks.result.items (search rules) (search rules) }

pub loop-name-preserved : goal.loop-name-preserved
loop-name-preserved c = record {
  ranks = ranks-more (rank_at c.args.self.now.rows.entries) c.loop-name.name-iterator c.next.new.self c.in-Some.name.now _ c.loop-name.ranks.items c.push.new.self.items _ c.loop-name.invariant.ranks
      (rest_more deref c.loop-name.name-iterator c.next.new.self c.next.result c.in-Some.name c.in-Some.is c.next.ensures.steps) c.in_ok-push.ensures.items (search rules);
}

pub returns : goal.returns
returns c = ranks-end (rank_at c.args.self.now.rows.entries) c.loop-name.name-iterator c.loop-name.ranks.items _ c.loop-name.invariant.ranks c.in-None.ensures.steps.0
