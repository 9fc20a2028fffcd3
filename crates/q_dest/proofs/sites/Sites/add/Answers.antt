use Rattle.std.proofs.Common.{subst, sym}
use Rattle.q_dest.proofs.Counted.{counted_few, counts_with}
use Rattle.q_dest.proofs.Kept.{kept_more}
use Rattle.q_dest.specs.Counting.{AreCounted}
use Rattle.q_dest.specs.Dests.{AreKept, Dests, is_dead_waiting, is_remembered}
use Rattle.q_dest.proofs.sites.Sites.add.Goals as goal

pub with-self-inside-requires-clause-remembered_few : goal.with-self-inside-requires-clause-remembered_few
with-self-inside-requires-clause-remembered_few c =
    counted_few is_remembered _ _ c.self.inside.table.items c.self.invariant.0.remembered_is c.stand_apart.ensures.within c.stand_apart.ensures.few

pub with-self-inside-requires-clause-dead_waiting_few : goal.with-self-inside-requires-clause-dead_waiting_few
with-self-inside-requires-clause-dead_waiting_few c =
    counted_few is_dead_waiting _ _ c.self.inside.table.items c.self.invariant.0.dead_waiting_is c.stand_apart.ensures.within c.stand_apart.ensures.few

pub invariant_of-self : goal.invariant_of-self
invariant_of-self c =
    let a = c.self.inside in (
      subst (λ (t : Dests). AreCounted c.with-self-inside.result t.items) (sym c.push.ensures)
          (counts_with a.counts _ c.args.dest a.table.items c.self.invariant.0 c.with-self-inside.ensures.remembered c.with-self-inside.ensures.dead_waiting),
      subst (λ (t : Dests). AreKept t.items) (sym c.push.ensures) (kept_more a.table.items c.args.dest c.self.invariant.1 c.requires.kept),
    )
