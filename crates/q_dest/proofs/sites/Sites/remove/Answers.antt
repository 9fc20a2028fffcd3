use Rattle.std.proofs.Common.{ap, ◌∙◌, subst, sym}
use Rattle.std.specs.Prelude.{find}
use Rattle.q_dest.proofs.Changes.{is_else}
use Rattle.q_dest.proofs.Counted.{counted_enough, counts_without}
use Rattle.q_dest.proofs.Counts.{counted_left}
use Rattle.q_dest.proofs.Kept.{kept_left}
use Rattle.q_dest.specs.Counting.{AreCounted}
use Rattle.q_dest.specs.Dests.{AreKept, Dests, is_at, is_dead_waiting, is_remembered}
use Rattle.q_dest.proofs.sites.Sites.remove.Goals as goal

pub without-self-inside-requires-clause-remembered : goal.without-self-inside-requires-clause-remembered
without-self-inside-requires-clause-remembered c =
    counted_enough is_remembered _ c.args.site.now c.args.found.now c.self.inside.table.items c.self.invariant.0.remembered_is c.stand_apart.ensures.apart (ap (λ (p : Dests). find (is_at c.args.site.now) p.items) c.self.view_is ∙ c.requires)

pub without-self-inside-requires-clause-dead_waiting : goal.without-self-inside-requires-clause-dead_waiting
without-self-inside-requires-clause-dead_waiting c =
    counted_enough is_dead_waiting _ c.args.site.now c.args.found.now c.self.inside.table.items c.self.invariant.0.dead_waiting_is c.stand_apart.ensures.apart (ap (λ (p : Dests). find (is_at c.args.site.now) p.items) c.self.view_is ∙ c.requires)

pub invariant_of-self : goal.invariant_of-self
invariant_of-self c =
    let a = c.self.inside in (
      subst (λ (t : Dests). AreCounted c.without-self-inside.result t.items) (sym c.remove.ensures)
          (counts_without a.counts _ c.args.found.now a.table.items _ (λ p. counted_left p c.args.site.now c.args.found.now a.table.items c.stand_apart.ensures.apart (ap (λ (p : Dests). find (is_at c.args.site.now) p.items) c.self.view_is ∙ c.requires))
          c.self.invariant.0 c.without-self-inside.ensures.remembered c.without-self-inside.ensures.dead_waiting),
      subst (λ (t : Dests). AreKept t.items) (sym c.remove.ensures) (kept_left (is_else c.args.site.now) a.table.items c.self.invariant.1),
    )
