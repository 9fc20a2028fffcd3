use Rattle.std.proofs.Common.{◌≡◌, ◌<◌, ◌++◌, [], ◌∷◌, ap, ◌∙◌, arith, length, Some, subst, sym}
use Rattle.std.specs.Prelude.{filter, find}
use Rattle.q_dest.proofs.Changes.{absent_else, is_else}
use Rattle.q_dest.proofs.Counted.{counted_enough, counted_few, counts_changed}
use Rattle.q_dest.proofs.Counts.{counted_moved, fewer_else}
use Rattle.q_dest.proofs.Kept.{kept_left, kept_more}
use Rattle.q_dest.specs.Counting.{AreCounted}
use Rattle.q_dest.specs.Dests.{AreKept, Dests, is_at, is_dead_waiting, is_remembered}
use Rattle.q_model.specs.Values.{Site}
use Rattle.q_dest.proofs.sites.Sites.move_last.Goals as goal

pub push-requires-clause-absent : goal.push-requires-clause-absent
push-requires-clause-absent c =
    let site = c.args.site.now in
    ap (λ (s : Site). find (is_at s) c.remove.new.self.items) c.requires.same
    ∙ ap (λ (p : Dests). find (is_at site) p.items) c.remove.ensures ∙ absent_else site c.self.inside.table.items

pub push-requires-clause-room : goal.push-requires-clause-room
push-requires-clause-room c =
    let site = c.args.site.now in
    let there : find (is_at site) c.self.inside.table.items ≡ Some c.args.found.now = ap (λ (p : Dests). find (is_at site) p.items) c.self.view_is ∙ c.requires.found in
    let fewer = fewer_else site c.args.found.now c.self.inside.table.items there in
    subst (λ (p : Dests). length p.items < p.room) (sym c.remove.ensures) (omega (arith, fewer, c.stand_apart.ensures.within))

pub changed-self-inside-requires-clause-remembered : goal.changed-self-inside-requires-clause-remembered
changed-self-inside-requires-clause-remembered c =
    counted_enough is_remembered _ c.args.site.now c.args.found.now c.self.inside.table.items c.self.invariant.0.remembered_is c.stand_apart.ensures.apart
    (ap (λ (p : Dests). find (is_at c.args.site.now) p.items) c.self.view_is ∙ c.requires.found)

pub changed-self-inside-requires-clause-dead_waiting : goal.changed-self-inside-requires-clause-dead_waiting
changed-self-inside-requires-clause-dead_waiting c =
    counted_enough is_dead_waiting _ c.args.site.now c.args.found.now c.self.inside.table.items c.self.invariant.0.dead_waiting_is c.stand_apart.ensures.apart
    (ap (λ (p : Dests). find (is_at c.args.site.now) p.items) c.self.view_is ∙ c.requires.found)

pub changed-self-inside-requires-clause-remembered_few : goal.changed-self-inside-requires-clause-remembered_few
changed-self-inside-requires-clause-remembered_few c =
    counted_few is_remembered _ _ c.self.inside.table.items c.self.invariant.0.remembered_is c.stand_apart.ensures.within c.stand_apart.ensures.few

pub changed-self-inside-requires-clause-dead_waiting_few : goal.changed-self-inside-requires-clause-dead_waiting_few
changed-self-inside-requires-clause-dead_waiting_few c =
    counted_few is_dead_waiting _ _ c.self.inside.table.items c.self.invariant.0.dead_waiting_is c.stand_apart.ensures.within c.stand_apart.ensures.few

pub invariant_of-self : goal.invariant_of-self
invariant_of-self c =
    let a = c.self.inside in
    let site = c.args.site.now in
    let there : find (is_at site) a.table.items ≡ Some c.args.found.now = ap (λ (p : Dests). find (is_at site) p.items) c.self.view_is ∙ c.requires.found in
    let moved : c.push.new.self ≡ record a.table { items = filter (is_else site) a.table.items ++ c.args.next ∷ [] } =
    c.push.ensures ∙ ap (λ (p : Dests). record p { items = p.items ++ c.args.next ∷ [] }) c.remove.ensures in (
      subst (λ (t : Dests). AreCounted c.changed-self-inside.result t.items) (sym moved)
          (counts_changed a.counts _ c.args.found.now c.args.next a.table.items _ (λ p. counted_moved p site c.args.found.now c.args.next a.table.items c.stand_apart.ensures.apart there)
          c.self.invariant.0 c.changed-self-inside.ensures.remembered c.changed-self-inside.ensures.dead_waiting),
      subst (λ (t : Dests). AreKept t.items) (sym moved) (kept_more (filter (is_else site) a.table.items) c.args.next (kept_left (is_else site) a.table.items c.self.invariant.1) c.requires.kept),
    )
