use Rattle.std.proofs.Common.{◌≡◌, ap, ◌∙◌, List, map, Some, subst, sym}
use Rattle.std.specs.Prelude.{find}
use Rattle.q_dest.proofs.Changes.{changed_same}
use Rattle.q_dest.proofs.Counted.{counted_enough, counted_few, counts_changed}
use Rattle.q_dest.proofs.Counts.{counted_set}
use Rattle.q_dest.proofs.Kept.{kept_set}
use Rattle.q_dest.specs.Counting.{AreCounted}
use Rattle.q_dest.specs.Dests.{AreKept, changed_at, Dests, is_at, is_dead_waiting, is_remembered}
use Rattle.q_dest.specs.declared.dest.Dest.{Dest}
use Rattle.q_model.specs.Values.{Site}
use Rattle.q_dest.proofs.sites.Sites.replace.Goals as goal

pub changed-self-inside-requires-clause-remembered : goal.changed-self-inside-requires-clause-remembered
changed-self-inside-requires-clause-remembered c =
    counted_enough is_remembered _ c.args.site.now c.args.found.now c.self.inside.table.items c.self.invariant.0.remembered_is c.stand_apart.ensures.apart
    (ap (λ (p : Dests). find (is_at c.args.site.now) p.items) c.self.view_is ∙ c.requires.found)

pub changed-self-inside-requires-clause-dead_waiting : goal.changed-self-inside-requires-clause-dead_waiting
changed-self-inside-requires-clause-dead_waiting c =
    counted_enough is_dead_waiting _ c.args.site.now c.args.found.now c.self.inside.table.items c.self.invariant.0.dead_waiting_is c.stand_apart.ensures.apart
    (ap (λ (p : Dests). find (is_at c.args.site.now) p.items) c.self.view_is ∙ c.requires.found)

pub changed-self-inside-requires-clause-remembered_few : goal.changed-self-inside-requires-clause-remembered_few
changed-self-inside-requires-clause-remembered_few c =
    counted_few is_remembered _ _ c.self.inside.table.items c.self.invariant.0.remembered_is c.stand_apart.ensures.within c.stand_apart.ensures.few

pub changed-self-inside-requires-clause-dead_waiting_few : goal.changed-self-inside-requires-clause-dead_waiting_few
changed-self-inside-requires-clause-dead_waiting_few c =
    counted_few is_dead_waiting _ _ c.self.inside.table.items c.self.invariant.0.dead_waiting_is c.stand_apart.ensures.within c.stand_apart.ensures.few

pub invariant_of-self : goal.invariant_of-self
invariant_of-self c =
    let a = c.self.inside in
    let site = c.args.site.now in
    let there : find (is_at site) a.table.items ≡ Some c.args.found.now = ap (λ (p : Dests). find (is_at site) p.items) c.self.view_is ∙ c.requires.found in
    let set : c.set.new.self ≡ record a.table { items = map (changed_at site (λ d. c.args.next)) a.table.items } =
    c.set.ensures ∙ ap (λ (s : Site). record a.table { items = map (changed_at s (λ (d : Dest). c.args.next)) a.table.items }) c.requires.same in (
      subst (λ (t : Dests). AreCounted c.changed-self-inside.result t.items) (sym set)
          (counts_changed a.counts _ c.args.found.now c.args.next a.table.items _ (λ p. counted_set p site c.args.found.now c.args.next a.table.items c.stand_apart.ensures.apart there)
          c.self.invariant.0 c.changed-self-inside.ensures.remembered c.changed-self-inside.ensures.dead_waiting),
      subst (λ (t : Dests). AreKept t.items) (sym set) (kept_set site c.args.next a.table.items c.requires.kept c.self.invariant.1),
    )

pub returns : goal.returns
returns c = λ f is.
    let a = c.self.inside in
    let site = c.args.site.now in
    let there : find (is_at site) a.table.items ≡ Some c.args.found.now = ap (λ (p : Dests). find (is_at site) p.items) c.self.view_is ∙ c.requires.found in
    c.set.ensures
    ∙ ap (λ (s : Site). record a.table { items = map (changed_at s (λ (d : Dest). c.args.next)) a.table.items }) c.requires.same
    ∙ ap (λ (v : Dest). record a.table { items = map (changed_at site (λ (d : Dest). v)) a.table.items }) (sym is)
    ∙ ap (λ (ds : List Dest). record a.table { items = ds }) (changed_same site f c.args.found.now a.table.items c.stand_apart.ensures.apart there)
    ∙ ap (λ (p : Dests). record p { items = map (changed_at site f) p.items }) c.self.view_is

pub set-requires : goal.set-requires
set-requires c =
    let a = c.self.inside in
    ap (λ (s : Site). find (is_at s) a.table.items) c.requires.same
    ∙ ap (λ (p : Dests). find (is_at c.args.site.now) p.items) c.self.view_is ∙ c.requires.found
