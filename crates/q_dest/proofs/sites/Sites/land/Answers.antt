use Rattle.std.proofs.Common.{ap, ◌∙◌, List, subst, sym}
use Rattle.std.specs.Prelude.{find}
use Rattle.q_dest.proofs.Changes.{found_named}
use Rattle.q_dest.proofs.Kept.{settled_nowhere}
use Rattle.q_dest.specs.Dests.{AreKept, Dests, is_at, landed}
use Rattle.q_dest.specs.declared.dest.Dest.{Dest}
use Rattle.q_dest.proofs.sites.Sites.land.Goals as goal

pub settle-requires-clause-same : goal.settle-requires-clause-same
settle-requires-clause-same c =
    ap (λ (d : Dest). d.known.site) c.landed-next.ensures
    ∙ found_named c.args.site.now c.self.inside.table.items c.in-Some.found (sym c.get.ensures ∙ c.in-Some.is)

pub returns-in_default : goal.returns-in_default
returns-in_default c =
    let now = c.args.self.now in
    ap (λ (ds : List Dest). record now { items = ds }) (settled_nowhere c.args.site.now landed now.items (subst (λ (p : Dests). AreKept p.items) c.self.view_is c.self.invariant.1) (ap (λ (p : Dests). find (is_at c.args.site.now) p.items) (sym c.self.view_is) ∙ sym c.get.ensures ∙ c.in_default.is))
