use Rattle.std.proofs.Common.{ap, ◌∙◌, sym}
use Rattle.q_dest.proofs.Changes.{found_named}
use Rattle.q_dest.proofs.Hearing.{heard_site}
use Rattle.q_dest.specs.declared.dest.Dest.{Dest}
use Rattle.q_dest.proofs.sites.Sites.hear.Goals as goal

pub replace-requires-clause-same : goal.replace-requires-clause-same
replace-requires-clause-same c =
    ap (λ (d : Dest). d.known.site) c.heard-next.ensures
    ∙ heard_site c.args.params.now c.args.moment c.args.state c.in-Some.found
    ∙ found_named c.args.site.now c.self.inside.table.items c.in-Some.found (sym c.get.ensures ∙ c.in-Some.is)
