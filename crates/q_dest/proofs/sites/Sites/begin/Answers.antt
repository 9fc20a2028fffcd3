use Rattle.std.proofs.Common.{◌-◌, ap, ◌∙◌, List, sym}
use Rattle.std.specs.Prelude.{find}
use Rattle.q_dest.proofs.Changes.{changed_none, found_named}
use Rattle.q_dest.proofs.Kept.{kept_busy}
use Rattle.q_dest.specs.Dests.{begun, Dests, is_at, is_kept}
use Rattle.q_dest.specs.declared.dest.Dest.{Dest}
use Rattle.q_model.specs.SiteRecords.{is_awake}
use Rattle.q_dest.proofs.sites.Sites.begin.Goals as goal

pub replace-requires-clause-same : goal.replace-requires-clause-same
replace-requires-clause-same c =
    ap (λ (d : Dest). d.known.site) c.begun-next.ensures
    ∙ found_named c.args.site.now c.self.inside.table.items c.in-Some.found (sym c.get.ensures ∙ c.in-Some.is)

pub returns-in_default : goal.returns-in_default
returns-in_default c =
    let now = c.args.self.now in
    ap (λ (ds : List Dest). record now { items = ds }) (sym (changed_none c.args.site.now begun now.items (ap (λ (p : Dests). find (is_at c.args.site.now) p.items) (sym c.self.view_is) ∙ sym c.get.ensures ∙ c.in_default.is)))

pub replace-requires-clause-kept : goal.replace-requires-clause-kept
replace-requires-clause-kept c =
    ap is_kept c.begun-next.ensures ∙ kept_busy (is_awake c.in-Some.found.known) (c.in-Some.found.waiting - 1) c.in-Some.found.busy
