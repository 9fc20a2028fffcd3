use Rattle.std.proofs.Common.{◌++◌, ◌∷◌, [], ap, ◌∙◌, cond, map, sym}
use Rattle.std.specs.Prelude.{find}
use Rattle.q_dest.proofs.Changes.{any_found, any_none, found_named}
use Rattle.q_dest.specs.Dests.{changed_at, Dests, gained, is_at, new_dest}
use Rattle.q_dest.specs.declared.dest.Dest.{Dest}
use Rattle.q_dest.proofs.sites.Sites.gain.Goals as goal

pub replace-requires-clause-same : goal.replace-requires-clause-same
replace-requires-clause-same c =
    ap (λ (d : Dest). d.known.site) c.gained-next.ensures
    ∙ found_named c.args.site.now c.self.inside.table.items c.in-Some.found (sym c.get.ensures ∙ c.in-Some.is)

pub returns-in-Some : goal.returns-in-Some
returns-in-Some c =
    let now = c.args.self.now in
    let site = c.args.site.now in
    c.replace.ensures (gained 1) (sym c.gained-next.ensures)
    ∙ ap (λ b. record now { items = cond b (map (changed_at site (gained 1)) now.items) (now.items ++ new_dest c.args.params.now site ∷ []) })
    (sym (any_found (is_at site) c.in-Some.found now.items (ap (λ (p : Dests). find (is_at site) p.items) (sym c.self.view_is) ∙ sym c.get.ensures ∙ c.in-Some.is)))

pub returns-in-None : goal.returns-in-None
returns-in-None c =
    let now = c.args.self.now in
    let site = c.args.site.now in
    c.add.ensures
    ∙ ap (λ (d : Dest). record now { items = now.items ++ d ∷ [] }) c.new.ensures
    ∙ ap (λ b. record now { items = cond b (map (changed_at site (gained 1)) now.items) (now.items ++ new_dest c.args.params.now site ∷ []) })
    (sym (any_none (is_at site) now.items (ap (λ (p : Dests). find (is_at site) p.items) (sym c.self.view_is) ∙ sym c.get.ensures ∙ c.in-None.is)))
