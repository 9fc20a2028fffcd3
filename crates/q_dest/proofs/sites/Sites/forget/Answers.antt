use Rattle.std.proofs.Common.{ap, ◌∙◌, List, sym}
use Rattle.std.specs.Prelude.{filter, find}
use Rattle.q_dest.proofs.Changes.{is_else}
use Rattle.q_dest.proofs.Revivals.{found_own}
use Rattle.q_dest.proofs.Settling.{dropped_found, dropped_none}
use Rattle.q_dest.specs.Dests.{Dests, is_at, is_remembered}
use Rattle.q_dest.specs.declared.dest.Dest.{Dest}
use Rattle.q_model.specs.Values.{Site}
use Rattle.q_dest.proofs.sites.Sites.forget.Goals as goal

pub remove-requires : goal.remove-requires
remove-requires c =
    let now = c.args.self.now in
    ap (λ (s : Site). find (is_at s) now.items) c.site.ensures
    ∙ found_own is_remembered c.in_ok-found.found now.items c.stand_apart.ensures.apart (ap (λ (p : Dests). find is_remembered p.items) (sym c.self.view_is) ∙ sym c.first_remembered.ensures ∙ c.in_ok-found.was)

pub returns-clause-sites : goal.returns-clause-sites
returns-clause-sites c =
    let now = c.args.self.now in
    c.remove.ensures
    ∙ ap (λ (s : Site). record now { items = filter (is_else s) now.items }) c.site.ensures
    ∙ ap (λ (ds : List Dest). record now { items = ds })
    (dropped_found is_remembered c.in_ok-found.found now.items c.stand_apart.ensures.apart (ap (λ (p : Dests). find is_remembered p.items) (sym c.self.view_is) ∙ sym c.first_remembered.ensures ∙ c.in_ok-found.was))

pub returns-in_err-found-clause-sites : goal.returns-in_err-found-clause-sites
returns-in_err-found-clause-sites c =
    let now = c.args.self.now in
    ap (λ (ds : List Dest). record now { items = ds }) (dropped_none is_remembered now.items (ap (λ (p : Dests). find is_remembered p.items) (sym c.self.view_is) ∙ sym c.first_remembered.ensures ∙ c.in_err-found.was))
