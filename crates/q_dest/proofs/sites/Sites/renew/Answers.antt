use Rattle.std.proofs.Common.{ap, ◌∙◌, List, sym}
use Rattle.q_dest.proofs.Kept.{changed_in, changed_out}
use Rattle.q_dest.specs.Dests.{is_kept}
use Rattle.q_dest.specs.declared.dest.Dest.{Dest}
use Rattle.q_dest.proofs.sites.Sites.renew.Goals as goal

pub returns-then-is_kept : goal.returns-then-is_kept
returns-then-is_kept c = λ f is.
    let now = c.args.self.now in
    let s = c.stand_apart.ensures in
    c.replace.ensures f is
    ∙ ap (λ (ds : List Dest). record now { items = ds })
    (changed_in c.args.site.now f c.args.found.now now.items (ap is_kept is ∙ sym c.is_kept.ensures ∙ c.if-is_kept.true) s.apart s.kept c.requires.found)

pub returns-else-is_kept : goal.returns-else-is_kept
returns-else-is_kept c = λ f is.
    let now = c.args.self.now in
    let s = c.stand_apart.ensures in
    c.remove.ensures
    ∙ ap (λ (ds : List Dest). record now { items = ds })
    (sym (changed_out c.args.site.now f c.args.found.now now.items (ap is_kept is ∙ sym c.is_kept.ensures ∙ c.if-is_kept.false) s.apart s.kept c.requires.found))
