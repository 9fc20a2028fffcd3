use Rattle.std.proofs.Common.{◌++◌, [], ◌∷◌, ap, ◌∙◌, List, sym}
use Rattle.std.specs.Prelude.{filter}
use Rattle.q_dest.proofs.Changes.{is_else}
use Rattle.q_dest.proofs.Kept.{settled_last, settled_out, settled_there}
use Rattle.q_dest.specs.Dests.{is_kept, is_unused}
use Rattle.q_dest.specs.declared.dest.Dest.{Dest}
use Rattle.q_dest.proofs.sites.Sites.settle.Goals as goal

pub returns-then-not-is_kept : goal.returns-then-not-is_kept
returns-then-not-is_kept c = λ f is.
    let now = c.args.self.now in
    let s = c.stand_apart.ensures in
    c.remove.ensures
    ∙ ap (λ (ds : List Dest). record now { items = ds })
    (settled_out c.args.site.now f c.args.found.now now.items (ap (λ (d : Dest). d.known.site) is ∙ c.requires.same) s.apart s.kept c.requires.found
    (ap is_kept is ∙ sym c.is_kept.ensures ∙ c.if-not-is_kept.true))

pub returns-then-is_unused : goal.returns-then-is_unused
returns-then-is_unused c = λ f is.
    let now = c.args.self.now in
    let s = c.stand_apart.ensures in
    c.move_last.ensures
    ∙ ap (λ (v : Dest). record now { items = filter (is_else c.args.site.now) now.items ++ v ∷ [] }) (sym is)
    ∙ ap (λ (ds : List Dest). record now { items = ds })
    (settled_last c.args.site.now f c.args.found.now now.items (ap (λ (d : Dest). d.known.site) is ∙ c.requires.same) s.apart s.kept c.requires.found
    (ap is_kept is ∙ sym c.is_kept.ensures ∙ c.if-not-is_kept.false) (ap is_unused is ∙ sym c.is_unused.ensures ∙ c.if-is_unused.true))

pub returns-else-is_unused : goal.returns-else-is_unused
returns-else-is_unused c = λ f is.
    let now = c.args.self.now in
    let s = c.stand_apart.ensures in
    c.replace.ensures f is
    ∙ ap (λ (ds : List Dest). record now { items = ds })
    (settled_there c.args.site.now f c.args.found.now now.items (ap (λ (d : Dest). d.known.site) is ∙ c.requires.same) s.apart s.kept c.requires.found
    (ap is_kept is ∙ sym c.is_kept.ensures ∙ c.if-not-is_kept.false) (ap is_unused is ∙ sym c.is_unused.ensures ∙ c.if-is_unused.false))
