use Rattle.std.proofs.Common.{◌∙◌, ap, sym}
use Rattle.q_heads.specs.Lanes.{foremost, heads_of, Lanes}
use Rattle.q_heads.specs.Marks.{seen}
use Rattle.q_heads.proofs.Marked.{first_none, first_some}
use Rattle.q_heads.proofs.heads.Heads.first.Goals as goal

pub returns-in_err-mark : goal.returns-in_err-mark
returns-in_err-mark c =
    let a = c.self.inside in
    c.from_residual.ensures ∙ sym (first_none (seen a.tickets a.classes.items) a.marks.items c.first_of.ensures.rising c.self.invariant.marked c.args.class (sym c.first_of.ensures.is ∙ c.in_err-mark.was))
    ∙ ap (λ (s : Lanes). foremost (heads_of c.args.class s)) c.self.view_is

pub returns : goal.returns
returns c =
    let a = c.self.inside in
    c.first_of-2.ensures.is ∙ first_some (seen a.tickets a.classes.items) a.marks.items c.first_of.ensures.rising c.self.invariant.marked c.args.class c.in_ok-mark.mark (sym c.first_of.ensures.is ∙ c.in_ok-mark.was)
    ∙ ap (λ (s : Lanes). foremost (heads_of c.args.class s)) c.self.view_is
