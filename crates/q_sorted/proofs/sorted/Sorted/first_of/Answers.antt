use Rattle.std.proofs.Common.{◌∙◌, ap, sym}
use Rattle.q_sorted.proofs.Filtering.{first_of_group, if_of, other_group, own_group}
use Rattle.q_sorted.proofs.sorted.Sorted.first_of.Goals as goal

pub returns-in_err-first-clause-is : goal.returns-in_err-first-clause-is
returns-in_err-first-clause-is c =
    let group = c.args.group in
    c.from_residual.ensures ∙ ap (if_of group) (sym c.in_err-first.was ∙ c.first_from.ensures.is) ∙ first_of_group group c.args.self.now.items c.first_from.ensures.rising

pub returns-then-first-group-clause-is : goal.returns-then-first-group-clause-is
returns-then-first-group-clause-is c =
    let group = c.args.group in
    own_group group c.in_ok-first.first c.if-first-group.true ∙ ap (if_of group) (sym c.in_ok-first.was ∙ c.first_from.ensures.is) ∙ first_of_group group c.args.self.now.items c.first_from.ensures.rising

pub returns-else-first-group-clause-is : goal.returns-else-first-group-clause-is
returns-else-first-group-clause-is c =
    let group = c.args.group in
    other_group group c.in_ok-first.first c.if-first-group.false ∙ ap (if_of group) (sym c.in_ok-first.was ∙ c.first_from.ensures.is) ∙ first_of_group group c.args.self.now.items c.first_from.ensures.rising
