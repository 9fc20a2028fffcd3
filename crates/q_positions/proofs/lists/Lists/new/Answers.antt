use Rattle.std.proofs.Common.{◌∙◌, ap, List, ℕ}
use Rattle.q_positions.specs.Lists.{lists_in}
use Rattle.q_positions.proofs.Cells.{none_fresh}
use Rattle.q_positions.proofs.lists.Lists.new.Goals as goal

pub returns : goal.returns
returns c =
    ap (λ (lens : List ℕ). record { lists = lists_in c.args.most c.in_ok-cells.cells.items lens; most = c.args.most }) c.in_ok-lens.ensures
    ∙ ap (λ (xss : List (List ℕ)). record { lists = xss; most = c.args.most }) (none_fresh c.args.most c.args.room c.in_ok-cells.cells.items)
