use Rattle.std.proofs.Common.{◌∙◌, [], ap}
use Rattle.q_marked.proofs.Keying.{marks_none}
use Rattle.q_marked.specs.Sound.{are_keyed}
use Rattle.q_ranks.specs.Ranking.{Ranking}
use Rattle.q_marked.proofs.marked.Marked.new.Goals as goal

pub returns : goal.returns
returns c =
    ap (λ (o : Ranking). record { order = o.order; marks = are_keyed c.in_ok-keys.keys; numbers = c.args.numbers }) c.in_ok-order.ensures
    ∙ ap (λ ks. record { order = []; marks = are_keyed ks; numbers = c.args.numbers }) c.in_ok-keys.ensures
    ∙ ap (λ ms. record { order = []; marks = ms; numbers = c.args.numbers }) (marks_none c.args.numbers)
