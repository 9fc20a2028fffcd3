use Rattle.std.proofs.Common.{◌∙◌, ap, sym}
use Rattle.q_held.proofs.Views.{plain_view}
use Rattle.q_held.specs.Held.{Held, plain}
use Rattle.q_peers.specs.Numbered.{any_row, first_such}
use Rattle.q_held.proofs.rows.Rows.first.Goals as goal

pub returns : goal.returns
returns c =
    let a = c.self.inside in
    c.first.ensures
    ∙ ap (first_such any_row) (sym (plain_view a.marks.marks a.waiting.items))
    ∙ ap (λ (v : Held). first_such any_row (plain v.items)) c.self.view_is
