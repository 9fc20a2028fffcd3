use Rattle.std.proofs.Common.{◌∙◌, ap, sym}
use Rattle.q_held.proofs.Views.{plain_view}
use Rattle.q_held.specs.Held.{Held, plain}
use Rattle.q_peers.specs.Numbered.{any_row, next_such}
use Rattle.q_held.proofs.rows.Rows.next.Goals as goal

pub returns : goal.returns
returns c =
    let a = c.self.inside in
    c.next.ensures
    ∙ ap (next_such (λ r. any_row) c.args.number) (sym (plain_view a.marks.marks a.waiting.items))
    ∙ ap (λ (v : Held). next_such (λ r. any_row) c.args.number (plain v.items)) c.self.view_is
