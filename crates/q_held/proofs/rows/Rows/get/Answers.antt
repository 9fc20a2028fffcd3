use Rattle.std.proofs.Common.{◌∙◌, ap, sym}
use Rattle.q_held.proofs.Views.{plain_view}
use Rattle.q_held.specs.Held.{Held, plain}
use Rattle.q_peers.specs.Numbered.{row_at}
use Rattle.q_held.proofs.rows.Rows.get.Goals as goal

pub returns : goal.returns
returns c =
    let a = c.self.inside in
    c.get.ensures
    ∙ ap (row_at c.args.number) (sym (plain_view a.marks.marks a.waiting.items))
    ∙ ap (λ (v : Held). row_at c.args.number (plain v.items)) c.self.view_is
