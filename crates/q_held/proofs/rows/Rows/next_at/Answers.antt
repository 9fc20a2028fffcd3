use Rattle.std.proofs.Common.{◌∙◌, ap, sym}
use Rattle.q_held.proofs.Views.{plain_view}
use Rattle.q_held.specs.Held.{Held, plain}
use Rattle.q_peers.specs.Numbered.{is_at, next_such}
use Rattle.q_held.proofs.rows.Rows.next_at.Goals as goal

pub returns : goal.returns
returns c =
    let a = c.self.inside in
    c.next_at.ensures
    ∙ ap (next_such (λ r. is_at r.site) c.args.number) (sym (plain_view a.marks.marks a.waiting.items))
    ∙ ap (λ (v : Held). next_such (λ r. is_at r.site) c.args.number (plain v.items)) c.self.view_is
