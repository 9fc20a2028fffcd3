use Rattle.std.proofs.Common.{◌∙◌, ap, sym}
use Rattle.q_held.proofs.Views.{plain_view}
use Rattle.q_held.specs.Held.{Held, plain}
use Rattle.q_peers.specs.Numbered.{first_such, is_for}
use Rattle.q_held.proofs.rows.Rows.first_for.Goals as goal

pub returns : goal.returns
returns c =
    let a = c.self.inside in
    c.first_for.ensures
    ∙ ap (first_such (is_for c.args.id c.args.site.now)) (sym (plain_view a.marks.marks a.waiting.items))
    ∙ ap (λ (v : Held). first_such (is_for c.args.id c.args.site.now) (plain v.items)) c.self.view_is
