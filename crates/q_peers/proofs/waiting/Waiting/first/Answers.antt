use Rattle.std.proofs.Common.{◌∙◌, ap, sym}
use Rattle.q_peers.specs.Numbered.{any_row, first_such, Items}
use Rattle.q_peers.proofs.Standing.{first_row}
use Rattle.q_peers.proofs.waiting.Waiting.first.Goals as goal

pub returns : goal.returns
returns c =
    let a = c.self.inside in
    c.first.ensures.is ∙ sym (first_row a.rows.rows a.order a.by_peer a.by_site a.live a.room c.self.invariant)
    ∙ ap (λ (v : Items). first_such any_row v.items) c.self.view_is
