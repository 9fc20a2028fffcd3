use Rattle.std.proofs.Common.{◌∙◌, ap, sym}
use Rattle.q_peers.specs.Numbered.{Items, row_at}
use Rattle.q_peers.proofs.Standing.{row}
use Rattle.q_peers.proofs.waiting.Waiting.get.Goals as goal

pub returns : goal.returns
returns c =
    let a = c.self.inside in
    c.get.ensures ∙ sym (row a.rows.rows a.order a.by_peer a.by_site a.live a.room c.self.invariant c.args.number)
    ∙ ap (λ (v : Items). row_at c.args.number v.items) c.self.view_is
