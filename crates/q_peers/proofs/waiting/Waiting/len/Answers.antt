use Rattle.std.proofs.Common.{◌∙◌, ap, length, sym}
use Rattle.q_peers.specs.Numbered.{Items}
use Rattle.q_peers.proofs.Standing.{count}
use Rattle.q_peers.proofs.waiting.Waiting.len.Goals as goal

pub returns : goal.returns
returns c =
    let a = c.self.inside in
    c.self.invariant.count ∙ sym (count a.rows.rows a.order a.by_peer a.by_site a.live a.room c.self.invariant)
    ∙ ap (λ (v : Items). length v.items) c.self.view_is
