use Rattle.std.proofs.Common.{◌∙◌, ap, sym}
use Rattle.q_keyed.specs.Numbered.{item_at, Items}
use Rattle.q_keyed.proofs.Standing.{item}
use Rattle.q_keyed.proofs.keyed.Keyed.get.Goals as goal

pub returns : goal.returns
returns g c =
    let a = c.self.inside in
    c.item_at.ensures ∙ sym (item g.T.HasKey.eq g.T.HasKey.key_of g.T.HasKey.hash g.met.T.HasKey.is_same g.met.T.HasKey.is_own a.items.items a.order a.by_key a.live a.room c.self.invariant.0 c.args.number)
    ∙ ap (λ (v : Items g.row.T.Denot). item_at c.args.number v.items) c.self.view_is
