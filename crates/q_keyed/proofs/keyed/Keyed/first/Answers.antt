use Rattle.std.proofs.Common.{◌∙◌, ap, sym}
use Rattle.q_keyed.specs.Numbered.{first_number, Items}
use Rattle.q_keyed.proofs.Standing.{first}
use Rattle.q_keyed.proofs.keyed.Keyed.first.Goals as goal

pub returns : goal.returns
returns g c =
    let a = c.self.inside in
    c.first.ensures.is ∙ sym (first g.T.HasKey.eq g.T.HasKey.key_of g.T.HasKey.hash g.met.T.HasKey.is_same g.met.T.HasKey.is_own a.items.items a.order a.by_key a.live a.room c.self.invariant.0)
    ∙ ap (λ (v : Items g.row.T.Denot). first_number v.items) c.self.view_is
