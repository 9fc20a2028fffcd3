use Rattle.std.proofs.Common.{subst}
use Rattle.q_positions.proofs.Short.{slots_short}
use Rattle.q_positions.specs.Rows.{AreShort, Slots}
use Rattle.q_positions.proofs.slots.Slots.stand_short.Goals as goal

pub returns : goal.returns
returns c =
    let a = c.self.inside in
    subst (λ (v : Slots). AreShort v.most v.rows) c.self.view_is (slots_short a.positions.most a.heads.items a.positions.lists c.stand_short.ensures)
