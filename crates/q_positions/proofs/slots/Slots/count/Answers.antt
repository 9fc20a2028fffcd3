use Rattle.std.proofs.Common.{ap, arith, length}
use Rattle.q_positions.proofs.Standing.{length_slots}
use Rattle.q_positions.specs.Rows.{Slots}
use Rattle.q_positions.proofs.slots.Slots.count.Goals as goal

pub returns : goal.returns
returns c =
    let a = c.self.inside in
    let same = ap (λ (v : Slots). length v.rows) c.self.view_is in
    let long = length_slots a.heads.items a.positions.lists in
    omega (arith, same, long, c.count.ensures, c.self.invariant)
