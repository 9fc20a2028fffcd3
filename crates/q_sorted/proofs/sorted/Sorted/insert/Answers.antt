use Rattle.std.proofs.Common.{arith}
use Rattle.q_sorted.proofs.Filling.{fills_others}
use Rattle.q_sorted.proofs.sorted.Sorted.insert.Goals as goal

pub insert-requires-clause-free : goal.insert-requires-clause-free
insert-requires-clause-free c = omega (arith, fills_others c.self.inside.blocks.lists c.self.invariant.sound.filled, c.self.invariant.total, c.self.invariant.count, c.self.invariant.within)
