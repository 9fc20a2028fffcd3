use Rattle.std.proofs.Common.{◌≡◌, ◌+◌, ◌-◌, ◌<◌, ap, arith, length, length-append, suc}
use Rattle.q_sorted.specs.Blocks.{block_at, Blocks}
use Rattle.q_sorted.proofs.Filling.{block_united, length_united}
use Rattle.q_sorted.proofs.blocks.Blocks.mend.Goals as goal

pub settle-requires-clause-within : goal.settle-requires-clause-within
settle-requires-clause-within c =
    let n = c.args.place - 1 in
    let lists = ap (λ (b : Blocks). length b.lists) c.unite.ensures.united in
    let within : n + 1 < length c.args.self.now.lists = omega arith in
    omega (arith, lists, within, length_united n c.args.self.now.lists within)

pub settle-requires-clause-fits : goal.settle-requires-clause-fits
settle-requires-clause-fits c =
    let n = c.args.place - 1 in
    let lists = c.args.self.now.lists in
    let within : n + 1 < length lists = omega arith in
    let own : suc n ≡ c.args.place = omega arith in
    let few = ap (λ k. length (block_at k lists)) own in
    let both = ap length (block_united n lists within) in
    rw c.unite.ensures.united (omega (arith, both, few, length-append (block_at n lists) (block_at (suc n) lists)))
