use Rattle.std.proofs.Common.{◌<◌, ◌∙◌, ap, arith, length, vec_capacity}
use Rattle.q_sorted.specs.Blocks.{Blocks, parted}
use Rattle.q_sorted.proofs.Laying.{parts, same_blocks}
use Rattle.q_sorted.proofs.blocks.Blocks.part.Goals as goal

pub returns : goal.returns
returns c =
    let n = c.args.place in
    let used = c.self.inside.used.items in
    let lists = ap (λ (b : Blocks). b.lists) c.self.view_is in
    let total = ap (λ (b : Blocks). b.total) c.self.view_is in
    let within : n < length used = omega (arith, c.requires.within, ap length lists) in
    let popped = c.in-Some.ensures.cases in
    let room : length used < vec_capacity c.self.inside.used = omega (arith, popped, c.self.invariant.to_use) in
    let ok = c.insert.ensures.succeeds (omega (arith, room)) in
    let grown = rw ok at c.insert.ensures.len in
    let put = rw ok at c.insert.ensures.items in
    let laid = put ∙ parts n used c.index_mut.result.now c.split.new.self c.split.new.upper within c.index_mut.ensures.value c.split.ensures.lower c.split.ensures.upper in
    same_blocks _ _ _ _ (laid ∙ ap (parted n) lists) (omega (arith, total, popped, grown))
