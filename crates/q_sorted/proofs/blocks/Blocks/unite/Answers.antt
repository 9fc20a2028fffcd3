use Rattle.std.proofs.Common.{◌+◌, ◌<◌, ◌∙◌, ap, arith, length, set}
use Rattle.std.proofs.lemmas.List.{length-set}
use Rattle.q_sorted.specs.Blocks.{Blocks, united}
use Rattle.q_sorted.proofs.Laying.{same_blocks, unites}
use Rattle.q_sorted.proofs.blocks.Blocks.unite.Goals as goal

pub returns-clause-united : goal.returns-clause-united
returns-clause-united c =
    let n = c.args.place in
    let used = c.self.inside.used.items in
    let rest = c.remove-next.new.self.items in
    let lists = ap (λ (b : Blocks). b.lists) c.self.view_is in
    let total = ap (λ (b : Blocks). b.total) c.self.view_is in
    let within : n + 1 < length used = omega (arith, c.requires.within, ap length lists) in
    let laid = ap (set rest n) c.append.ensures ∙ unites n used rest c.index_mut.result.now c.remove-next.result within c.remove-next.ensures.items c.index_mut.ensures.value c.remove-next.ensures.value in
    same_blocks _ _ _ _ (laid ∙ ap (united n) lists) (omega (arith, total, c.remove-next.ensures.len, c.push_reserved.ensures.len, length-set rest n c.append.new.self))
