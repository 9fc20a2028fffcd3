use Rattle.std.proofs.Common.{◌≡◌, ◌-◌, ◌∙◌, ap, arith, length, suc}
use Rattle.q_sorted.specs.Blocks.{ends_past, is_past}
use Rattle.q_sorted.proofs.Finding.{ends_at}
use Rattle.q_sorted.proofs.block.Block.ends_past.Goals as goal

pub returns-then-len-gt0 : goal.returns-then-len-gt0
returns-then-len-gt0 c =
    let xs = c.self.inside.tickets.items in
    let last : length xs ≡ suc (c.len-len.result - 1) = omega arith in
    c.is_past.ensures ∙ ap (is_past c.args.cut.now) c.index.ensures ∙ ends_at c.args.cut.now xs (c.len-len.result - 1) c.index.result.now last ∙ ap (ends_past c.args.cut.now) c.self.view_is
