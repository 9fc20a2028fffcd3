use Rattle.std.proofs.Common.{List, rules, ap, ◌∙◌}
use Rattle.q_mem_host.specs.Data.{table}
use Rattle.q_mem_host.specs.declared.placed_files.PlacedFile.{PlacedFile}
use Rattle.q_mem_host.proofs.Edits.{at_in, nothing_taken, order_in, taken_order, taken_out}
use Rattle.q_mem_host.proofs.placed_files.take_away.Goals as goal

pub returns-in-Some-clause-table : goal.returns-in-Some-clause-table
returns-in-Some-clause-table c =
    ap (λ (es : List PlacedFile). table es) c.remove.ensures.by_index.2 ∙ taken_out c.args.files.now.items c.in-Some.i c.args.area c.args.name c.requires (at_in _ _ _ _ _ c.deref.ensures.value c.in-Some.ensures.some) c.remove.result c.remove.ensures.value

pub returns-in-Some-clause-order : goal.returns-in-Some-clause-order
returns-in-Some-clause-order c =
    order_in _ _ c.remove.ensures.by_index.2 (taken_order c.args.files.now.items c.in-Some.i c.args.area c.args.name c.requires (at_in _ _ _ _ _ c.deref.ensures.value c.in-Some.ensures.some) c.remove.result c.remove.ensures.value)

pub returns-in_default-clause-table : goal.returns-in_default-clause-table
returns-in_default-clause-table c = nothing_taken _ c.args.files.now.items c.args.area c.args.name c.deref.ensures.value (c.position.ensures.none (search rules))
