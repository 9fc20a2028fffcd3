use Rattle.std.proofs.Common.{List, ap, refl, ◌∙◌}
use Rattle.q_mem_host.specs.Data.{table}
use Rattle.q_mem_host.specs.declared.placed_files.PlacedFile.{PlacedFile}
use Rattle.q_mem_host.proofs.Edits.{at_in, file_set, gap_in, order_in, order_set, put_in, put_order}
use Rattle.q_mem_host.proofs.placed_files.put_file.Goals as goal

pub returns-in-Ok-clause-table : goal.returns-in-Ok-clause-table
returns-in-Ok-clause-table c = file_set c.args.files.now.items c.in-Ok.i c.args.area c.args.name c.requires.order (at_in _ _ _ _ _ c.deref.ensures.value c.in-Ok.ensures.found) c.index_mut.result.now c.index_mut.ensures.value _ refl refl

pub returns-in-Ok-clause-order : goal.returns-in-Ok-clause-order
returns-in-Ok-clause-order c =
    let at = at_in _ c.args.files.now.items _ _ _ c.deref.ensures.value c.in-Ok.ensures.found in
    order_set c.args.files.now.items c.in-Ok.i c.index_mut.result.now _ c.requires.order at.within c.index_mut.ensures.value refl refl

pub returns-in-Err-clause-table : goal.returns-in-Err-clause-table
returns-in-Err-clause-table c =
    ap (λ (es : List PlacedFile). table es) c.insert_within.ensures ∙ put_in c.args.files.now.items c.in-Err.i c.args.area c.args.name (gap_in _ _ _ _ _ c.deref.ensures.value c.in-Err.ensures.missing) _ refl refl

pub returns-in-Err-clause-order : goal.returns-in-Err-clause-order
returns-in-Err-clause-order c =
    order_in _ _ c.insert_within.ensures (put_order c.args.files.now.items c.in-Err.i c.args.area c.args.name (gap_in _ _ _ _ _ c.deref.ensures.value c.in-Err.ensures.missing) _ refl refl c.requires.order)
