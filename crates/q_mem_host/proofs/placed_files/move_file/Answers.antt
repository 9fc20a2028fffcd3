use Rattle.std.proofs.Common.{List, Option, Some, None, sym, ap, ◌∙◌}
use Rattle.q_host.specs.Files.{Placed, put}
use Rattle.q_mem_host.specs.Kept.{Kept}
use Rattle.q_mem_host.specs.Data.{kept, table}
use Rattle.q_mem_host.specs.declared.placed_files.PlacedFile.{PlacedFile}
use Rattle.q_mem_host.proofs.Edits.{at_in, file_there, order_in, taken_order, taken_out}
use Rattle.q_mem_host.proofs.placed_files.move_file.Goals as goal

pub put_file-requires-clause-order : goal.put_file-requires-clause-order
put_file-requires-clause-order c =
    order_in _ _ c.remove-placed.ensures.by_index.2 (taken_order c.args.files.now.items c.in-Some.i c.args.area c.args.name c.requires.order (at_in _ _ _ _ _ c.deref.ensures.value c.in-Some.ensures.some) c.remove-placed.result c.remove-placed.ensures.value)

pub returns-in-Some-clause-moved : goal.returns-in-Some-clause-moved
returns-in-Some-clause-moved c =
    let es = c.args.files.now.items in
    let e = c.remove-placed.result in
    c.put_file.ensures.table
    ∙ ap (λ (t : Placed Kept). put t c.args.to c.args.new (Some (kept e.file))) (ap (λ (l : List PlacedFile). table l) c.remove-placed.ensures.by_index.2 ∙ taken_out es c.in-Some.i c.args.area c.args.name c.requires.order (at_in _ _ _ _ _ c.deref.ensures.value c.in-Some.ensures.some) e c.remove-placed.ensures.value)
    ∙ ap (λ (o : Option Kept). put (put (table es) c.args.area c.args.name None) c.args.to c.args.new o) (sym (file_there es c.in-Some.i c.args.area c.args.name c.requires.order (at_in _ _ _ _ _ c.deref.ensures.value c.in-Some.ensures.some) e c.remove-placed.ensures.value))
