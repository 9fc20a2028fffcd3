use Rattle.std.proofs.Common.{sym, ap, Some, ◌∙◌}
use Rattle.q_mem_host.specs.Data.{kept}
use Rattle.q_mem_host.specs.declared.placed_files.PlacedFile.{PlacedFile}
use Rattle.q_mem_host.proofs.Edits.{file_there}
use Rattle.q_mem_host.proofs.placed_files.find.Goals as goal

pub returns-in-Some : goal.returns-in-Some
returns-in-Some c =
    ap (λ (e : PlacedFile). Some (kept e.file)) (sym c.index-files-i.is) ∙ sym (file_there c.args.files.now c.in-Some.i c.args.area c.args.name c.requires c.in-Some.ensures.some c.index-files-i.result c.index-files-i.is)
