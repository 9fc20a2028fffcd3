use Rattle.q_mem_host.proofs.Edits.{gap_empty}
use Rattle.q_mem_host.proofs.placed_files.position.Goals as goal

pub returns-in-Err-clause-none : goal.returns-in-Err-clause-none
returns-in-Err-clause-none c = λ none. gap_empty c.args.files.now _ c.args.area c.args.name.now c.in-Err.ensures.missing
