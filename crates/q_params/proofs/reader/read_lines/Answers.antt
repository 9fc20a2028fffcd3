use Rattle.std.proofs.Common.{◌+◌, sym, ◌∙◌}
use Rattle.q_params.proofs.ReadLaws.{read_refused}
use Rattle.q_params.proofs.reader.read_lines.Goals as goal

pub returns-in-Err : goal.returns-in-Err
returns-in-Err c =
    sym (read_refused (c.loop-rest.number + 1) c.loop-rest.draft c.loop-rest.rest.now _ _ c.in-Err.cause c.first_line.ensures.line c.in-Err.ensures) ∙ c.loop-rest.invariant.read
