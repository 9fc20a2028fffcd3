use Rattle.std.proofs.Common.{◌+◌}
use Rattle.std.proofs.lemmas.Result.{err_from_is_err_and}
use Rattle.q_transport.proofs.ReadLaws.{answer_refused}
use Rattle.q_transport.proofs.reader.read_table.Goals as goal

pub returns-in_err-read_line : goal.returns-in_err-read_line
returns-in_err-read_line c =
    let p = err_from_is_err_and c.from_residual.result c.from_residual.ensures.1 in
    let refused = answer_refused (c.loop-rest.number + 1) c.loop-rest.table c.loop-rest.rest.now _ _ _ c.first_line.ensures.line c.in_err-read_line.ensures in
    rw (p.1, p.2) (rw c.loop-rest.invariant.read at refused)
