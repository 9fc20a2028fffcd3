use Rattle.q_bare.proofs.RowLaws.{rows_bare}
use Rattle.q_bare.proofs.rows_are_the_same.Goals as goal

pub returns : goal.returns
returns c = rows_bare
