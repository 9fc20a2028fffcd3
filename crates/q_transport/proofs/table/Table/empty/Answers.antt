use Rattle.q_transport.proofs.RouteLaws.{empty_table}
use Rattle.q_transport.proofs.table.Table.empty.Goals as goal

pub returns-clause-no_table : goal.returns-clause-no_table
returns-clause-no_table c = rw (c.new.ensures.items, c.new-2.ensures) empty_table
