use Rattle.q_check.proofs.FaultLines.{param_faults, table_faults}
use Rattle.q_check.proofs.laws.faults_are_refusals.Goals as goal

pub returns-clause-table : goal.returns-clause-table
returns-clause-table c = table_faults

pub returns-clause-params : goal.returns-clause-params
returns-clause-params c = param_faults
