use Rattle.q_conf_texts.proofs.DecidingLaws.{names_deciding_line}
use Rattle.q_conf_texts.proofs.DefaultLaws.{defaults_back}
use Rattle.q_conf_texts.proofs.InForceLaws.{tells_values_in_force}
use Rattle.q_conf_texts.proofs.telling.tellings_hold.Goals as goal

pub returns-clause-defaults : goal.returns-clause-defaults
returns-clause-defaults c = defaults_back

pub returns-clause-lines : goal.returns-clause-lines
returns-clause-lines c = names_deciding_line

pub returns-clause-values : goal.returns-clause-values
returns-clause-values c = tells_values_in_force
