use Rattle.q_lives.proofs.Entries.{apart_entries, apart_first}
use Rattle.q_lives.proofs.Throughout.{throughout}
use Rattle.q_lives.specs.Throughout.{DeliversApart}
use Rattle.q_lives.proofs.deliveries_keep_apart.Goals as goal

pub returns : goal.returns
returns c = λ book lives good h. throughout DeliversApart book lives apart_first apart_entries good h
