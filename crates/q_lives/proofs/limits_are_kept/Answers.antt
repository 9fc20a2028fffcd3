use Rattle.q_lives.proofs.Entries.{limits_entries, limits_first}
use Rattle.q_lives.proofs.Throughout.{throughout}
use Rattle.q_lives.specs.Throughout.{KeepsLimits}
use Rattle.q_lives.proofs.limits_are_kept.Goals as goal

pub returns : goal.returns
returns c = λ book lives good h. throughout KeepsLimits book lives limits_first limits_entries good h
