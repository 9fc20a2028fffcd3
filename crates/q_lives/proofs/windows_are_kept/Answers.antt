use Rattle.q_lives.proofs.Entries.{windows_entries, windows_first}
use Rattle.q_lives.proofs.Throughout.{throughout}
use Rattle.q_lives.specs.Throughout.{FitsWindow}
use Rattle.q_lives.proofs.windows_are_kept.Goals as goal

pub returns : goal.returns
returns c = λ book lives good h. throughout FitsWindow book lives windows_first windows_entries good h
