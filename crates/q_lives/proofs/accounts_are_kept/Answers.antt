use Rattle.q_lives.proofs.Entries.{accounts_entries, accounts_first}
use Rattle.q_lives.proofs.Throughout.{throughout}
use Rattle.q_lives.specs.Throughout.{FitsAccount}
use Rattle.q_lives.proofs.accounts_are_kept.Goals as goal

pub returns : goal.returns
returns c = λ book lives good h. throughout FitsAccount book lives accounts_first accounts_entries good h
