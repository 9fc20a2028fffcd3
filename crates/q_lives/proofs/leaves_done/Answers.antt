use Rattle.q_lives.proofs.Entries.{done_entries, done_first}
use Rattle.q_lives.proofs.Throughout.{throughout}
use Rattle.q_lives.specs.Throughout.{LeavesDone}
use Rattle.q_lives.proofs.leaves_done.Goals as goal

pub returns : goal.returns
returns c = λ book lives good h. throughout LeavesDone book lives done_first done_entries good h
