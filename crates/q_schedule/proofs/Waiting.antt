-- A row waits for each peer.
use Rattle.std.proofs.Common.{◌≡◌, [], ◌∷◌, List, true}
use Rattle.std.specs.List.{AllByRecursion}
use Rattle.q_jobs.specs.declared.job.Job.{Job}
use Rattle.q_rounds.specs.declared.peer.Peer.{Peer}
use Rattle.q_rounds.specs.Rounds.{waits}
use Rattle.q_turns.specs.Turns.{HaveJobs}

pub all_wait : (lines : List (List Job)) (ps : List Peer) → HaveJobs lines ps → AllByRecursion (λ p. waits p ≡ true) ps
all_wait lines [] jobs = tt
all_wait lines (p ∷ ps) jobs = (jobs.0, all_wait lines ps jobs.2)
