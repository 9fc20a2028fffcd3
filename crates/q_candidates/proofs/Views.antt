-- What a contract sees.
use Rattle.std.proofs.Common.{List, ℕ}
use Rattle.q_model.specs.Values.{Site}
use Rattle.q_candidates.specs.declared.candidate.Candidate.{Candidate}
use Rattle.q_candidates.specs.Candidates.{Listed}

abbrev pub listed_of : List Candidate → List Site → ℕ → Listed
listed_of items suspended room = record { items = items; suspended = suspended; room = room }
