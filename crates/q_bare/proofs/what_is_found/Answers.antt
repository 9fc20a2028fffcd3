use Rattle.q_bare.proofs.FoundLaws.{found_bare}
use Rattle.q_bare.proofs.what_is_found.Goals as goal

pub returns : goal.returns
returns c = found_bare
