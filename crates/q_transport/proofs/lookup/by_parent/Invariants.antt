use Rattle.std.proofs.Common.{◌≡◌, length}
use Rattle.q_model.specs.Lists.{first_some}
use Rattle.q_transport.specs.Entries.{target_at}
use Rattle.q_transport.specs.Routing.{parents}
use Rattle.q_transport.proofs.lookup.by_parent.Given as goal

abbrev pub invariant-loop-rest : goal.invariant-loop-rest
invariant-loop-rest l = first_some (target_at l.entries) (parents l.rest) ≡ first_some (target_at l.entries) (parents l.domain)

abbrev pub decreases-loop-rest : goal.decreases-loop-rest
decreases-loop-rest l = length l.rest
