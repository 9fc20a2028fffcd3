use Rattle.std.proofs.Common.{◌≡◌, length, map}
use Rattle.q_model.specs.Lists.{first_some}
use Rattle.q_model.specs.Texts.{lower}
use Rattle.q_transport.specs.Routing.{parents}
use Rattle.q_conf_texts.specs.Routes.{line_of_pattern}
use Rattle.q_conf_texts.proofs.routes.line_of_parent.Given as goal

abbrev pub invariant-loop-rest : goal.invariant-loop-rest
invariant-loop-rest l = first_some (line_of_pattern l.bytes) (parents (map lower l.rest)) ≡ first_some (line_of_pattern l.bytes) (parents (map lower l.domain))

abbrev pub decreases-loop-rest : goal.decreases-loop-rest
decreases-loop-rest l = length l.rest
