-- Which decision marks a recipient.
use Rattle.std.specs.Prelude.{None, Option, Some}
use Rattle.q_core.specs.declared.decision.Decision.{Decision}
use Rattle.q_core.specs.declared.decision.Decision.TheVariants as decisions
use Rattle.q_engine.specs.declared.carrying.Marked.{Marked}

-- the recipient that it marks
abbrev pub mark_of : Decision → Option Marked
mark_of (decisions.Mark id position) = Some (record { id = id; position = position })
mark_of _ = None
