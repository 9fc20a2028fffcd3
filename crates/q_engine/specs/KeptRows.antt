-- The row that a decision puts off.
use Rattle.std.specs.Prelude.{◌≡◌}
use Rattle.q_core.specs.declared.decision.Decision.{Decision}
use Rattle.q_core.specs.declared.decision.Decision.TheVariants as decisions
use Rattle.q_core.specs.declared.state.Core.{Core}

-- it is the last one that the core kept
abbrev pub KeepsRow : Decision → Core → Type 0
KeepsRow (decisions.Skip id site entry) c = c.skips ≡ entry
KeepsRow d c = Unit {0}
