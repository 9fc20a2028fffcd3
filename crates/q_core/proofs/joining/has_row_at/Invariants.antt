use Rattle.std.proofs.Common.{◌≡◌, false, take}
use Rattle.std.specs.List.{list_any}
use Rattle.std.specs.Prelude.{◌==◌}
use Rattle.q_core.proofs.joining.has_row_at.Given as goal

-- none of the rows before this one is at the transport
abbrev pub invariant-loop-i : goal.invariant-loop-i
invariant-loop-i l = list_any (λ r. r.site.transport == l.at) (take l.i l.rows.rows) ≡ false
