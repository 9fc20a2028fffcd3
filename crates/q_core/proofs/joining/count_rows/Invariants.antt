use Rattle.std.proofs.Common.{◌≡◌, ◌≤◌, ◌+◌, ◌++◌, [], length, List, take}
use Rattle.q_core.specs.Known.{known_records}
use Rattle.q_core.specs.Loading.{new_sites}
use Rattle.q_core.specs.Ties.{AreBusyTied, AreWaitingTied, goes_to_dead, rest_at}
use Rattle.q_model.specs.Values.{Site}
use Rattle.q_model.specs.declared.rows.Delivery.{Delivery}
use Rattle.q_model.specs.declared.rows.Row.{Row}
use Rattle.q_held.specs.Held.{rows_of}
use Rattle.q_core.proofs.joining.count_rows.Given as goal

-- the rows before this one are counted
abbrev pub invariant-loop-i : goal.invariant-loop-i
invariant-loop-i l =
    (known_records l.sites.items ≡ known_records l.initial.sites.items ++ new_sites l.params (known_records l.initial.sites.items) [] (take l.i l.rows.rows))
    × AreWaitingTied l.sites.items (rows_of l.waiting.items ++ take l.i l.rows.rows)
    × ((fs : List Delivery) → AreBusyTied l.initial.sites.items fs → AreBusyTied l.sites.items fs)
    × (length l.sites.items ≤ length l.initial.sites.items + l.i) × (l.sites.room ≡ l.initial.sites.room)
    × ((r : Row) → goes_to_dead l.sites.items r ≡ goes_to_dead l.initial.sites.items r)
    × ((s : Site) → rest_at l.sites.items s ≡ rest_at l.initial.sites.items s)
