use Rattle.std.proofs.Common.{◌≡◌, ◌≤◌, [], length, take}
use Rattle.q_core.specs.Grouping.{AreOpen}
use Rattle.q_core.specs.Loading.{rows_in}
use Rattle.q_core.proofs.grouping.group.Given as goal

abbrev pub invariant-loop-i : goal.invariant-loop-i
invariant-loop-i l = record {
  rows : l.rows ≡ record l.fn.rows { rows = rows_in l.fn.rows.most l.id [] (take l.i l.taken.items) l.sites };
  few : length l.rows.rows ≤ l.i;
  kept : AreOpen l.fn.rows.most l.open_rows.items l.rows.rows;
  places : length l.open_rows.items ≤ l.i;
  room : l.open_rows.room ≡ l.fn.open_rows.room;
}
