use Rattle.std.proofs.Common.{◌≤◌, length, subst}
use Rattle.std.specs.List.{AllByRecursion}
use Rattle.q_model.specs.declared.rows.Row.{Row}
use Rattle.q_positions.specs.Rows.{Rows}
use Rattle.q_positions.proofs.Short.{rows_short}
use Rattle.q_positions.proofs.row_list.RowList.stand_short.Goals as goal

pub returns : goal.returns
returns c =
    let a = c.self.inside in
    subst (λ (v : Rows). AllByRecursion (λ (r : Row). length r.positions ≤ v.most) v.rows) c.self.view_is (rows_short a.positions.most a.heads.items a.positions.lists c.stand_short.ensures)
