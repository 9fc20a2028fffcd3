use Rattle.std.proofs.Common.{◌∙◌, ap, length, sym}
use Rattle.q_positions.specs.Rows.{Rows}
use Rattle.q_positions.proofs.Standing.{length_rows}
use Rattle.q_positions.proofs.row_list.RowList.len.Goals as goal

pub returns : goal.returns
returns c =
    let a = c.self.inside in
    c.len.ensures ∙ a.heads.ok.0 ∙ sym (length_rows a.heads.items a.positions.lists) ∙ ap (λ (v : Rows). length v.rows) c.self.view_is
