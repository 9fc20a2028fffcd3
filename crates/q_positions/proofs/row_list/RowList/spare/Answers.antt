use Rattle.std.proofs.Common.{◌-◌, ◌∙◌, ap, length, sym}
use Rattle.q_positions.specs.Rows.{Rows}
use Rattle.q_positions.proofs.Standing.{length_rows}
use Rattle.q_positions.proofs.row_list.RowList.spare.Goals as goal

pub returns : goal.returns
returns c =
    let a = c.self.inside in
    ap (λ n. a.room - n) (c.len.ensures ∙ a.heads.ok.0 ∙ sym (length_rows a.heads.items a.positions.lists))
    ∙ ap (λ (v : Rows). v.room - length v.rows) c.self.view_is
