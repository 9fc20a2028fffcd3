use Rattle.std.proofs.Common.{◌++◌, ◌∙◌, map, ap, subst, sym}
use Rattle.std.specs.List.Sorted.{IsPermutation}
use Rattle.std.specs.Prelude.{codes}
use Rattle.q_shape.specs.Counted.{AreNumbers}
use Rattle.q_shape.specs.Rows.{rank_seen}
use Rattle.q_shape.specs.Tables.{head_line, rank_lines, row_line}
use Rattle.q_shape.proofs.TextLaws.{ranks-of}
use Rattle.q_shape.proofs.age_table.AgeTable.text.Goals as goal

pub returns : goal.returns
returns c = λ o cs h. record {
  ranks = map rank_seen c.in_ok-ranks.ranks.items;
  each_once = subst (λ xs. IsPermutation xs (map rank_seen c.in_ok-ranks.ranks.items)) (ranks-of o cs c.args.self.now.rows.entries h.names h.rows) c.in_ok-ranks.ensures.each_once;
  in_order = c.in_ok-ranks.ensures.in_order;
  written =
      let t = c.args.self.now in
      let ranks = map rank_seen c.in_ok-ranks.ranks.items in
      let name = codes "TOTAL" in
      c.from_vec.ensures ∙ c.in_ok-add_rows.ensures o cs h ∙ ap (λ xs. c.add_row.new.text.items ++ rank_lines o cs (map rank_seen xs)) c.deref.ensures.value
      ∙ ap (λ x. x ++ rank_lines o cs ranks) (c.in_ok-add_row.ensures cs (subst (λ p. AreNumbers p t.all cs) (sym h.options) h.all)
      ∙ ap (λ x. x ++ row_line t.options name cs) (c.in_ok-add_head.ensures ∙ ap (λ x. x ++ head_line t.options) c.new-text.ensures.items))
      ∙ ap (λ p. (head_line p ++ row_line p name cs) ++ rank_lines o cs ranks) h.options;
}
