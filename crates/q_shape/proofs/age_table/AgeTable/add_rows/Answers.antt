use Rattle.std.proofs.Common.{◌++◌, ◌∙◌, ℕ, List, ap, sym, subst, flat_map, arith}
use Rattle.std.proofs.lemmas.List.{take_all}
use Rattle.q_shape.specs.Counted.{AreNumbers}
use Rattle.q_shape.specs.Counts.{of_domain}
use Rattle.q_shape.specs.Tables.{row_line}
use Rattle.q_shape.proofs.TextLaws.{lines-seen, line-more, seen_line}
use Rattle.q_shape.proofs.age_table.AgeTable.add_rows.Goals as goal

pub returns : goal.returns
returns c = λ o cs h. c.loop-name.invariant.text o cs h ∙ ap (λ t. c.args.text.now.items ++ t)
    (ap (flat_map (seen_line o cs)) (take_all c.loop-name.name-index c.args.ranks.now (omega (arith, c.loop-name-test.false))) ∙ lines-seen o cs c.args.ranks.now)

pub loop-name-preserved : goal.loop-name-preserved
loop-name-preserved c = record {
  text = λ o cs h.
      let mid = c.loop-name.text.items in
      let name : List ℕ = _ in
      let mine = subst (λ n. AreNumbers o n (of_domain name cs)) (sym c.numbers_of.ensures) (h.rows name) in
      let own = subst (λ p. AreNumbers p c.numbers_of.result (of_domain name cs)) (sym h.options) mine in
      line-more (seen_line o cs) c.args.ranks.now c.loop-name.name-index _ c.args.text.now.items mid c.add_row.new.text.items c.loop-name-test.true (c.loop-name.invariant.text o cs h)
      (c.in_ok-add_row.ensures (of_domain name cs) own ∙ ap (λ p. mid ++ row_line p name (of_domain name cs)) h.options);
}
