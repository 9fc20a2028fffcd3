use Rattle.std.proofs.Common.{ap, ◌∙◌, sym, slice_set, slice_index_or, arith, add-one, ◌≡◌, ◌+◌}
use Rattle.q_ledger.specs.LinesLeft.{line_by}
use Rattle.q_ledger.proofs.ListLaws.{numbered_front, numbered_more, numbered_all}
use Rattle.q_ledger.proofs.tidying.tidy_lines.Goals as goal

pub loop-transport-preserved : goal.loop-transport-preserved
loop-transport-preserved c =
    let i = c.loop-transport.transport in
    let line = c.index-lines-transport.result in
    let left = line_by c.args.rows.now c.args.unread c.args.id in
    let count : i ≡ 0 + i = omega arith in
    ap (slice_set c.loop-transport.lines i) (c.tidy.ensures ∙ ap (λ z. left (i, z)) (sym c.index-lines-transport.is))
    ∙ ap (λ ls. slice_set ls i (left (i, line))) c.loop-transport.invariant
    ∙ numbered_more left 0 i i c.args.lines.now line count c.loop-transport-test.true
    (c.index-lines-transport.is ∙ ap (λ ls. slice_index_or ls i line) c.loop-transport.invariant)
    ∙ ap (λ k. numbered_front left 0 k c.args.lines.now) (sym (add-one i))

pub returns : goal.returns
returns c = c.loop-transport.invariant ∙ numbered_all (line_by c.args.rows.now c.args.unread c.args.id) 0 c.loop-transport.transport c.args.lines.now c.loop-transport-test.false
