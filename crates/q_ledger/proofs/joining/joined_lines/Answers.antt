use Rattle.std.proofs.Common.{◌∙◌, ◌++◌, [], ◌∷◌, ap, sym, add-one, map, take, arith, ◌≡◌, ◌+◌}
use Rattle.std.specs.List.{enumerate_from}
use Rattle.q_ledger.proofs.JoinLaws.{numbered_step}
use Rattle.q_model.specs.Loads.{joins}
use Rattle.q_ledger.proofs.joining.joined_lines.Goals as goal

pub loop-transport-preserved : goal.loop-transport-preserved
loop-transport-preserved c =
    let at = c.loop-transport.transport in
    let f = joins c.args.id c.args.rows.now in
    let count : at ≡ 0 + at = omega arith in
    c.in_ok-push.ensures.items
    ∙ ap (λ js. js ++ c.in_ok-line.line ∷ []) c.loop-transport.invariant
    ∙ numbered_step f 0 at at c.args.lines.now c.in_ok-line.line count c.loop-transport-test.true c.in_ok-line.ensures
    ∙ ap (λ n. map f (enumerate_from 0 (take n c.args.lines.now))) (sym (add-one at))
