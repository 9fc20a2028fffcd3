use Rattle.std.proofs.Common.{◌≡◌, ◌∙◌, ◌+◌, add-one, ap, arith, sym, take}
use Rattle.std.specs.List.{enumerate_from, list_all}
use Rattle.q_core.proofs.LineSteps.{all_more, not_all}
use Rattle.q_core.specs.Loading.{can_join}
use Rattle.q_turns.proofs.WithLine.{line_there}
use Rattle.q_turns.specs.Turns.{line_at}
use Rattle.q_core.proofs.joining.can_join_all.Goals as goal

pub loop-at-preserved : goal.loop-at-preserved
loop-at-preserved c =
    let at = c.loop-at.at in
    let ls = c.args.schedule.now.lines in
    let p = can_join c.args.id c.args.rows.now.rows c.args.schedule.now.line_room in
    let count : at ≡ 0 + at = omega arith in
    ap (λ n. list_all p (enumerate_from 0 (take n ls))) (add-one at)
    ∙ all_more p 0 at at ls (line_at at ls) count (line_there at ls (omega (arith, c.transports-at-end.ensures, c.loop-at-test.true))) c.loop-at.invariant (sym c.can_join.ensures ∙ c.if-not-can_join.false)

pub returns-then-not-can_join : goal.returns-then-not-can_join
returns-then-not-can_join c =
    let at = c.loop-at.at in
    let ls = c.args.schedule.now.lines in
    let count : at ≡ 0 + at = omega arith in
    sym (not_all (can_join c.args.id c.args.rows.now.rows c.args.schedule.now.line_room) 0 at at ls (line_at at ls) count (line_there at ls (omega (arith, c.transports-at-end.ensures, c.loop-at-test.true))) (sym c.can_join.ensures ∙ c.if-not-can_join.true))
