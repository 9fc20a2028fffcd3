use Rattle.std.proofs.Common.{◌≡◌, ◌∙◌, ◌+◌, add-one, ap, arith, length, sym}
use Rattle.q_core.specs.Loading.{joined_within}
use Rattle.q_turns.proofs.WithLine.{all_below, changed_below, length_below, one_below}
use Rattle.q_schedule.specs.Schedule.{Scheduling}
use Rattle.q_turns.specs.Turns.{with_line}
use Rattle.q_core.proofs.joining.join_lines.Goals as goal

pub loop-at-preserved : goal.loop-at-preserved
loop-at-preserved c =
    let i = c.loop-at.at in
    let ls = c.args.schedule.now.lines in
    let f = joined_within c.args.id c.args.rows.now.rows c.args.schedule.now.line_room in
    let count : i ≡ 0 + i = omega arith in
    c.join.ensures
    ∙ ap (λ (x : Scheduling). record x { lines = with_line i (λ js. joined_within c.args.id c.args.rows.now.rows x.line_room (i, js)) x.lines }) c.loop-at.invariant
    ∙ ap (λ xs. record c.args.schedule.now { lines = xs }) (one_below f 0 i i ls count ∙ ap (λ k. changed_below f 0 k ls) (sym (add-one i)))

pub returns : goal.returns
returns c =
    let f = joined_within c.args.id c.args.rows.now.rows c.args.schedule.now.line_room in
    c.loop-at.invariant ∙ ap (λ xs. record c.args.schedule.now { lines = xs }) (all_below f 0 c.loop-at.at c.args.schedule.now.lines (omega (arith, c.transports-at-end.ensures, c.loop-at-test.false)))

pub join-requires : goal.join-requires
join-requires c =
    let f = joined_within c.args.id c.args.rows.now.rows c.args.schedule.now.line_room in
    let same = ap (λ (x : Scheduling). length x.lines) c.loop-at.invariant in
    omega (arith, same, length_below f 0 c.loop-at.at c.args.schedule.now.lines, c.transports-at-end.ensures, c.loop-at-test.true)
