use Rattle.std.proofs.Common.{◌≡◌, ◌∙◌, ◌+◌, add-one, ap, arith, length, subst, sym, true}
use Rattle.q_core.specs.Ties.{ArePeersTied}
use Rattle.q_core.specs.Tidied.{tidied_line}
use Rattle.q_core.specs.Touched.{jobs_stay}
use Rattle.q_core.specs.declared.touched.Touched.TheVariants.{One}
use Rattle.q_pool.specs.Kept.{heads}
use Rattle.q_held.specs.Held.{rows_of}
use Rattle.q_turns.proofs.WithLine.{all_below, changed_below, length_below, line_below, line_there, one_below}
use Rattle.q_schedule.specs.Schedule.{Scheduling}
use Rattle.q_turns.specs.Turns.{line_at, with_line}
use Rattle.q_core.proofs.tidy_touched.tidy_message.Goals as goal

pub loop-transport-preserved : goal.loop-transport-preserved
loop-transport-preserved c =
    let i = c.loop-transport.transport in
    let f = tidied_line (heads c.args.admitted.now.items) (rows_of c.args.waiting.now.items) in
    let ls = c.args.schedule.now.lines in
    let count : i ≡ 0 + i = omega arith in
    c.tidy_job.ensures
    ∙ ap (λ (x : Scheduling). record x { lines = with_line i (λ js. f (i, js)) x.lines }) c.loop-transport.invariant
    ∙ ap (λ xs. record c.args.schedule.now { lines = xs }) (one_below f 0 i i ls count ∙ ap (λ k. changed_below f 0 k ls) (sym (add-one i)))

pub returns : goal.returns
returns c =
    let f = tidied_line (heads c.args.admitted.now.items) (rows_of c.args.waiting.now.items) in
    let many = c.transports-transport-end.ensures in
    c.loop-transport.invariant ∙ ap (λ xs. record c.args.schedule.now { lines = xs }) (all_below f 0 c.loop-transport.transport c.args.schedule.now.lines (omega (arith, many, c.loop-transport-test.false)))

pub tidy_job-requires-clause-there : goal.tidy_job-requires-clause-there
tidy_job-requires-clause-there c =
    let f = tidied_line (heads c.args.admitted.now.items) (rows_of c.args.waiting.now.items) in
    let same = ap (λ (x : Scheduling). length x.lines) c.loop-transport.invariant in
    omega (arith, same, length_below f 0 c.loop-transport.transport c.args.schedule.now.lines, c.transports-transport-end.ensures, c.loop-transport-test.true)

pub tidy_job-requires-clause-tied : goal.tidy_job-requires-clause-tied
tidy_job-requires-clause-tied c =
    subst (λ ps. ArePeersTied ps (rows_of c.args.waiting.now.items)) (sym (ap (λ (x : Scheduling). x.peers) c.loop-transport.invariant)) c.requires.tied

pub tidy_job-requires-clause-others : goal.tidy_job-requires-clause-others
tidy_job-requires-clause-others c =
    let i = c.loop-transport.transport in
    let a = heads c.args.admitted.now.items in
    let w = rows_of c.args.waiting.now.items in
    let ls = c.args.schedule.now.lines in
    let here = ap (λ (x : Scheduling). line_at i x.lines) c.loop-transport.invariant ∙ line_below (tidied_line a w) 0 i ls in
    subst (λ js. jobs_stay (One c.args.id) a w i js ≡ true) (sym here)
    (c.requires.others i (line_at i ls) (line_there i ls (omega (arith, c.transports-transport-end.ensures, c.loop-transport-test.true))))
