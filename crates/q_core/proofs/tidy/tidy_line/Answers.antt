use Rattle.std.proofs.Common.{◌∙◌, ◌<◌, ap, arith, filter, length, List, subst, sym}
use Rattle.q_core.proofs.LineSteps.{gone_fewer, none_leave, stays_not, tidied_out}
use Rattle.q_core.specs.Ties.{ArePeersTied}
use Rattle.q_core.specs.Tidied.{leaves_among, tidied_jobs}
use Rattle.q_jobs.specs.declared.job.Job.{Job}
use Rattle.q_jobs.specs.Jobs.{is_job_of_another}
use Rattle.q_pool.specs.Kept.{heads}
use Rattle.q_held.specs.Held.{rows_of}
use Rattle.q_turns.proofs.WithLine.{length_with, line_with, with_both, with_same, with_twice}
use Rattle.q_schedule.specs.Schedule.{Scheduling}
use Rattle.q_turns.specs.Turns.{line_at, with_line}
use Rattle.q_core.proofs.tidy.tidy_line.Goals as goal

pub leave_line-requires-clause-there : goal.leave_line-requires-clause-there
leave_line-requires-clause-there c =
    let t = c.args.transport in
    let g = tidied_jobs (heads c.args.admitted.now.items) (rows_of c.args.waiting.now.items) t in
    let same = ap (λ (x : Scheduling). length x.lines) c.loop-id.invariant in
    omega (arith, same, length_with t g c.loop-id.schedule.lines, length_with t g c.args.schedule.now.lines, c.requires.there)

pub first_to_leave-requires : goal.first_to_leave-requires
first_to_leave-requires c =
    subst (λ ps. ArePeersTied ps (rows_of c.args.waiting.now.items)) (sym (ap (λ (x : Scheduling). x.peers) c.loop-id.invariant)) c.requires.tied

pub leave_line-requires-clause-tied : goal.leave_line-requires-clause-tied
leave_line-requires-clause-tied c =
    subst (λ ps. ArePeersTied ps (rows_of c.args.waiting.now.items)) (sym (ap (λ (x : Scheduling). x.peers) c.loop-id.invariant)) c.requires.tied

pub leave_line-requires-clause-done : goal.leave_line-requires-clause-done
leave_line-requires-clause-done c =
    stays_not (heads c.args.admitted.now.items) (rows_of c.args.waiting.now.items) c.args.transport c.in-Some.id (line_at c.args.transport c.loop-id.schedule.lines) (sym c.first_to_leave.ensures ∙ c.in-Some.is)

pub loop-id-smaller : goal.loop-id-smaller
loop-id-smaller c =
    let t = c.args.transport in
    let p = leaves_among (heads c.args.admitted.now.items) (rows_of c.args.waiting.now.items) t in
    let g = tidied_jobs (heads c.args.admitted.now.items) (rows_of c.args.waiting.now.items) t in
    let ls = c.loop-id.schedule.lines in
    let same = ap (λ (x : Scheduling). length x.lines) c.loop-id.invariant in
    let there : t < length ls = omega (arith, same, length_with t g ls, length_with t g c.args.schedule.now.lines, c.requires.there) in
    subst (λ (js : List Job). length js < length (line_at t ls)) (sym (ap (λ (x : Scheduling). line_at t x.lines) c.leave_line.ensures ∙ line_with t (filter (is_job_of_another c.in-Some.id)) ls there))
    (gone_fewer p c.in-Some.id (line_at t ls) (sym c.first_to_leave.ensures ∙ c.in-Some.is))

pub loop-id-preserved : goal.loop-id-preserved
loop-id-preserved c =
    let a = heads c.args.admitted.now.items in
    let w = rows_of c.args.waiting.now.items in
    let t = c.args.transport in
    let g = tidied_jobs a w t in
    let out = filter (is_job_of_another c.in-Some.id) in
    let ls = c.loop-id.schedule.lines in
    ap (λ (x : Scheduling). record x { lines = with_line t g x.lines }) c.leave_line.ensures
    ∙ ap (λ xs. record c.loop-id.schedule { lines = xs }) (with_twice t g out ls ∙ with_both t (λ js. g (out js)) g ls (tidied_out a w t c.in-Some.id (line_at t ls) (sym c.first_to_leave.ensures ∙ c.in-Some.is)))
    ∙ c.loop-id.invariant

pub returns : goal.returns
returns c =
    let a = heads c.args.admitted.now.items in
    let w = rows_of c.args.waiting.now.items in
    let t = c.args.transport in
    let ls = c.loop-id.schedule.lines in
    ap (λ xs. record c.loop-id.schedule { lines = xs }) (sym (with_same t (tidied_jobs a w t) ls (none_leave a w t (line_at t ls) (sym c.first_to_leave.ensures ∙ c.in_default.is))))
    ∙ c.loop-id.invariant
