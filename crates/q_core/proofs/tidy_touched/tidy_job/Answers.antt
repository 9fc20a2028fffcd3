use Rattle.std.proofs.Common.{◌≡◌, ◌∙◌, ap, false, filter, rules, sym, true}
use Rattle.q_core.proofs.LineSteps.{waits_not}
use Rattle.q_core.proofs.TidyTouchedLaws.{job_leaves, job_stays}
use Rattle.q_core.specs.Tidied.{tidied_jobs}
use Rattle.q_jobs.specs.Jobs.{is_job_of_another}
use Rattle.q_pool.specs.Kept.{heads}
use Rattle.q_held.specs.Held.{rows_of}
use Rattle.q_turns.proofs.WithLine.{with_both, with_same}
use Rattle.q_turns.specs.Turns.{line_at}
use Rattle.q_core.proofs.tidy_touched.tidy_job.Goals as goal

pub leave_line-requires-clause-done : goal.leave_line-requires-clause-done
leave_line-requires-clause-done c =
    let leaves : c.stays.result ≡ false = search rules in
    waits_not (heads c.args.admitted.now.items) (rows_of c.args.waiting.now.items) c.args.transport c.args.id (sym c.stays.ensures ∙ leaves)

pub returns-then-not-stays : goal.returns-then-not-stays
returns-then-not-stays c =
    let leaves : c.stays.result ≡ false = search rules in
    let a = heads c.args.admitted.now.items in
    let w = rows_of c.args.waiting.now.items in
    let t = c.args.transport in
    let ls = c.args.schedule.now.lines in
    c.leave_line.ensures
    ∙ ap (λ xs. record c.args.schedule.now { lines = xs })
    (with_both t (filter (is_job_of_another c.args.id)) (tidied_jobs a w t) ls (job_leaves a w t c.args.id (line_at t ls) c.requires.others (sym c.stays.ensures ∙ leaves)))

pub returns-else-not-stays : goal.returns-else-not-stays
returns-else-not-stays c =
    let stays : c.stays.result ≡ true = search rules in
    let a = heads c.args.admitted.now.items in
    let w = rows_of c.args.waiting.now.items in
    let t = c.args.transport in
    let ls = c.args.schedule.now.lines in
    ap (λ xs. record c.args.schedule.now { lines = xs })
    (sym (with_same t (tidied_jobs a w t) ls (job_stays a w t c.args.id (line_at t ls) c.requires.others (sym c.stays.ensures ∙ stays))))
