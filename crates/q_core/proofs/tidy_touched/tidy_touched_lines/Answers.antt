use Rattle.std.proofs.Common.{ap, subst, sym}
use Rattle.q_core.proofs.TidyTouchedLaws.{lines_whole}
use Rattle.q_core.specs.Touched.{DoJobsStay}
use Rattle.q_pool.specs.Kept.{heads}
use Rattle.q_held.specs.Held.{rows_of}
use Rattle.q_core.proofs.tidy_touched.tidy_touched_lines.Goals as goal

pub returns-in-Nothing : goal.returns-in-Nothing
returns-in-Nothing c =
    let a = heads c.args.admitted.now.items in
    let w = rows_of c.args.waiting.now.items in
    let lines = c.args.schedule.now.lines in
    sym (ap (λ xs. record c.args.schedule.now { lines = xs }) (lines_whole a w lines (subst (λ m. DoJobsStay m a w lines) c.in-Nothing.is c.requires.others)))
