use Rattle.std.proofs.Common.{◌<◌, ◌∙◌, length, ap, arith, List}
use Rattle.std.specs.Prelude.{slice_index_or, slice_set}
use Rattle.q_audit.specs.Tallied.{Job, job_with}
use Rattle.q_audit.proofs.WalkLaws.{next_changed}
use Rattle.q_audit.proofs.tally.Tallies.count.Goals as goal

pub loop-job-preserved : goal.loop-job-preserved
loop-job-preserved c =
    let i = c.loop-job.job-index in
    let inside : i < length c.args.self.now = omega (arith, c.loop-job-test.true, c.deref_mut-job-items.ensures.len, ap length c.deref_mut-job-items.ensures.value, ap length c.self.view_is) in
    ap (λ (x : Job). slice_set c.loop-job.job-items i x) c.in_ok-count.ensures
    ∙ ap (λ (js : List Job). slice_set js i (job_with c.args.entry.now (slice_index_or js i c.job-item.result))) c.loop-job.invariant
    ∙ next_changed (job_with c.args.entry.now) c.args.self.now i c.job-item.result inside
