use Rattle.std.proofs.Common.{◌∙◌, ap, map, refl}
use Rattle.std.specs.List.{enumerate_from}
use Rattle.q_core.proofs.LineSteps.{preempted_elsewhere, preempted_here}
use Rattle.q_core.specs.Sending.{preempted_line, with_charge}
use Rattle.q_jobs.specs.Jobs.{changed_job, moved_job}
use Rattle.q_turns.proofs.WithLine.{job_stays, one_line, there_with, with_twice}
use Rattle.q_schedule.specs.Schedule.{Scheduling}
use Rattle.q_turns.specs.Turns.{has_job, with_line}
use Rattle.q_core.proofs.preempting.preempt.Goals as goal

pub put_before-requires-clause-there : goal.put_before-requires-clause-there
put_before-requires-clause-there c =
    there_with c.from-at.result (map (changed_job c.args.parent (with_charge c.args.need c.args.left))) c.args.schedule.now.lines c.charge.new.schedule.lines (ap (λ (x : Scheduling). x.lines) c.charge.ensures) c.args.parent
    (ap (λ n. has_job c.args.schedule.now.lines n c.args.parent) c.from-at.ensures ∙ c.requires.parent)

pub put_before-requires-clause-parent : goal.put_before-requires-clause-parent
put_before-requires-clause-parent c =
    ap (λ (x : Scheduling). has_job x.lines c.from-at.result c.args.parent) c.charge.ensures
    ∙ job_stays c.from-at.result c.args.parent c.args.parent (with_charge c.args.need c.args.left) (λ j. refl) c.args.schedule.now.lines
    ∙ ap (λ n. has_job c.args.schedule.now.lines n c.args.parent) c.from-at.ensures
    ∙ c.requires.parent

pub returns : goal.returns
returns c =
    let t = c.from-at.result in
    let ls = c.args.schedule.now.lines in
    let charge = map (changed_job c.args.parent (with_charge c.args.need c.args.left)) in
    c.put_before.ensures
    ∙ ap (λ (x : Scheduling). record x { lines = with_line t (moved_job c.args.child c.args.parent) x.lines }) c.charge.ensures
    ∙ ap (λ xs. record c.args.schedule.now { lines = xs })
    (with_twice t (moved_job c.args.child c.args.parent) charge ls
    ∙ one_line (preempted_line c.args.child c.args.parent t c.args.need c.args.left) (λ js. moved_job c.args.child c.args.parent (charge js)) t
    (λ js. preempted_here c.args.child c.args.parent t c.args.need c.args.left js) (λ at js other. preempted_elsewhere c.args.child c.args.parent t c.args.need c.args.left at js other) ls
    ∙ ap (λ n. map (preempted_line c.args.child c.args.parent n c.args.need c.args.left) (enumerate_from 0 ls)) c.from-at.ensures)
