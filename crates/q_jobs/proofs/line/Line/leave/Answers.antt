use Rattle.std.proofs.Common.{◌≡◌, ◌∙◌, ap, refl, subst, sym}
use Rattle.std.specs.Prelude.{filter}
use Rattle.q_keyed.specs.Numbered.{Items, values_of}
use Rattle.q_jobs.specs.declared.job.Job.{Job}
use Rattle.q_jobs.specs.Jobs.{is_job_of, is_job_of_another, Jobs, rank_of}
use Rattle.q_jobs.proofs.LineLaws.{leave_nowhere, leave_there}
use Rattle.q_jobs.proofs.LineSteps.{found_below, kept_left, line_is, sound_left}
use Rattle.q_jobs.proofs.line.Line.leave.Goals as goal

pub remove-requires : goal.remove-requires
remove-requires c =
    found_below c.self.inside.jobs c.self.inside.ranks c.self.invariant (is_job_of c.args.id) c.in-Some.number c.stand_ranked.ensures.below (sym c.find.ensures.is ∙ c.in-Some.is)

pub invariant_of-self : goal.invariant_of-self
invariant_of-self c =
    sound_left c.self.inside.jobs c.self.inside.ranks c.self.invariant c.in-Some.number _ _ c.remove-job.ensures.items c.remove.ensures

pub returns-in-Some-clause-line : goal.returns-in-Some-clause-line
returns-in-Some-clause-line c =
    let s = c.find.ensures in
    line_is _ _ _ _ _ _
    (ap (λ (v : Items Job). values_of v.items) c.remove-job.ensures.items
    ∙ leave_there c.args.id c.in-Some.number c.self.inside.jobs.items s.apart s.keys (sym c.find.ensures.is ∙ c.in-Some.is)
    ∙ ap (λ (v : Jobs). filter (is_job_of_another c.args.id) v.jobs) c.self.view_is)
    (ap (λ (v : Items Job). v.room) c.remove-job.ensures.items ∙ ap (λ (v : Jobs). v.room) c.self.view_is) refl

pub returns-in-Some-clause-kept : goal.returns-in-Some-clause-kept
returns-in-Some-clause-kept c = λ other differ.
    kept_left c.self.inside.jobs c.self.inside.ranks c.self.invariant c.in-Some.number _ _ c.remove-job.ensures.items c.remove.ensures c.args.id other differ c.find.ensures.apart (sym c.find.ensures.is ∙ c.in-Some.is)
    ∙ ap (λ (v : Jobs). rank_of other v.jobs v.ranks) c.self.view_is

pub returns-in_default-clause-line : goal.returns-in_default-clause-line
returns-in_default-clause-line c =
    subst (λ (v : Jobs). v ≡ record v { jobs = filter (is_job_of_another c.args.id) v.jobs }) c.self.view_is
    (line_is _ _ c.self.inside.jobs.room c.self.inside.jobs.room _ _
    (sym (leave_nowhere c.args.id c.self.inside.jobs.items (sym c.find.ensures.is ∙ c.in_default.is))) refl refl)
