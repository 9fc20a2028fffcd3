use Rattle.std.proofs.Common.{◌∙◌, ap, refl}
use Rattle.std.specs.Prelude.{find}
use Rattle.q_keyed.proofs.Values.{none_sought}
use Rattle.q_keyed.specs.Numbered.{Items}
use Rattle.q_jobs.specs.declared.job.Job.{Job}
use Rattle.q_jobs.specs.Jobs.{is_job_of, Jobs, rank_of}
use Rattle.q_jobs.proofs.LineSteps.{free_in, kept_more}
use Rattle.q_jobs.proofs.RankLaws.{rank_in}
use Rattle.q_jobs.proofs.line.Line.join.Goals as goal

pub push-number-requires-clause-absent : goal.push-number-requires-clause-absent
push-number-requires-clause-absent c =
    none_sought (is_job_of c.args.id) c.self.inside.jobs.items
    (ap (λ (v : Jobs). find (is_job_of c.args.id) v.jobs) c.self.view_is ∙ c.requires.absent)

pub push-requires-clause-free : goal.push-requires-clause-free
push-requires-clause-free c =
    free_in c.self.inside.jobs c.self.inside.ranks c.self.invariant c.push-number.result c.push-number.ensures.fresh

pub returns-clause-kept : goal.returns-clause-kept
returns-clause-kept c = λ h other differ.
    let a = c.self.inside in
    ap (λ (v : Items Job). rank_in other c.push.new.self.ranks v.items) c.push-number.ensures.items
    ∙ kept_more c.args.id other differ _ refl a.ranks.ranks c.push.new.self.ranks a.jobs.items c.push-number.ensures.fresh (c.push.ensures.kept h)
    ∙ ap (λ (v : Jobs). rank_of other v.jobs v.ranks) c.self.view_is
