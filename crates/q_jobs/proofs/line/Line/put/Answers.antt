use Rattle.std.proofs.Common.{◌≡◌, ◌∙◌, ap, map, refl, subst, sym}
use Rattle.q_keyed.specs.Numbered.{Items, values_of}
use Rattle.q_jobs.specs.declared.job.Job.{Job}
use Rattle.q_jobs.specs.Jobs.{account_in, Jobs}
use Rattle.q_jobs.specs.Sound.{IsSound, numbers_of, ranks_at}
use Rattle.q_jobs.proofs.LineLaws.{own, put_nowhere, put_there}
use Rattle.q_jobs.proofs.LineSteps.{line_is, sound_put}
use Rattle.q_jobs.proofs.NumberLaws.{numbers_put}
use Rattle.q_jobs.proofs.line.Line.put.Goals as goal

pub put-requires : goal.put-requires
put-requires c =
    let s = c.find.ensures in
    own c.args.job.id c.in-Some.number c.self.inside.jobs.items s.apart s.keys (sym c.find.ensures.is ∙ c.in-Some.is)

pub invariant_of-self : goal.invariant_of-self
invariant_of-self c =
    let a = c.self.inside in
    subst (λ (v : Items Job). IsSound v a.ranks) (sym c.put.ensures) (sound_put a.jobs a.ranks c.self.invariant c.in-Some.number c.args.job)

pub returns-in-Some : goal.returns-in-Some
returns-in-Some c =
    let s = c.find.ensures in
    let a = c.self.inside in
    ap (λ (v : Items Job). record { jobs = values_of v.items; room = v.room; ranks = ranks_at a.ranks.ranks (numbers_of v.items) }) c.put.ensures
    ∙ line_is _ _ a.jobs.room a.jobs.room _ _
    (put_there c.args.job.id c.in-Some.number a.jobs.items s.apart s.keys (sym c.find.ensures.is ∙ c.in-Some.is) c.args.job refl) refl
    (ap (ranks_at a.ranks.ranks) (numbers_put c.in-Some.number c.args.job a.jobs.items))
    ∙ ap (λ (v : Jobs). record v { jobs = map (account_in c.args.job) v.jobs }) c.self.view_is

pub returns-in_default : goal.returns-in_default
returns-in_default c =
    subst (λ (v : Jobs). v ≡ record v { jobs = map (account_in c.args.job) v.jobs }) c.self.view_is
    (line_is _ _ c.self.inside.jobs.room c.self.inside.jobs.room _ _
    (sym (put_nowhere c.args.job.id c.self.inside.jobs.items (sym c.find.ensures.is ∙ c.in_default.is) c.args.job refl)) refl refl)
