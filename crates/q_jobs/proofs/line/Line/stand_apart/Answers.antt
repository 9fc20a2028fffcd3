use Rattle.std.proofs.Common.{◌<◌, ◌^◌, subst}
use Rattle.std.specs.List.{AllByRecursion}
use Rattle.q_ranks.specs.Ranking.{Rises}
use Rattle.q_jobs.specs.Jobs.{AreOfOthers, AreRising, Jobs}
use Rattle.q_jobs.specs.Sound.{numbers_of}
use Rattle.q_jobs.proofs.LineLaws.{apart_jobs}
use Rattle.q_jobs.proofs.RankLaws.{all_below, rising}
use Rattle.q_jobs.proofs.line.Line.stand_apart.Goals as goal

pub returns-clause-apart : goal.returns-clause-apart
returns-clause-apart c = subst (λ (v : Jobs). AreOfOthers v.jobs) c.self.view_is (apart_jobs c.self.inside.jobs.items c.stand_apart.ensures.keys)

pub returns-clause-rise : goal.returns-clause-rise
returns-clause-rise c =
    let a = c.self.inside in
    subst (λ (v : Jobs). AreRising v.ranks) c.self.view_is
    (rising 0 a.ranks.ranks (numbers_of a.jobs.items) (subst (Rises a.ranks.ranks) c.self.invariant.same c.stand_ranked.ensures.rise))

pub returns-clause-low : goal.returns-clause-low
returns-clause-low c =
    let a = c.self.inside in
    subst (λ (v : Jobs). AllByRecursion (λ r. r < 2 ^ 63) v.ranks) c.self.view_is
    (all_below (2 ^ 63) a.ranks.ranks (numbers_of a.jobs.items) c.stand_ranked.ensures.low)
