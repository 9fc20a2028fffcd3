use Rattle.std.proofs.Common.{◌∙◌, ap, None, Some, sym}
use Rattle.q_jobs.specs.Jobs.{Jobs, rank_of}
use Rattle.q_jobs.proofs.RankLaws.{rank_found}
use Rattle.q_jobs.proofs.line.Line.rank.Goals as goal

pub returns-in_err-number : goal.returns-in_err-number
returns-in_err-number c =
    c.from_residual.ensures
    ∙ sym (rank_found c.args.id c.self.inside.ranks.ranks c.self.inside.jobs.items None (sym c.find.ensures.is ∙ c.in_err-number.was))
    ∙ ap (λ (v : Jobs). rank_of c.args.id v.jobs v.ranks) c.self.view_is

pub returns : goal.returns
returns c =
    ap Some c.rank.ensures.is
    ∙ sym (rank_found c.args.id c.self.inside.ranks.ranks c.self.inside.jobs.items (Some c.in_ok-number.number) (sym c.find.ensures.is ∙ c.in_ok-number.was))
    ∙ ap (λ (v : Jobs). rank_of c.args.id v.jobs v.ranks) c.self.view_is
