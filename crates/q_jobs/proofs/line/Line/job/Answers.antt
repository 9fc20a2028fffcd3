use Rattle.std.proofs.Common.{◌∙◌, ap, sym}
use Rattle.std.specs.Option.{option_copied}
use Rattle.std.specs.Prelude.{find}
use Rattle.q_keyed.proofs.Values.{item_found}
use Rattle.q_jobs.specs.Jobs.{is_job_of, Jobs}
use Rattle.q_jobs.proofs.LineLaws.{not_found}
use Rattle.q_jobs.proofs.line.Line.job.Goals as goal

pub returns-in_err-number : goal.returns-in_err-number
returns-in_err-number c =
    ap option_copied c.from_residual.ensures
    ∙ sym (not_found c.args.id c.self.inside.jobs.items (sym c.find.ensures.is ∙ c.in_err-number.was))
    ∙ ap (λ (v : Jobs). find (is_job_of c.args.id) v.jobs) c.self.view_is

pub returns : goal.returns
returns c =
    c.get.ensures
    ∙ item_found (is_job_of c.args.id) c.in_ok-number.number c.self.inside.jobs.items c.find.ensures.apart (sym c.find.ensures.is ∙ c.in_ok-number.was)
    ∙ ap (λ (v : Jobs). find (is_job_of c.args.id) v.jobs) c.self.view_is
