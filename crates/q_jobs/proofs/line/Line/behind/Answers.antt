use Rattle.std.proofs.Common.{◌∙◌, ap, sym}
use Rattle.std.specs.Option.{option_copied}
use Rattle.std.specs.Prelude.{option_and_then}
use Rattle.q_keyed.proofs.Values.{behind_held}
use Rattle.q_keyed.specs.Numbered.{item_at, values_of}
use Rattle.q_jobs.specs.Jobs.{behind_jobs, first_job, is_job_of, Jobs}
use Rattle.q_jobs.proofs.LineLaws.{behind_is, behind_nothing}
use Rattle.q_jobs.proofs.line.Line.behind.Goals as goal

pub returns-in_err-number : goal.returns-in_err-number
returns-in_err-number c =
    ap option_copied c.from_residual.ensures
    ∙ sym (ap first_job (behind_nothing c.args.id c.self.inside.jobs.items (sym c.find.ensures.is ∙ c.in_err-number.was)))
    ∙ ap (λ (v : Jobs). first_job (behind_jobs c.args.id v.jobs)) c.self.view_is

pub returns-in_err-next : goal.returns-in_err-next
returns-in_err-next c =
    let ks = c.self.inside.jobs.items in
    ap option_copied c.from_residual-in_err-next.ensures
    ∙ ap (option_and_then (λ m. item_at m ks)) (sym c.in_err-next.was ∙ c.next.ensures)
    ∙ behind_held (is_job_of c.args.id) c.in_ok-number.number ks c.find.ensures.apart (sym c.find.ensures.is ∙ c.in_ok-number.was)
    ∙ ap first_job (behind_is c.args.id (values_of ks))
    ∙ ap (λ (v : Jobs). first_job (behind_jobs c.args.id v.jobs)) c.self.view_is

pub returns : goal.returns
returns c =
    let ks = c.self.inside.jobs.items in
    c.get.ensures
    ∙ ap (option_and_then (λ m. item_at m ks)) (sym c.in_ok-next.was ∙ c.next.ensures)
    ∙ behind_held (is_job_of c.args.id) c.in_ok-number.number ks c.find.ensures.apart (sym c.find.ensures.is ∙ c.in_ok-number.was)
    ∙ ap first_job (behind_is c.args.id (values_of ks))
    ∙ ap (λ (v : Jobs). first_job (behind_jobs c.args.id v.jobs)) c.self.view_is
