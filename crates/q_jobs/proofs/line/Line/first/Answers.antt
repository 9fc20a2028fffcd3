use Rattle.std.proofs.Common.{◌∙◌, ap, sym}
use Rattle.std.specs.Prelude.{option_and_then}
use Rattle.q_keyed.proofs.Values.{first_held}
use Rattle.q_keyed.specs.Numbered.{item_at}
use Rattle.q_jobs.specs.Jobs.{first_job, Jobs}
use Rattle.q_jobs.proofs.line.Line.first.Goals as goal

pub returns : goal.returns
returns c =
    let ks = c.self.inside.jobs.items in
    c.get.ensures
    ∙ ap (option_and_then (λ m. item_at m ks)) (sym c.in_ok-number.was ∙ c.first.ensures)
    ∙ first_held ks
    ∙ ap (λ (v : Jobs). first_job v.jobs) c.self.view_is
