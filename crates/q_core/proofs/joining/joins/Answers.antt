use Rattle.std.proofs.Common.{◌≡◌, ◌∙◌, ap, None, Option, refl, Some, sym}
use Rattle.std.specs.Borrow.{Bor}
use Rattle.std.specs.Option.{is_some, option_copied}
use Rattle.q_core.proofs.LineSteps.{joins_none}
use Rattle.q_jobs.specs.declared.job.Job.{Job}
use Rattle.q_turns.specs.Turns.{line_at}
use Rattle.q_core.proofs.joining.joins.Goals as goal

copied : (o : Option (Bor Job)) → is_some (option_copied o) ≡ is_some o
copied None = refl
copied (Some j) = refl

pub returns-then-has_row_at : goal.returns-then-has_row_at
returns-then-has_row_at c =
    joins_none c.args.id c.args.rows.now.rows c.args.at (line_at c.args.at c.args.schedule.now.lines) c.is_none.result (sym c.has_row_at.ensures ∙ c.if-has_row_at.true)
    (ap is_some (sym c.job.ensures) ∙ copied c.job.result ∙ c.is_none.ensures)
