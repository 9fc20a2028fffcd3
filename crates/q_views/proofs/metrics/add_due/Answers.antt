use Rattle.q_views.specs.Metrics.{due_text}
use Rattle.q_views.proofs.metrics.add_due.Goals as goal

pub returns : goal.returns
unfolding due_text
returns c = c.add_moment_text.ensures
