use Rattle.q_views.specs.Metrics.{oldest_text}
use Rattle.q_views.proofs.metrics.add_oldest.Goals as goal

pub returns : goal.returns
unfolding oldest_text
returns c = c.add_arrivals.ensures
