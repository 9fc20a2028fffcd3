use Rattle.std.proofs.Common.{◌∙◌}
use Rattle.q_walk.proofs.Leading.{all_at_first, begun}
use Rattle.q_walk.proofs.walk.Walk.new.Goals as goal

pub returns : goal.returns
returns c f b stands = begun f b _ (c.in_ok-scan.ensures.area ∙ c.queue_area.ensures) c.in_ok-scan.ensures.place (c.in_ok-scan.ensures.up_to_date f) _ (all_at_first c.args.queues b)
