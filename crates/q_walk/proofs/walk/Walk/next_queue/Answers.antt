use Rattle.std.proofs.Common.{◌∙◌, sym}
use Rattle.q_walk.proofs.Leading.{begun, behind_next, fewer_behind}
use Rattle.q_walk.proofs.walk.Walk.next_queue.Goals as goal

pub returns-clause-step : goal.returns-clause-step
returns-clause-step c f b = begun f b _ (c.in_ok-self.ensures.area ∙ c.queue_area.ensures) c.in_ok-self.ensures.place (c.in_ok-self.ensures.up_to_date f) _ (behind_next c.args.self.now.queues c.args.self.now.queue c.in-Some.queue b (sym c.queue_after.ensures ∙ c.in-Some.is))

pub returns-clause-fewer : goal.returns-clause-fewer
returns-clause-fewer c = fewer_behind c.args.self.now.queue c.in-Some.queue _ _ (sym c.queue_after.ensures ∙ c.in-Some.is) c.in_ok-self.ensures.place
