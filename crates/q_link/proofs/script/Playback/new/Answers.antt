use Rattle.q_link.proofs.Playbacks.{places}
use Rattle.q_link.proofs.script.Playback.new.Goals as goal

pub invariant_of-result : goal.invariant_of-result
invariant_of-result c = places c.args.steps.items 0
