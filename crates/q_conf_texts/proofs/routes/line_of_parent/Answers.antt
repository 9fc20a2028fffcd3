use Rattle.std.proofs.Common.{◌∙◌}
use Rattle.q_conf_texts.proofs.LookupLaws.{parent_here}
use Rattle.q_conf_texts.proofs.routes.line_of_parent.Goals as goal

pub returns-in-Some : goal.returns-in-Some
returns-in-Some c = parent_here c.args.bytes.now c.loop-rest.rest.now _ c.in-len1-up.len_at_least c.if-b-eq46.true c.in-Some.ensures ∙ c.loop-rest.invariant
