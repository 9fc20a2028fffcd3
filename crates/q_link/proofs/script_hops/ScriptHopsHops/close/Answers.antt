use Rattle.std.proofs.Common.{arith}
use Rattle.std.proofs.lemmas.Grind.{common_steps}
use Rattle.q_link.proofs.HopsSteps.{closes}
use Rattle.q_link.proofs.script_hops.ScriptHopsHops.close.Goals as goal

pub returns-clause-ok : goal.returns-clause-ok
returns-clause-ok c = closes c.args.link.view c.args.self.now.view _ (grind (arith, common_steps))
