use Rattle.std.proofs.Common.{rules}
use Rattle.q_link.proofs.HopsSteps.{rests}
use Rattle.q_link.proofs.script_hops.ScriptHopsHops.rest.Goals as goal

pub returns-in-Some-clause-rests : goal.returns-in-Some-clause-rests
returns-in-Some-clause-rests c = rests c.args.self.now.view _ (search rules)
