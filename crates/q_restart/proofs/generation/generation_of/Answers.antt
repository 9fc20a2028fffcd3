use Rattle.std.proofs.Common.{arith, sym, ◌∙◌}
use Rattle.q_restart.proofs.GenerationLaws.{named}
use Rattle.q_restart.proofs.generation.generation_of.Goals as goal

pub returns-clause-spelt : goal.returns-clause-spelt
returns-clause-spelt c = named c.in_ok-generation.generation c.args.name c.generation_name.result c.if-generation-eq0.false (omega arith) c.generation_name.ensures (sym c.ne.ensures ∙ c.if-ne.false)
