use Rattle.std.proofs.Common.{◌∙◌}
use Rattle.q_restart.proofs.GenerationLaws.{front-hex, long_enough}
use Rattle.q_restart.proofs.generation.generation_name.Goals as goal

pub split_at-requires : goal.split_at-requires
split_at-requires c = long_enough c.args.generation c.id_name-name.result c.bytes.result.now c.bytes.ensures.same c.id_name-name.ensures

pub returns : goal.returns
returns c = c.unwrap_or.ensures ∙ front-hex c.args.generation c.id_name-name.result c.bytes.result.now c.split_at.result.0.now c.new.result c.bytes.ensures.same c.id_name-name.ensures c.split_at.ensures.front c.new.ensures
