use Rattle.std.proofs.Common.{◌≡◌, flat_map, take}
use Rattle.q_conf_texts.specs.Params.{parameter_line}
use Rattle.q_params.specs.Parameters.{all_parameters}
use Rattle.q_conf_texts.proofs.params.params_text.Given as goal

-- a line for each parameter so far
abbrev pub invariant-loop-parameter : goal.invariant-loop-parameter
invariant-loop-parameter l = record {
  all : l.parameter-items ≡ all_parameters;
  written : l.text.items ≡ flat_map (parameter_line l.bytes) (take l.parameter-index l.parameter-items);
}
