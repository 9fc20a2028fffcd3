use Rattle.std.proofs.Common.{arith, refl}
use Rattle.q_conf_texts.specs.Params.{parameter_line}
use Rattle.q_params.specs.Parameters.{all_parameters}
use Rattle.q_conf_texts.proofs.EndLaws.{next_text}
use Rattle.q_conf_texts.proofs.params.params_text.Goals as goal

pub loop-parameter-preserved : goal.loop-parameter-preserved
loop-parameter-preserved c =
    let loop = c.loop-parameter in
    record {
      all = refl;
      written = next_text (parameter_line c.args.bytes.now) all_parameters loop.parameter-index _ loop.text.items _ (omega (arith, c.loop-parameter-test.true)) loop.invariant.written c.in_ok-add_parameter.ensures;
    }
