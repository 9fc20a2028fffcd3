use Rattle.std.proofs.Common.{◌+◌, ◌∙◌, refl, sym}
use Rattle.q_conf_texts.specs.Params.{value_in}
use Rattle.q_conf_texts.proofs.FoundLaws.{found_here}
use Rattle.q_conf_texts.proofs.params.setting_of.Goals as goal

pub returns-in-Some : goal.returns-in-Some
returns-in-Some c =
    sym (found_here (value_in c.args.parameter) (c.loop-rest.number + 1) c.loop-rest.rest.now _ _ c.in-Some.value.now refl c.first_line.ensures.line (sym c.in-Some.ensures)) ∙ c.loop-rest.invariant.found
