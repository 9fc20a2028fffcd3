use Rattle.std.proofs.Common.{◌+◌, ◌∙◌, ap, cond, map, None, refl, Some, sym}
use Rattle.std.specs.Prelude.{option_map}
use Rattle.q_model.specs.Texts.{lower}
use Rattle.q_conf_texts.specs.Lines.{At}
use Rattle.q_conf_texts.specs.Routes.{entry_in}
use Rattle.q_conf_texts.proofs.FoundLaws.{found_here}
use Rattle.q_conf_texts.proofs.routes.line_of.Goals as goal

pub returns-then-has_entry : goal.returns-then-has_entry
returns-then-has_entry c =
    let says = ap (λ b. cond b (Some tt) None) (sym c.has_entry.ensures ∙ c.if-has_entry.true) in
    let here = found_here (entry_in (map lower c.args.pattern.now)) (c.loop-rest.number + 1) c.loop-rest.rest.now _ _ tt refl c.first_line.ensures.line says in
    ap (option_map (λ (found : At (Unit {0})). found.line)) (sym here ∙ c.loop-rest.invariant.found)
