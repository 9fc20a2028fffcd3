use Rattle.std.proofs.Common.{◌+◌, ◌∙◌, ap, sym}
use Rattle.q_input.proofs.IdLineLaws.{no_id, read_refused}
use Rattle.q_input.specs.declared.error.IdsError.TheVariants.{BadLine}
use Rattle.q_trace.specs.PartTexts.{id_of}
use Rattle.q_input.proofs.ids.ids_in.Goals as goal

pub returns-in_default : goal.returns-in_default
returns-in_default c =
    let loop = c.loop-rest in
    let n = loop.number + 1 in
    let said = sym c.is_passed_over.ensures ∙ c.if-not-is_passed_over.true in
    let none = ap id_of (sym c.trim.ensures) ∙ sym c.id_named.ensures ∙ c.in_default.is in
    sym loop.invariant.read ∙ read_refused n loop.ids loop.rest.now _ _ (BadLine n) c.first_line.ensures.line (no_id n loop.ids c.first_line.result.0.now said none)
