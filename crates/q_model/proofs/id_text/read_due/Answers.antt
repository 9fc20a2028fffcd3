use Rattle.std.proofs.Common.{ap, arith, length}
use Rattle.std.proofs.lemmas.Option.{none-some}
use Rattle.q_model.proofs.IdLaws.{decimals_due, due_from_pieces, id_piece, length-due_text}
use Rattle.q_model.proofs.id_text.read_due.Goals as goal

pub returns-in_err-digits : goal.returns-in_err-digits
returns-in_err-digits c = λ due id small h e. absurd (omega (arith, length-due_text due id, ap length e, c.in_err-digits.ensures.cases))

pub returns-in_err-rest : goal.returns-in_err-rest
returns-in_err-rest c = λ due id small h e. absurd (omega (arith, length-due_text due id, ap length e, c.in_ok-digits.ensures.cases, c.in_err-rest.ensures.cases))

pub returns-in_err-decimal_number : goal.returns-in_err-decimal_number
returns-in_err-decimal_number c = λ due id small h e.
    absurd (none-some due (c.in_err-decimal_number.ensures due small (decimals_due due id _ _ e c.in_ok-digits.ensures.cases.1)))

pub returns-in_err-read_id : goal.returns-in_err-read_id
returns-in_err-read_id c = λ due id small h e.
    absurd (none-some id (c.in_err-read_id.ensures id h (id_piece due id _ _ _ e c.in_ok-digits.ensures.cases.2 c.in_ok-rest.ensures.cases.2)))

pub returns : goal.returns
returns c = λ due id small h e.
    due_from_pieces due _ id _
    (c.in_ok-decimal_number.ensures due small (decimals_due due id _ _ e c.in_ok-digits.ensures.cases.1))
    (c.in_ok-read_id.ensures id h (id_piece due id _ _ _ e c.in_ok-digits.ensures.cases.2 c.in_ok-rest.ensures.cases.2))
