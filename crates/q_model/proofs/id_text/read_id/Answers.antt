use Rattle.std.proofs.Common.{ap, arith, length}
use Rattle.std.proofs.lemmas.Option.{none-some}
use Rattle.q_model.proofs.IdLaws.{hex_generation, hex_serial, id_from_pieces, length-id_text, tail_piece}
use Rattle.q_model.proofs.id_text.read_id.Goals as goal

pub returns-in_err-generation : goal.returns-in_err-generation
returns-in_err-generation c = λ id h e. absurd (omega (arith, length-id_text id, ap length e, c.in_err-generation.ensures.cases))

pub returns-in_err-rest : goal.returns-in_err-rest
returns-in_err-rest c = λ id h e. absurd (omega (arith, length-id_text id, ap length e, c.in_ok-generation.ensures.cases, c.in_err-rest.ensures.cases))

pub returns-in_err-serial : goal.returns-in_err-serial
returns-in_err-serial c = λ id h e.
    absurd (omega (arith, length-id_text id, ap length e, c.in_ok-generation.ensures.cases, c.in_ok-rest.ensures.cases, c.in_err-serial.ensures.cases))

pub returns-in_err-hex_number : goal.returns-in_err-hex_number
returns-in_err-hex_number c = λ id h e.
    absurd (none-some id.generation (c.in_err-hex_number.ensures id.generation h.generation_fits (hex_generation id _ _ e c.in_ok-generation.ensures.cases.1)))

pub returns-in_err-hex_number-2 : goal.returns-in_err-hex_number-2
returns-in_err-hex_number-2 c = λ id h e.
    absurd (none-some id.serial (c.in_err-hex_number-2.ensures id.serial h.serial_fits
    (hex_serial id _ _ _ _ e c.in_ok-generation.ensures.cases.2 c.in_ok-rest.ensures.cases.2 c.in_ok-serial.ensures.cases.1)))

pub returns : goal.returns
returns c = λ id h e.
    id_from_pieces id _ _ _ _ (tail_piece id _ _ _ _ e c.in_ok-generation.ensures.cases.2 c.in_ok-rest.ensures.cases.2 c.in_ok-serial.ensures.cases.2) c.is_empty.ensures
    (c.in_ok-hex_number.ensures id.generation h.generation_fits (hex_generation id _ _ e c.in_ok-generation.ensures.cases.1))
    (c.in_ok-hex_number-2.ensures id.serial h.serial_fits (hex_serial id _ _ _ _ e c.in_ok-generation.ensures.cases.2 c.in_ok-rest.ensures.cases.2 c.in_ok-serial.ensures.cases.1))
