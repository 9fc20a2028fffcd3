use Rattle.q_numbers.proofs.NumberLaws.{number_is_utf8, parsed}
use Rattle.q_numbers.proofs.numbers.value.Goals as goal

pub returns-in-Ok : goal.returns-in-Ok
returns-in-Ok c =
    let read = rw c.in-Ok.ensures.cases.0 at c.parse.ensures.value.0 in
    rw c.ok.ensures.value (parsed c.args.text.now _ c.requires read)

pub returns-in-Err : goal.returns-in-Err
returns-in-Err c = absurd (c.in-Err.ensures.cases.0 (number_is_utf8 c.args.text.now c.requires))
