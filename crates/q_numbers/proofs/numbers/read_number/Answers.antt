use Rattle.std.proofs.Common.{◌∙◌, arith}
use Rattle.q_numbers.proofs.NumberLaws.{decimal_is_read, read_decimal}
use Rattle.q_numbers.proofs.numbers.read_number.Goals as goal

pub returns-clause-written : goal.returns-clause-written
returns-clause-written c = read_decimal c.args.low c.args.high c.args.text.now c.number.result (omega (arith, c.ranges.high.fits)) c.number.ensures.exact

pub returns-clause-only : goal.returns-clause-only
returns-clause-only c = λ n low high e. c.number.ensures.exact ∙ decimal_is_read c.args.low c.args.high c.args.text.now n (omega (arith, c.ranges.high.fits)) low high e
