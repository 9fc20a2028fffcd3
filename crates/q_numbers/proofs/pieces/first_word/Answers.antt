use Rattle.std.proofs.Common.{sym}
use Rattle.q_numbers.proofs.PieceLaws.{pieces_at, pieces_none}
use Rattle.q_numbers.proofs.pieces.first_word.Goals as goal

pub returns-in-Some-clause-words : goal.returns-in-Some-clause-words
returns-in-Some-clause-words c = pieces_at 32 c.args.text.now _ _ (sym c.in-Some.ensures.exact)

pub returns-in-None-clause-words : goal.returns-in-None-clause-words
returns-in-None-clause-words c = pieces_none 32 c.args.text.now (sym c.in-None.ensures.exact)
