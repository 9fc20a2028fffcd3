use Rattle.q_text.proofs.LineLaws.{first_at, first_none}
use Rattle.q_text.proofs.lines.first_line.Goals as goal

pub returns-in-Some-clause-line : goal.returns-in-Some-clause-line
returns-in-Some-clause-line c = first_at c.args.text.now _ _ c.in-Some.ensures.exact

pub returns-in-None-clause-line : goal.returns-in-None-clause-line
returns-in-None-clause-line c = first_none c.args.text.now _ c.in-None.ensures.exact
