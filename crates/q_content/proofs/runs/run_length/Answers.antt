use Rattle.q_content.proofs.RunLaws.{plain_none, plain_run}
use Rattle.q_content.proofs.runs.run_length.Goals as goal

pub returns-then-line-clause-plain : goal.returns-then-line-clause-plain
returns-then-line-clause-plain c = plain_none c.args.line

pub returns-clause-plain : goal.returns-clause-plain
returns-clause-plain c =
    plain_run c.args.line c.args.rest.now c.place_of_end.result c.unwrap_or.result c.if-line.false c.if-not-line.false c.place_of_end.ensures.exact c.unwrap_or.ensures
