use Rattle.q_transport.specs.Routing.{table_of}
use Rattle.q_model.specs.Text.{joined, line, words}
use Rattle.q_trace.proofs.LineReads.{answer_back, answer_bad, answer_ok}
use Rattle.q_trace.proofs.reading.read_entry.Goals as goal

pub returns-in-Some-clause-ok : goal.returns-in-Some-clause-ok
returns-in-Some-clause-ok c = answer_ok (table_of c.args.table.now) c.in-Some.text.now c.args.line.now c.entry.result c.in-Some.ensures.some c.entry.ensures

pub returns-in-Some-clause-bad : goal.returns-in-Some-clause-bad
returns-in-Some-clause-bad c = answer_bad (table_of c.args.table.now) c.in-Some.text.now c.args.line.now c.entry.result c.in-Some.ensures.some c.entry.ensures

pub returns-in-Some-clause-back : goal.returns-in-Some-clause-back
returns-in-Some-clause-back c = answer_back (table_of c.args.table.now) c.in-Some.text.now c.args.line.now c.entry.result c.in-Some.ensures.some c.entry.ensures

pub returns-in-None-clause-bad : goal.returns-in-None-clause-bad
unfolding line
returns-in-None-clause-bad c = λ _ e is same. c.in-None.ensures.none (joined (words (table_of c.args.table.now) e)) same
