use Rattle.q_transport.specs.Routing.{table_of}
use Rattle.q_trace.proofs.LineReads.{same_line}
use Rattle.q_trace.proofs.writing.entry_text.Goals as goal

pub returns-in_err-entry_line-clause-only : goal.returns-in_err-entry_line-clause-only
returns-in_err-entry_line-clause-only c = λ e is h. same_line (table_of c.args.table.now) c.args.entry.now e is h

pub returns-clause-only : goal.returns-clause-only
returns-clause-only c = λ e is h. same_line (table_of c.args.table.now) c.args.entry.now e is h
