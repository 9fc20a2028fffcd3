-- Why a line isn't audited, by why it isn't read or isn't there.
use Rattle.q_audit.specs.declared.error.AuditError.{AuditError}
use Rattle.q_audit.specs.declared.error.AuditError.TheVariants as audit
use Rattle.q_audit.specs.declared.trace.TraceError.{TraceError}
use Rattle.q_audit.specs.declared.trace.TraceError.TheVariants as trace
use Rattle.q_lines.specs.declared.line_reader.LineError.{LineError}
use Rattle.q_lines.specs.declared.line_reader.LineError.TheVariants as line
use Rattle.q_trace.specs.declared.error.EntryError.{EntryError}
use Rattle.q_trace.specs.declared.error.EntryError.TheVariants as entry

abbrev pub audit_error : EntryError → AuditError
audit_error entry.NoMemory = audit.NoMemory
audit_error entry.BadEntry = audit.BadEntry

abbrev pub trace_error : LineError → TraceError
trace_error line.Source = trace.Source
trace_error line.NoMemory = trace.NoMemory
