use Rattle.std.proofs.Common.{◌≡◌, ◌∙◌, ap, Err, IsErrOf, Ok, refl, Result, subst}
use Rattle.std.specs.Result.{IsErrAnd}
use Rattle.q_audit.specs.Errors.{audit_error}
use Rattle.q_audit.specs.Reading.{AuditState}
use Rattle.q_audit.specs.declared.error.AuditError.{AuditError}
use Rattle.q_audit.specs.declared.error.AuditError.TheVariants as audit
use Rattle.q_model.specs.Settings.{Table, World}
use Rattle.q_trace.specs.Bounds.{as_told, IsLineOf, IsNoLine}
use Rattle.q_trace.specs.declared.error.EntryError.{EntryError}
use Rattle.q_trace.specs.declared.error.EntryError.TheVariants as entry
use Rattle.q_transport.specs.Contents.{Contents}
use Rattle.q_transport.specs.Routing.{table_of}
use Rattle.q_audit.proofs.audit.Audit.line.Goals as goal

bad_entry : {X : Type 0} (r : Result X AuditError) (x : EntryError) → IsErrAnd r (λ e. e ≡ audit_error x) → IsErrOf r audit.BadEntry → x ≡ entry.BadEntry
bad_entry (Ok y) x h bad = absurd cc
bad_entry (Err e) entry.BadEntry h bad = refl
bad_entry (Err e) entry.NoMemory h bad = absurd cc

pub returns-in_err-entry-clause-bad : goal.returns-in_err-entry-clause-bad
returns-in_err-entry-clause-bad c bad =
    let error = bad_entry c.from_residual.result c.in_err-entry.field-0.0 c.from_residual.ensures.1 bad in
    let no : IsNoLine (table_of c.table.result.now) c.args.line.now = c.in_err-entry.ensures.bad (ap Err error) in
    subst (λ (t : Contents). IsNoLine (table_of t) c.args.line.now) (c.table.ensures ∙ ap (λ (a : AuditState). a.recount.given.contents) c.self.view_is) no

pub returns-clause-reads : goal.returns-clause-reads
returns-clause-reads c w es reads short =
    let table : table_of c.table.result.now ≡ w.table = ap table_of (c.table.ensures ∙ ap (λ (a : AuditState). a.recount.given.contents) c.self.view_is) ∙ ap (λ (v : World). v.table) reads.world in
    record {
      entry = c.in_ok-entry.entry;
      tells = subst (λ (t : Table). IsLineOf t c.args.line.now c.in_ok-entry.entry × (as_told c.in_ok-entry.entry ≡ c.in_ok-entry.entry)) table c.in_ok-entry.ensures.ok;
      reads = c.in_ok-entry-2.ensures.reads w es reads short;
    }
