use Rattle.std.proofs.Common.{◌∙◌, [], ap, Err, subst}
use Rattle.q_audit.proofs.EndLaws.{same_error}
use Rattle.q_audit.specs.Reading.{Reads}
use Rattle.q_ledger.specs.Worlds.{Given, world_of}
use Rattle.q_audit.proofs.trace.audit_trace.Goals as goal

pub returns-in_err-read_all-clause-refused : goal.returns-in_err-read_all-clause-refused
returns-in_err-read_all-clause-refused g c error is =
    let given : Given = record { settings = c.args.params.now; contents = c.args.table } in
    let reads = subst (λ (x : Given). Reads (world_of x) c.new-audit.result []) c.new-audit.ensures.given c.new-audit.ensures.reads in
    let same = same_error c.from_residual.result c.in_err-read_all.field-0.0 error c.from_residual.ensures.1 is in
    c.read_all.ensures.refused (world_of given) error reads (c.in_err-read_all.was ∙ ap Err same)

pub returns-clause-reports : goal.returns-clause-reports
returns-clause-reports g c =
    let given : Given = record { settings = c.args.params.now; contents = c.args.table } in
    let reads = subst (λ (x : Given). Reads (world_of x) c.new-audit.result []) c.new-audit.ensures.given c.new-audit.ensures.reads in
    let all = c.in_ok-read_all.ensures.all (world_of given) reads in
    record { entries = all.entries; report = c.in_ok-text.ensures (world_of given) all.entries all.reads; whole = all.whole }
