use Rattle.std.proofs.Common.{◌≡◌, ◌∙◌, ap, Err}
use Rattle.q_conf.specs.Confs.{world_of}
use Rattle.q_top.proofs.Audited.{only_here, refused_trace, told_report, told_source, telling_cause, trace_cause, trace_named, trace_readable, trace_source}
use Rattle.q_top.proofs.Named.{unnamed}
use Rattle.q_top.proofs.Readable.{told_faultless, told_readable}
use Rattle.q_words.specs.declared.request.Request.TheVariants.{Audit}
use Rattle.q_top.proofs.auditing.audit_by.Goals as goal

pub returns-in-Ok-clause-ends : goal.returns-in-Ok-clause-ends
unfolding world_of
returns-in-Ok-clause-ends g c t =
    let left = g.S.Source.left in
    rw c.telling_status.ensures.exact (told_report (world_of c.args.conf) (record { before = left c.args.source.now; after = left c.audit_trace.new.source }) c.as_slice.result.now g.H.Host.tells t (g.H.Host.view c.args.host.now) (g.H.Host.view c.tell_text.new.host) c.tell_text.result
    (rw c.as_slice.ensures c.in-Ok.ensures.reports) c.tell_text.ensures.told c.tell_text.ensures.front)

pub returns-in-Err-clause-ends : goal.returns-in-Err-clause-ends
unfolding world_of
returns-in-Err-clause-ends g c t =
    let left = g.S.Source.left in
    rw c.trace_status.ensures.exact (refused_trace (world_of c.args.conf) (record { before = left c.args.source.now; after = left c.audit_trace.new.source }) (g.H.Host.view c.args.host.now) c.in-Err.error (c.audit_trace.ensures.refused c.in-Err.error c.in-Err.is))

pub returns-in-Ok-clause-only : goal.returns-in-Ok-clause-only
returns-in-Ok-clause-only g c = c.tell_text.ensures.only

pub returns-in-Err-clause-only : goal.returns-in-Err-clause-only
returns-in-Err-clause-only g c t = only_here (g.H.Host.view c.args.host.now) (g.met.H.Host.only_now c.args.host.now)

pub returns-in-Ok-clause-readable : goal.returns-in-Ok-clause-readable
returns-in-Ok-clause-readable g c = rw c.telling_status.ensures.exact (told_readable c.tell_text.result)

pub returns-in-Err-clause-readable : goal.returns-in-Err-clause-readable
returns-in-Err-clause-readable g c = rw c.trace_status.ensures.exact (trace_readable c.in-Err.error)

pub returns-in-Ok-clause-named : goal.returns-in-Ok-clause-named
returns-in-Ok-clause-named g c = rw c.telling_status.ensures.exact (unnamed (λ r. r ≡ Audit) (g.S.Source.left c.args.source.now) _ (told_faultless c.tell_text.result))

pub returns-in-Err-clause-named : goal.returns-in-Err-clause-named
unfolding world_of
returns-in-Err-clause-named g c = rw c.trace_status.ensures.exact (trace_named (world_of c.args.conf) (g.S.Source.left c.args.source.now) c.in-Err.error (c.audit_trace.ensures.refused c.in-Err.error c.in-Err.is))

pub returns-in-Ok-clause-host : goal.returns-in-Ok-clause-host
returns-in-Ok-clause-host g c = rw c.telling_status.ensures.exact (telling_cause (g.H.Host.faults c.args.host.now) (g.H.Host.faults c.tell_text.new.host) c.tell_text.result c.tell_text.ensures.cause)

pub returns-in-Err-clause-host : goal.returns-in-Err-clause-host
returns-in-Err-clause-host g c = rw c.trace_status.ensures.exact (trace_cause (g.H.Host.faults c.args.host.now) (g.H.Host.faults c.args.host.now) c.in-Err.error)

pub returns-in-Ok-clause-source : goal.returns-in-Ok-clause-source
returns-in-Ok-clause-source g c =
    let faults = g.S.Source.faults in
    rw c.telling_status.ensures.exact (told_source (faults c.args.source.now) (faults c.audit_trace.new.source) c.tell_text.result c.in-Ok.ensures.faultless)

pub returns-in-Err-clause-source : goal.returns-in-Err-clause-source
returns-in-Err-clause-source g c =
    let faults = g.S.Source.faults in
    rw c.trace_status.ensures.exact (trace_source (faults c.args.source.now) (faults c.audit_trace.new.source) c.in-Err.error (λ is. c.audit_trace.ensures.cause (c.in-Err.is ∙ ap Err is)))
