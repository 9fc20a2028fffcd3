use Rattle.std.proofs.Common.{◌≡◌, refl}
use Rattle.q_conf.specs.Confs.{world_of}
use Rattle.q_top.proofs.Audited.{audited, only_serves, unread_trace}
use Rattle.q_top.proofs.Named.{conf_named}
use Rattle.q_top.proofs.Readable.{conf_readable}
use Rattle.q_words.specs.declared.request.Request.TheVariants.{Audit}
use Rattle.q_top.proofs.auditing.audit_source.Goals as goal

pub returns-in-Ok-clause-audits : goal.returns-in-Ok-clause-audits
returns-in-Ok-clause-audits g c t =
    let left = g.S.Source.left in
    audited (g.H.Host.view c.args.host.now) (g.H.Host.view c.read_conf.new.host) (g.met.H.Host.only_now c.args.host.now) (c.read_conf.ensures.stays t) (g.H.Host.view c.audit_by.new.host) (world_of c.in-Ok.conf)
    (record { before = left c.args.source.now; after = left c.audit_by.new.source }) c.audit_by.result (c.in-Ok.ensures.exact t) (c.audit_by.ensures.ends t) (c.audit_by.ensures.only t)

pub returns-in-Err-clause-audits : goal.returns-in-Err-clause-audits
returns-in-Err-clause-audits g c t =
    let left = g.S.Source.left in
    rw c.conf_status.ensures.exact (unread_trace (g.H.Host.view c.args.host.now) (g.H.Host.view c.read_conf.new.host) (g.met.H.Host.only_now c.args.host.now) (c.read_conf.ensures.stays t) g.H.Host.tells t
    (record { before = left c.args.source.now; after = left c.args.source.now }) c.in-Err.error refl c.in-Err.ensures.fault)

pub returns-in-Ok-clause-serves : goal.returns-in-Ok-clause-serves
returns-in-Ok-clause-serves g c t =
    let u = g.H.Host.view c.args.host.now in
    let left = g.S.Source.left in
    let all = audited u (g.H.Host.view c.read_conf.new.host) (g.met.H.Host.only_now c.args.host.now) (c.read_conf.ensures.stays t) (g.H.Host.view c.audit_by.new.host) (world_of c.in-Ok.conf)
    (record { before = left c.args.source.now; after = left c.audit_by.new.source }) c.audit_by.result (c.in-Ok.ensures.exact t) (c.audit_by.ensures.ends t) (c.audit_by.ensures.only t) in
    only_serves u (g.H.Host.view c.audit_by.new.host) all.only

pub returns-in-Err-clause-serves : goal.returns-in-Err-clause-serves
returns-in-Err-clause-serves g c t =
    let u = g.H.Host.view c.args.host.now in
    let left = g.S.Source.left in
    let all = unread_trace u (g.H.Host.view c.read_conf.new.host) (g.met.H.Host.only_now c.args.host.now) (c.read_conf.ensures.stays t) g.H.Host.tells t
    (record { before = left c.args.source.now; after = left c.args.source.now }) c.in-Err.error refl c.in-Err.ensures.fault in
    only_serves u (g.H.Host.view c.read_conf.new.host) all.only

pub returns-in-Err-clause-readable : goal.returns-in-Err-clause-readable
returns-in-Err-clause-readable g c = rw c.conf_status.ensures.exact (conf_readable c.in-Err.error)

pub returns-in-Err-clause-named : goal.returns-in-Err-clause-named
returns-in-Err-clause-named g c = rw c.conf_status.ensures.exact (conf_named (λ r. r ≡ Audit) (g.S.Source.left c.args.source.now) c.in-Err.error c.in-Err.ensures.some_fault)
