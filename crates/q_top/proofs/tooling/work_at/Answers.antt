use Rattle.std.proofs.Common.{◌≡◌}
use Rattle.q_words.specs.declared.request.Request.TheVariants.{Tool}
use Rattle.q_books.specs.HostStands.{TellsCrashes}
use Rattle.q_top.proofs.Named.{conf_named}
use Rattle.q_top.proofs.Readable.{conf_readable}
use Rattle.q_top.proofs.RunsBehind.{still_fit}
use Rattle.q_top.proofs.Serving.{still_serves, tool_serves}
use Rattle.q_top.proofs.ToolRuns.{never_tool_source, tool_cause, tool_named, tool_readable, unread_tool, worked}
use Rattle.q_top.proofs.tooling.work_at.Goals as goal

pub returns-in-Ok-clause-works : goal.returns-in-Ok-clause-works
returns-in-Ok-clause-works g c t =
    let u = g.H.Host.view c.args.host.now in
    let lawful : TellsCrashes u = record { only = g.met.H.Host.only_now c.args.host.now; told = g.met.H.Host.told_stays c.args.host.now } in
    rw c.tool_status.ensures.exact (worked c.in-Ok.conf u (g.H.Host.view c.read_conf.new.host) (g.H.Host.view c.carry.new.host) lawful (c.read_conf.ensures.stays t) (c.in-Ok.ensures.exact t) c.args.moment c.args.task.now c.carry.result (c.carry.ensures.damaged t) (c.carry.ensures.only_damaged t) (c.carry.ensures.ends t))

pub returns-in-Err-clause-works : goal.returns-in-Err-clause-works
returns-in-Err-clause-works g c t =
    let u = g.H.Host.view c.args.host.now in
    let lawful : TellsCrashes u = record { only = g.met.H.Host.only_now c.args.host.now; told = g.met.H.Host.told_stays c.args.host.now } in
    rw c.conf_status.ensures.exact (unread_tool u (g.H.Host.view c.read_conf.new.host) lawful (c.read_conf.ensures.stays t) g.H.Host.tells t c.args.moment c.args.task.now c.in-Err.error c.in-Err.ensures.fault)

pub carry-requires-clause-spool : goal.carry-requires-clause-spool
carry-requires-clause-spool g c t =
    let u = g.H.Host.view c.args.host.now in
    let lawful : TellsCrashes u = record { only = g.met.H.Host.only_now c.args.host.now; told = g.met.H.Host.told_stays c.args.host.now } in
    still_fit u (g.H.Host.view c.read_conf.new.host) lawful (c.read_conf.ensures.stays t) (c.requires.spool t)

pub returns-in-Ok-clause-no_source : goal.returns-in-Ok-clause-no_source
returns-in-Ok-clause-no_source g c is = never_tool_source c.args.task.now c.carry.result c.carry.ensures.named (rw c.tool_status.ensures.exact at is)

pub returns-in-Ok-clause-readable : goal.returns-in-Ok-clause-readable
returns-in-Ok-clause-readable g c t = rw c.tool_status.ensures.exact (tool_readable c.carry.result (c.carry.ensures.readable t))

pub returns-in-Err-clause-readable : goal.returns-in-Err-clause-readable
returns-in-Err-clause-readable g c t = rw c.conf_status.ensures.exact (conf_readable c.in-Err.error)

pub returns-in-Ok-clause-serves : goal.returns-in-Ok-clause-serves
returns-in-Ok-clause-serves g c t =
    let u = g.H.Host.view c.args.host.now in
    let lawful : TellsCrashes u = record { only = g.met.H.Host.only_now c.args.host.now; told = g.met.H.Host.told_stays c.args.host.now } in
    tool_serves c.in-Ok.conf u (g.H.Host.view c.read_conf.new.host) (g.H.Host.view c.carry.new.host) lawful (c.read_conf.ensures.stays t) c.in-Ok.ensures.range c.args.moment c.args.task.now c.carry.result c.requires.moment (c.carry.ensures.ends t)

pub returns-in-Err-clause-serves : goal.returns-in-Err-clause-serves
returns-in-Err-clause-serves g c t =
    let u = g.H.Host.view c.args.host.now in
    let lawful : TellsCrashes u = record { only = g.met.H.Host.only_now c.args.host.now; told = g.met.H.Host.told_stays c.args.host.now } in
    still_serves u (g.H.Host.view c.read_conf.new.host) lawful (c.read_conf.ensures.stays t)

pub returns-in-Ok-clause-named : goal.returns-in-Ok-clause-named
returns-in-Ok-clause-named g c tool text lacks = rw c.tool_status.ensures.exact (tool_named c.args.task.now tool text lacks c.carry.result c.carry.ensures.named)

pub returns-in-Err-clause-named : goal.returns-in-Err-clause-named
returns-in-Err-clause-named g c tool text lacks = rw c.conf_status.ensures.exact (conf_named (λ r. r ≡ Tool tool) text c.in-Err.error c.in-Err.ensures.some_fault)

pub returns-in-Ok-clause-host : goal.returns-in-Ok-clause-host
returns-in-Ok-clause-host g c = rw c.tool_status.ensures.exact (tool_cause (g.H.Host.faults c.args.host.now) (g.H.Host.faults c.read_conf.new.host) (g.H.Host.faults c.carry.new.host) c.carry.result c.read_conf.ensures.disk_later c.read_conf.ensures.tell_later c.carry.ensures.cause)
