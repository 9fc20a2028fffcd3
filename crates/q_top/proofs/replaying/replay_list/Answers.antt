use Rattle.std.proofs.Common.{◌≡◌, refl}
use Rattle.q_words.specs.declared.request.Request.TheVariants.{Replay}
use Rattle.q_books.specs.HostStands.{TellsCrashes}
use Rattle.q_top.proofs.FirstRefusals.{replayed, unread_replay}
use Rattle.q_top.proofs.RunsBehind.{still_fit}
use Rattle.q_top.proofs.Serving.{replay_serves, still_serves}
use Rattle.q_top.proofs.Named.{conf_named, replayed_named}
use Rattle.q_top.proofs.Readable.{conf_readable, ended_readable}
use Rattle.q_top.proofs.replaying.replay_list.Goals as goal

pub returns-in-Ok-clause-replays : goal.returns-in-Ok-clause-replays
returns-in-Ok-clause-replays g c t =
    let u = g.H.Host.view c.args.host.now in
    let left = g.S.Source.left in
    let lawful : TellsCrashes u = record { only = g.met.H.Host.only_now c.args.host.now; told = g.met.H.Host.told_stays c.args.host.now } in
    rw c.status_of.ensures.exact (replayed c.in-Ok.conf u (g.H.Host.view c.read_conf.new.host) (g.H.Host.view c.replay.new.host) lawful (c.read_conf.ensures.stays t) (c.in-Ok.ensures.exact t) c.replay.result (c.replay.ensures.damaged t) (c.replay.ensures.only_damaged t)
    (record { before = left c.args.source.now; after = left c.replay.new.source }) (c.replay.ensures.ends t) (c.replay.ensures.lists t))

pub returns-in-Err-clause-replays : goal.returns-in-Err-clause-replays
returns-in-Err-clause-replays g c t =
    let u = g.H.Host.view c.args.host.now in
    let left = g.S.Source.left in
    let lawful : TellsCrashes u = record { only = g.met.H.Host.only_now c.args.host.now; told = g.met.H.Host.told_stays c.args.host.now } in
    rw c.conf_status.ensures.exact (unread_replay u (g.H.Host.view c.read_conf.new.host) lawful (c.read_conf.ensures.stays t) g.H.Host.tells t (record { before = left c.args.source.now; after = left c.args.source.now }) c.in-Err.error refl c.in-Err.ensures.fault)

pub replay-requires-clause-spool : goal.replay-requires-clause-spool
replay-requires-clause-spool g c t =
    let u = g.H.Host.view c.args.host.now in
    let lawful : TellsCrashes u = record { only = g.met.H.Host.only_now c.args.host.now; told = g.met.H.Host.told_stays c.args.host.now } in
    still_fit u (g.H.Host.view c.read_conf.new.host) lawful (c.read_conf.ensures.stays t) (c.requires.spool t)

pub returns-in-Ok-clause-readable : goal.returns-in-Ok-clause-readable
returns-in-Ok-clause-readable g c t = rw c.status_of.ensures.exact (ended_readable c.replay.result (c.replay.ensures.readable t))

pub returns-in-Err-clause-readable : goal.returns-in-Err-clause-readable
returns-in-Err-clause-readable g c t = rw c.conf_status.ensures.exact (conf_readable c.in-Err.error)

pub returns-in-Ok-clause-serves : goal.returns-in-Ok-clause-serves
returns-in-Ok-clause-serves g c t =
    let u = g.H.Host.view c.args.host.now in
    let lawful : TellsCrashes u = record { only = g.met.H.Host.only_now c.args.host.now; told = g.met.H.Host.told_stays c.args.host.now } in
    replay_serves c.in-Ok.conf u (g.H.Host.view c.read_conf.new.host) (g.H.Host.view c.replay.new.host) lawful (c.read_conf.ensures.stays t) c.in-Ok.ensures.range c.replay.result (c.replay.ensures.lists t)

pub returns-in-Err-clause-serves : goal.returns-in-Err-clause-serves
returns-in-Err-clause-serves g c t =
    let u = g.H.Host.view c.args.host.now in
    let lawful : TellsCrashes u = record { only = g.met.H.Host.only_now c.args.host.now; told = g.met.H.Host.told_stays c.args.host.now } in
    still_serves u (g.H.Host.view c.read_conf.new.host) lawful (c.read_conf.ensures.stays t)

pub returns-in-Ok-clause-named : goal.returns-in-Ok-clause-named
returns-in-Ok-clause-named g c = rw c.status_of.ensures.exact (replayed_named (g.S.Source.left c.args.source.now) c.replay.result c.replay.ensures.named c.replay.ensures.line)

pub returns-in-Err-clause-named : goal.returns-in-Err-clause-named
returns-in-Err-clause-named g c = rw c.conf_status.ensures.exact (conf_named (λ r. r ≡ Replay) (g.S.Source.left c.args.source.now) c.in-Err.error c.in-Err.ensures.some_fault)
