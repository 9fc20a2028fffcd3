use Rattle.std.proofs.Common.{◌≡◌, ◌∙◌, subst, sym, ℕ}
use Rattle.q_words.specs.declared.request.Request.TheVariants.{Listen}
use Rattle.q_books.specs.HostStands.{TellsCrashes}
use Rattle.q_listen.specs.ListenEnds.{AreTooFew}
use Rattle.q_top.proofs.Listens.{listened, unread_listen}
use Rattle.q_top.proofs.RunsBehind.{still_fit}
use Rattle.q_top.proofs.Serving.{listen_serves, still_serves}
use Rattle.q_top.proofs.Named.{conf_named, left_listening, listened_named}
use Rattle.q_top.proofs.Readable.{conf_readable, listened_readable}
use Rattle.q_top.proofs.listening.listen_spool.Goals as goal

pub returns-in-Ok-clause-listens : goal.returns-in-Ok-clause-listens
returns-in-Ok-clause-listens g c t =
    let u = g.H.Host.view c.args.host.now in
    let lawful : TellsCrashes u = record { only = g.met.H.Host.only_now c.args.host.now; told = g.met.H.Host.told_stays c.args.host.now } in
    rw c.listen_status.ensures.exact (listened c.in-Ok.conf u (g.H.Host.view c.read_conf.new.host) (g.H.Host.view c.listen.new.host) lawful (c.read_conf.ensures.stays t) (c.in-Ok.ensures.exact t) c.args.port c.args.count
    (record {
      before = record { clock = g.C.Clock.given c.args.clock.now; door = g.D.Door.view c.args.door.now };
      behind = record { clock = g.C.Clock.given c.listen.new.clock; door = g.D.Door.view c.listen.new.door };
    }) c.listen.result (c.listen.ensures.damaged t) (c.listen.ensures.only_damaged t) (c.listen.ensures.ends t))

pub returns-in-Err-clause-listens : goal.returns-in-Err-clause-listens
returns-in-Err-clause-listens g c t =
    let u = g.H.Host.view c.args.host.now in
    let lawful : TellsCrashes u = record { only = g.met.H.Host.only_now c.args.host.now; told = g.met.H.Host.told_stays c.args.host.now } in
    rw c.conf_status.ensures.exact (unread_listen c.args.port c.args.count u (g.H.Host.view c.read_conf.new.host) lawful (c.read_conf.ensures.stays t) g.H.Host.tells t (record { clock = g.C.Clock.given c.args.clock.now; door = g.D.Door.view c.args.door.now }) c.in-Err.error c.in-Err.ensures.fault)

pub listen-requires-clause-spool : goal.listen-requires-clause-spool
listen-requires-clause-spool g c t =
    let u = g.H.Host.view c.args.host.now in
    let lawful : TellsCrashes u = record { only = g.met.H.Host.only_now c.args.host.now; told = g.met.H.Host.told_stays c.args.host.now } in
    still_fit u (g.H.Host.view c.read_conf.new.host) lawful (c.read_conf.ensures.stays t) (c.requires.spool t)

pub returns-in-Ok-clause-readable : goal.returns-in-Ok-clause-readable
returns-in-Ok-clause-readable g c t = rw c.listen_status.ensures.exact (listened_readable c.listen.result (c.listen.ensures.readable t))

pub returns-in-Err-clause-readable : goal.returns-in-Err-clause-readable
returns-in-Err-clause-readable g c t = rw c.conf_status.ensures.exact (conf_readable c.in-Err.error)

pub returns-in-Ok-clause-serves : goal.returns-in-Ok-clause-serves
returns-in-Ok-clause-serves g c t =
    let u = g.H.Host.view c.args.host.now in
    let lawful : TellsCrashes u = record { only = g.met.H.Host.only_now c.args.host.now; told = g.met.H.Host.told_stays c.args.host.now } in
    listen_serves c.in-Ok.conf u (g.H.Host.view c.read_conf.new.host) (g.H.Host.view c.listen.new.host) lawful (c.read_conf.ensures.stays t) c.in-Ok.ensures.range c.args.port c.args.count
    (record {
      before = record { clock = g.C.Clock.given c.args.clock.now; door = g.D.Door.view c.args.door.now };
      behind = record { clock = g.C.Clock.given c.listen.new.clock; door = g.D.Door.view c.listen.new.door };
    }) c.listen.result (c.listen.ensures.ends t)

pub returns-in-Err-clause-serves : goal.returns-in-Err-clause-serves
returns-in-Err-clause-serves g c t =
    let u = g.H.Host.view c.args.host.now in
    let lawful : TellsCrashes u = record { only = g.met.H.Host.only_now c.args.host.now; told = g.met.H.Host.told_stays c.args.host.now } in
    still_serves u (g.H.Host.view c.read_conf.new.host) lawful (c.read_conf.ensures.stays t)

pub returns-in-Ok-clause-named : goal.returns-in-Ok-clause-named
returns-in-Ok-clause-named g c text = rw c.listen_status.ensures.exact (listened_named c.args.port c.args.count c.args.rests text c.listen.result c.listen.ensures.named)

pub returns-in-Err-clause-named : goal.returns-in-Err-clause-named
returns-in-Err-clause-named g c text = rw c.conf_status.ensures.exact (conf_named (λ r. r ≡ Listen c.args.port c.args.count c.args.rests) text c.in-Err.error c.in-Err.ensures.some_fault)

pub returns-in-Ok-clause-few : goal.returns-in-Ok-clause-few
returns-in-Ok-clause-few g c n is =
    let left = left_listening c.listen.result n (sym c.listen_status.ensures.exact ∙ is) in
    let (same, counted) = c.listen.ensures.unfinished n left in
    subst (λ (k : ℕ). AreTooFew k (g.D.Door.view c.args.door.now)) (sym same) (c.listen.ensures.few n left)
