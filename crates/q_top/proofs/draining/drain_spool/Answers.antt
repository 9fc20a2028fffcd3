use Rattle.std.proofs.Common.{◌≡◌, ◌∙◌, subst, sym, ℕ}
use Rattle.q_words.specs.declared.request.Request.TheVariants.{Drain}
use Rattle.q_books.specs.HostStands.{TellsCrashes}
use Rattle.q_top.proofs.Drains.{drained, never_of_source, unread_drain}
use Rattle.q_top.proofs.RunsBehind.{still_fit}
use Rattle.q_top.proofs.Serving.{drain_serves, still_serves}
use Rattle.q_drain.specs.Drained.{AreTooFew}
use Rattle.q_top.proofs.Named.{conf_named, delivered_named, left_unfinished}
use Rattle.q_top.proofs.Readable.{conf_readable, delivered_readable}
use Rattle.q_top.proofs.draining.drain_spool.Goals as goal

pub returns-in-Ok-clause-drains : goal.returns-in-Ok-clause-drains
returns-in-Ok-clause-drains g c t =
    let u = g.H.Host.view c.args.host.now in
    let lawful : TellsCrashes u = record { only = g.met.H.Host.only_now c.args.host.now; told = g.met.H.Host.told_stays c.args.host.now } in
    rw c.delivery_status.ensures.exact (drained c.in-Ok.conf u (g.H.Host.view c.read_conf.new.host) (g.H.Host.view c.deliver.new.host) lawful (c.read_conf.ensures.stays t) (c.in-Ok.ensures.exact t)
    (record {
      before = record { clock = g.C.Clock.given c.args.clock.now; hops = g.N.Hops.view c.args.hops.now };
      behind = record { clock = g.C.Clock.given c.deliver.new.clock; hops = g.N.Hops.view c.deliver.new.hops };
    }) c.deliver.result (c.deliver.ensures.damaged t) (c.deliver.ensures.only_damaged t) (c.deliver.ensures.ends t))

pub returns-in-Err-clause-drains : goal.returns-in-Err-clause-drains
returns-in-Err-clause-drains g c t =
    let u = g.H.Host.view c.args.host.now in
    let lawful : TellsCrashes u = record { only = g.met.H.Host.only_now c.args.host.now; told = g.met.H.Host.told_stays c.args.host.now } in
    rw c.conf_status.ensures.exact (unread_drain u (g.H.Host.view c.read_conf.new.host) lawful (c.read_conf.ensures.stays t) g.H.Host.tells t (record { clock = g.C.Clock.given c.args.clock.now; hops = g.N.Hops.view c.args.hops.now }) c.in-Err.error c.in-Err.ensures.fault)

pub deliver-requires-clause-spool : goal.deliver-requires-clause-spool
deliver-requires-clause-spool g c t =
    let u = g.H.Host.view c.args.host.now in
    let lawful : TellsCrashes u = record { only = g.met.H.Host.only_now c.args.host.now; told = g.met.H.Host.told_stays c.args.host.now } in
    still_fit u (g.H.Host.view c.read_conf.new.host) lawful (c.read_conf.ensures.stays t) (c.requires.spool t)

pub returns-in-Ok-clause-no_source : goal.returns-in-Ok-clause-no_source
returns-in-Ok-clause-no_source g c is = never_of_source c.deliver.result c.deliver.ensures.no_source (rw c.delivery_status.ensures.exact at is)

pub returns-in-Ok-clause-readable : goal.returns-in-Ok-clause-readable
returns-in-Ok-clause-readable g c t = rw c.delivery_status.ensures.exact (delivered_readable c.deliver.result (c.deliver.ensures.readable t))

pub returns-in-Err-clause-readable : goal.returns-in-Err-clause-readable
returns-in-Err-clause-readable g c t = rw c.conf_status.ensures.exact (conf_readable c.in-Err.error)

pub returns-in-Ok-clause-serves : goal.returns-in-Ok-clause-serves
returns-in-Ok-clause-serves g c t =
    let u = g.H.Host.view c.args.host.now in
    let lawful : TellsCrashes u = record { only = g.met.H.Host.only_now c.args.host.now; told = g.met.H.Host.told_stays c.args.host.now } in
    drain_serves c.in-Ok.conf u (g.H.Host.view c.read_conf.new.host) (g.H.Host.view c.deliver.new.host) lawful (c.read_conf.ensures.stays t) c.in-Ok.ensures.range
    (record {
      before = record { clock = g.C.Clock.given c.args.clock.now; hops = g.N.Hops.view c.args.hops.now };
      behind = record { clock = g.C.Clock.given c.deliver.new.clock; hops = g.N.Hops.view c.deliver.new.hops };
    }) c.deliver.result (c.deliver.ensures.ends t)

pub returns-in-Err-clause-serves : goal.returns-in-Err-clause-serves
returns-in-Err-clause-serves g c t =
    let u = g.H.Host.view c.args.host.now in
    let lawful : TellsCrashes u = record { only = g.met.H.Host.only_now c.args.host.now; told = g.met.H.Host.told_stays c.args.host.now } in
    still_serves u (g.H.Host.view c.read_conf.new.host) lawful (c.read_conf.ensures.stays t)

pub returns-in-Ok-clause-named : goal.returns-in-Ok-clause-named
returns-in-Ok-clause-named g c text = rw c.delivery_status.ensures.exact (delivered_named c.args.rests text c.deliver.result c.deliver.ensures.named)

pub returns-in-Err-clause-named : goal.returns-in-Err-clause-named
returns-in-Err-clause-named g c text = rw c.conf_status.ensures.exact (conf_named (λ r. r ≡ Drain c.args.rests) text c.in-Err.error c.in-Err.ensures.some_fault)

pub returns-in-Ok-clause-few : goal.returns-in-Ok-clause-few
returns-in-Ok-clause-few g c n is =
    let left = left_unfinished c.deliver.result n (sym c.delivery_status.ensures.exact ∙ is) in
    let (same, counted) = c.deliver.ensures.unfinished n left in
    subst (λ (k : ℕ). AreTooFew k (g.N.Hops.view c.args.hops.now)) (sym same) (c.deliver.ensures.few n left)
