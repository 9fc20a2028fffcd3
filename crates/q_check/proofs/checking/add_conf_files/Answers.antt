use Rattle.q_check.proofs.ConfTexts.{conf-added}
use Rattle.q_host.proofs.Stays.{stays_on}
use Rattle.q_check.proofs.checking.add_conf_files.Goals as goal

pub returns-clause-added : goal.returns-clause-added
returns-clause-added g c t =
    let view = g.H.Host.view in
    let first = c.in_ok-params.ensures.stays t in
    let both = stays_on (view c.args.host.now) (view c.add_conf.new.host) (view c.add_conf-2.new.host) first (c.in_ok-table.ensures.stays t) in
    conf-added (view c.args.host.now).files (view c.add_conf.new.host).files (view c.add_conf-2.new.host).files c.args.text.now.items c.add_conf.new.text.items c.add_conf-2.new.text.items c.add_hops.new.text.items
    first.files both.files (c.in_ok-params.ensures.added t) (c.in_ok-table.ensures.added t) (c.in_ok-add_hops.ensures.added t)
