use Rattle.q_books.specs.HostStands.{TellsCrashes}
use Rattle.q_tools.proofs.ToolCauses.{ends_done, ends_given_up}
use Rattle.q_tools.proofs.carrying.carry.Goals as goal

pub returns-in-Ok-work_at_rest-clause-ends : goal.returns-in-Ok-work_at_rest-clause-ends
returns-in-Ok-work_at_rest-clause-ends g c t b h orderly w settings table_is =
    let view = g.H.Host.view in
    let m = view c.run_life.new.host in
    let lawful : TellsCrashes m = record { only = g.met.H.Host.only_now c.run_life.new.host; told = g.met.H.Host.told_stays c.run_life.new.host } in
    ends_done c.args.params c.requires.range w settings b c.args.moment c.args.task.now (view c.args.host.now) m (view c.work_at_rest.new.host) h orderly lawful (c.in-Ok.ensures.ends t b h orderly w settings table_is)
    (c.in-Ok-work_at_rest.ensures.ok t)

pub returns-in-Err-work_at_rest-clause-ends : goal.returns-in-Err-work_at_rest-clause-ends
returns-in-Err-work_at_rest-clause-ends g c t b h orderly w settings table_is =
    let view = g.H.Host.view in
    let m = view c.run_life.new.host in
    let lawful : TellsCrashes m = record { only = g.met.H.Host.only_now c.run_life.new.host; told = g.met.H.Host.told_stays c.run_life.new.host } in
    ends_given_up c.args.params c.requires.range w settings b c.args.moment c.args.task.now (view c.args.host.now) m (view c.work_at_rest.new.host) h orderly lawful (c.in-Ok.ensures.ends t b h orderly w settings table_is)
    c.in-Err-work_at_rest.error (λ error is. c.in-Err-work_at_rest.ensures.err error is t) (λ is. c.in-Err-work_at_rest.ensures.absent is t)
