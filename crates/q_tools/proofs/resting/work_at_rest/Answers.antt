use Rattle.std.proofs.Common.{[], inr}
use Rattle.q_books.proofs.Results.{on_ok}
use Rattle.q_books.proofs.Joining.{reads_keep}
use Rattle.q_books.specs.HostStands.{TellsCrashes}
use Rattle.q_super.proofs.Playing.{halts_behind, plays_then, reads_play}
use Rattle.q_tools.specs.Tasks.{deeds_for}
use Rattle.q_tools.proofs.AtRest.{at_rest}
use Rattle.q_tools.proofs.resting.work_at_rest.Goals as goal

pub returns-clause-ok : goal.returns-clause-ok
returns-clause-ok g c = on_ok c.work.result (λ works t b h orderly.
    let u = g.H.Host.view c.args.host.now in
    let v = g.H.Host.view c.has_active.new.host in
    let w = g.H.Host.view c.work.new.host in
    let lawful : TellsCrashes u = (record { only = g.met.H.Host.only_now c.args.host.now; told = g.met.H.Host.told_stays c.args.host.now }) in
    let st = c.in_ok-has_active.ensures.stays t in
    let rest = at_rest u.files b h.reads (c.in_ok-has_active.ensures.none t c.if-branch.false) orderly in
    let there = (reads_keep b b u v lawful st h).stands in
    let both = works t b there rest in
    record {
      found = both.0;
      may = c.work.ensures.may t b there rest;
      plays = plays_then b [] (deeds_for c.args.task.now b) u v w (reads_play b u v lawful st h) both.1;
    }) c.work.ensures.ok

pub returns-clause-err : goal.returns-clause-err
returns-clause-err g c error is t b h orderly =
    let u = g.H.Host.view c.args.host.now in
    let v = g.H.Host.view c.has_active.new.host in
    let w = g.H.Host.view c.work.new.host in
    let lawful : TellsCrashes u = (record { only = g.met.H.Host.only_now c.args.host.now; told = g.met.H.Host.told_stays c.args.host.now }) in
    let st = c.in_ok-has_active.ensures.stays t in
    let rest = at_rest u.files b h.reads (c.in_ok-has_active.ensures.none t c.if-branch.false) orderly in
    let there = (reads_keep b b u v lawful st h).stands in
    inr (record {
      may = c.work.ensures.may t b there rest;
      halts = halts_behind b [] (deeds_for c.args.task.now b) error u v w (reads_play b u v lawful st h) (c.work.ensures.err error is t b there rest);
    })

pub returns-clause-absent : goal.returns-clause-absent
returns-clause-absent g c is t b h orderly =
    let u = g.H.Host.view c.args.host.now in
    let v = g.H.Host.view c.has_active.new.host in
    let w = g.H.Host.view c.work.new.host in
    let lawful : TellsCrashes u = (record { only = g.met.H.Host.only_now c.args.host.now; told = g.met.H.Host.told_stays c.args.host.now }) in
    let st = c.in_ok-has_active.ensures.stays t in
    let rest = at_rest u.files b h.reads (c.in_ok-has_active.ensures.none t c.if-branch.false) orderly in
    let there = (reads_keep b b u v lawful st h).stands in
    let both = c.work.ensures.absent is t b there rest in
    record {
      lacks = both.0;
      may = c.work.ensures.may t b there rest;
      plays = plays_then b [] (deeds_for c.args.task.now b) u v w (reads_play b u v lawful st h) both.1;
    }
