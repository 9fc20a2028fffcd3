use Rattle.std.proofs.Common.{◌∙◌, ◌<◌, ap, arith, subst, sym}
use Rattle.std.specs.List.{list_any}
use Rattle.q_core.proofs.SuspendedLaws.{gone, suspended_less, suspended_more}
use Rattle.q_core.specs.Ties.{AreSuspended, rest_at}
use Rattle.q_schedule.specs.Schedule.{Scheduling}
use Rattle.q_suspended.specs.Suspensions.{is_at}
use Rattle.q_core.proofs.suspending.suspend_at.Goals as goal

pub suspend-requires : goal.suspend-requires
suspend-requires c =
    let site = c.args.site.now in
    ap (λ (x : Scheduling). list_any (is_at site) x.suspended) c.resume.ensures ∙ gone site c.args.schedule.now.suspended

pub returns-in-Some-clause-tied : goal.returns-in-Some-clause-tied
returns-in-Some-clause-tied c = λ ds same h.
    let site = c.args.site.now in
    let es = c.args.sites.now.items in
    let resumed = c.resume.new.self in
    let until = c.in-Some.until in
    let less = subst (λ (x : Scheduling). AreSuspended es x.suspended) (sym c.resume.ensures) (suspended_less site ds es c.args.schedule.now.suspended same h) in
    let below : until < rest_at es site = (let is = c.in-Some.ensures in omega (arith, is)) in
    subst (λ (x : Scheduling). AreSuspended es x.suspended) (sym c.suspend.ensures)
    (suspended_more resumed.suspended_room es resumed.suspended (record { site = site; until = until }) less below)

pub returns-in_default-clause-tied : goal.returns-in_default-clause-tied
returns-in_default-clause-tied c = λ ds same h.
    let es = c.args.sites.now.items in
    subst (λ (x : Scheduling). AreSuspended es x.suspended) (sym c.resume.ensures) (suspended_less c.args.site.now ds es c.args.schedule.now.suspended same h)
