use Rattle.std.proofs.Common.{◌∙◌, subst, sym}
use Rattle.q_core.proofs.SuspendedLaws.{none_lost, suspended_without}
use Rattle.q_core.specs.Ties.{AreSuspended}
use Rattle.q_dest.specs.Dests.{Dests, is_remembered}
use Rattle.q_model.specs.Lists.{drop_first}
use Rattle.q_schedule.specs.Schedule.{Scheduling}
use Rattle.q_core.proofs.tidy.forget_oldest.Goals as goal

pub returns-in-Some-clause-suspended : goal.returns-in-Some-clause-suspended
returns-in-Some-clause-suspended c = λ h.
    let ds = c.args.sites.now.items in
    subst (λ (x : Dests). AreSuspended x.items c.resume.new.self.suspended) (sym c.forget.ensures.sites)
    (subst (λ (x : Scheduling). AreSuspended (drop_first is_remembered ds) x.suspended) (sym c.resume.ensures)
    (suspended_without ds c.args.schedule.now.suspended c.in-Some.site (sym c.forget.ensures.site ∙ c.in-Some.is) h))

pub returns-in_default-clause-suspended : goal.returns-in_default-clause-suspended
returns-in_default-clause-suspended c = λ h.
    let ds = c.args.sites.now.items in
    subst (λ (x : Dests). AreSuspended x.items c.args.schedule.now.suspended) (sym c.forget.ensures.sites)
    (subst (λ es. AreSuspended es c.args.schedule.now.suspended) (sym (none_lost ds (sym c.forget.ensures.site ∙ c.in_default.is))) h)
