use Rattle.std.proofs.Common.{◌+◌, ap, None, Option, subst, sym, ℕ}
use Rattle.std.specs.Option.{option_copied}
use Rattle.q_keyed.specs.Numbered.{item_at}
use Rattle.q_candidates.specs.Candidates.{IsBest, Listed, may_preempt}
use Rattle.q_candidates.specs.Suspending.{HaveNoSpace}
use Rattle.q_candidates.specs.Choosing.{IsNextHope}
use Rattle.q_candidates.proofs.SuspendedSites.{lanes_shut}
use Rattle.q_candidates.proofs.SoFar.{ends_at, ends_none, IsSoFar, so_far_begins, so_far_goes}
use Rattle.q_candidates.proofs.candidates.Candidates.best.Goals as goal

pub loop-at-init : goal.loop-at-init
loop-at-init c =
    let a = c.self.inside in
    let shut = lanes_shut c.args.sites.now.items a.index.lanes.items (subst (λ (v : Listed). HaveNoSpace c.args.sites.now.items v.suspended) (sym c.self.view_is) c.requires) in
    so_far_begins a.candidates a.index c.self.invariant.ordered c.stand_apart-2.ensures.apart c.args.now c.args.sites.now.items shut c.args.transport c.args.most c.args.except c.next_need-at.result c.next_need-at.ensures

pub loop-at-preserved : goal.loop-at-preserved
loop-at-preserved c =
    let a = c.self.inside in
    let shut = lanes_shut c.args.sites.now.items a.index.lanes.items (subst (λ (v : Listed). HaveNoSpace c.args.sites.now.items v.suspended) (sym c.self.view_is) c.requires) in
    subst (λ (o : Option ℕ). IsSoFar c.args.now (may_preempt c.args.sites.now.items c.args.transport c.args.most c.args.except) c.args.most a.candidates.items o c.next_hope-at.result) (sym c.better_of-best.ensures)
    (so_far_goes a.candidates a.index c.self.invariant.ordered c.stand_apart-2.ensures.apart c.args.now c.args.sites.now.items shut c.args.transport c.args.most c.args.except c.greatest_age.result c.greatest_age.ensures c.in-Some.need c.loop-at.best c.loop-at.at c.best_wanted-own.result c.next_hope-at.result
    c.in-Some.is c.loop-at.invariant c.best_wanted-own.ensures
    (subst (λ (o : Option ℕ). IsNextHope a.candidates.items c.args.now c.greatest_age.result c.args.transport (c.in-Some.need + 1) c.args.most a.index.lanes.items o c.next_hope-at.result) c.better_of-best.ensures c.next_hope-at.ensures))

pub returns-in_err-best : goal.returns-in_err-best
returns-in_err-best c =
    let a = c.self.inside in
    let shut = lanes_shut c.args.sites.now.items a.index.lanes.items (subst (λ (v : Listed). HaveNoSpace c.args.sites.now.items v.suspended) (sym c.self.view_is) c.requires) in
    let ds = c.args.sites.now.items in
    subst (IsBest ds c.args.transport c.args.most c.args.now c.args.except c.args.self.now.items) (sym (ap option_copied c.from_residual.ensures))
    (subst (λ (v : Listed). IsBest ds c.args.transport c.args.most c.args.now c.args.except v.items None) c.self.view_is
    (ends_none a.candidates a.index c.self.invariant.ordered c.stand_apart-2.ensures.apart c.args.now ds shut c.args.transport c.args.most c.args.except c.stand_apart.ensures.apart c.stand_apart.ensures.keys c.loop-at.best c.loop-at.at c.in_default.is c.loop-at.invariant c.in_err-best.was))

pub returns : goal.returns
returns c =
    let a = c.self.inside in
    let shut = lanes_shut c.args.sites.now.items a.index.lanes.items (subst (λ (v : Listed). HaveNoSpace c.args.sites.now.items v.suspended) (sym c.self.view_is) c.requires) in
    let ds = c.args.sites.now.items in
    subst (IsBest ds c.args.transport c.args.most c.args.now c.args.except c.args.self.now.items) (sym c.get.ensures)
    (subst (λ (v : Listed). IsBest ds c.args.transport c.args.most c.args.now c.args.except v.items (item_at c.in_ok-best.field-0 a.candidates.items)) c.self.view_is
    (ends_at a.candidates a.index c.self.invariant.ordered c.stand_apart-2.ensures.apart c.args.now ds shut c.args.transport c.args.most c.args.except c.stand_apart.ensures.apart c.stand_apart.ensures.keys c.loop-at.best c.loop-at.at c.in_default.is c.loop-at.invariant c.in_ok-best.field-0 c.in_ok-best.was))

pub best_wanted-own-requires-clause-shut : goal.best_wanted-own-requires-clause-shut
best_wanted-own-requires-clause-shut c = lanes_shut c.args.sites.now.items c.self.inside.index.lanes.items (subst (λ (v : Listed). HaveNoSpace c.args.sites.now.items v.suspended) (sym c.self.view_is) c.requires)
