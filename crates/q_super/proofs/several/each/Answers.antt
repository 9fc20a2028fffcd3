use Rattle.std.proofs.Common.{◌≡◌, ◌∙◌, List, refl, subst, sym}
use Rattle.q_host.specs.declared.error.HostError.{HostError}
use Rattle.q_model.specs.declared.id.Id.{Id}
use Rattle.q_super.specs.EachDeeds.{each_deeds, lacks_any}
use Rattle.q_super.specs.Plays.{HaltsDeeds, PlaysDeeds}
use Rattle.q_super.proofs.EachActs.{each_may}
use Rattle.q_super.proofs.Faults.{never_absent, no_fault, passed_error}
use Rattle.q_super.proofs.several.each.Goals as goal

pub returns-in_err-act_each-clause-err : goal.returns-in_err-act_each-clause-err
returns-in_err-act_each-clause-err g c error is t b h rest =
    let inner = c.in_err-act_each.field-0.0 in
    let same = passed_error c.from_residual.result inner error c.from_residual.ensures.1 is in
    let halts = subst (λ (ids : List Id). HaltsDeeds b (each_deeds c.args.act ids b) inner (g.H.Host.view c.args.host.now) (g.H.Host.view c.act_each.new.host)) c.as_slice.ensures (c.in_err-act_each.ensures.err inner refl t b h rest) in
    subst (λ (e : HostError). HaltsDeeds b (each_deeds c.args.act c.args.ids.now b) e (g.H.Host.view c.args.host.now) (g.H.Host.view c.act_each.new.host)) same halts

pub returns-in_err-act_each-clause-absent : goal.returns-in_err-act_each-clause-absent
returns-in_err-act_each-clause-absent g c is t b h rest = absurd (never_absent c.from_residual.result c.in_err-act_each.field-0.0 c.from_residual.ensures.1 is)

pub returns-in_err-act_each-clause-may : goal.returns-in_err-act_each-clause-may
returns-in_err-act_each-clause-may g c t b h rest = each_may c.args.act c.args.ids.now b rest.unpaired

pub returns-then-branch-clause-err : goal.returns-then-branch-clause-err
returns-then-branch-clause-err g c error is = absurd (no_fault error is)

pub returns-then-branch-clause-absent : goal.returns-then-branch-clause-absent
returns-then-branch-clause-absent g c is t b h rest =
    let u = g.H.Host.view c.args.host.now in
    let w = g.H.Host.view c.act_each.new.host in
    let act = c.args.act in
    let both = subst (λ (ids : List Id). (c.in_ok-act_each.field-0 ≡ lacks_any act ids b) × PlaysDeeds b (each_deeds act ids b) u w) c.as_slice.ensures (c.in_ok-act_each.ensures.ok t b h rest) in
    (sym both.0 ∙ c.if-branch.true, both.1)

pub returns-then-branch-clause-may : goal.returns-then-branch-clause-may
returns-then-branch-clause-may g c t b h rest = each_may c.args.act c.args.ids.now b rest.unpaired

pub returns-clause-ok : goal.returns-clause-ok
returns-clause-ok g c t b h rest =
    let u = g.H.Host.view c.args.host.now in
    let w = g.H.Host.view c.act_each.new.host in
    let act = c.args.act in
    let both = subst (λ (ids : List Id). (c.in_ok-act_each.field-0 ≡ lacks_any act ids b) × PlaysDeeds b (each_deeds act ids b) u w) c.as_slice.ensures (c.in_ok-act_each.ensures.ok t b h rest) in
    (sym both.0 ∙ c.if-branch.false, both.1)

pub returns-clause-may : goal.returns-clause-may
returns-clause-may g c t b h rest = each_may c.args.act c.args.ids.now b rest.unpaired
