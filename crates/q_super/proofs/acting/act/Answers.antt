use Rattle.std.proofs.Common.{◌≡◌, ◌∙◌, Bool, false, not, refl, subst, sym, true}
use Rattle.q_host.specs.declared.error.HostError.{HostError}
use Rattle.q_model.specs.Lists.{has_none}
use Rattle.q_super.specs.Deeds.{deeds_of}
use Rattle.q_super.specs.Plays.{HaltsDeeds}
use Rattle.q_super.proofs.Faults.{never_absent, no_fault, passed_error}
use Rattle.q_super.proofs.MaySteps.{deeds_may}
use Rattle.q_super.proofs.acting.act.Goals as goal

not_true : (t : Bool) → false ≡ not t → t ≡ true
not_true true e = refl
not_true false e = absurd cc

not_false : (t : Bool) → true ≡ not t → t ≡ false
not_false true e = absurd cc
not_false false e = refl

pub returns-in_err-act_by_id-clause-err : goal.returns-in_err-act_by_id-clause-err
returns-in_err-act_by_id-clause-err g c error is t b h rest =
    let inner = c.in_err-act_by_id.field-0.0 in
    let same = passed_error c.from_residual.result inner error c.from_residual.ensures.1 is in
    subst (λ (e : HostError). HaltsDeeds b (deeds_of c.args.act c.args.id b) e (g.H.Host.view c.args.host.now) (g.H.Host.view c.act_by_id.new.host)) same (c.in_err-act_by_id.ensures.err inner refl t b h rest)

pub returns-in_err-act_by_id-clause-absent : goal.returns-in_err-act_by_id-clause-absent
returns-in_err-act_by_id-clause-absent g c is t b h rest = absurd (never_absent c.from_residual.result c.in_err-act_by_id.field-0.0 c.from_residual.ensures.1 is)

pub returns-in_err-act_by_id-clause-untouched : goal.returns-in_err-act_by_id-clause-untouched
returns-in_err-act_by_id-clause-untouched g c is t = absurd (never_absent c.from_residual.result c.in_err-act_by_id.field-0.0 c.from_residual.ensures.1 is)

pub returns-in_err-act_by_id-clause-may : goal.returns-in_err-act_by_id-clause-may
returns-in_err-act_by_id-clause-may g c t b h rest = deeds_may c.args.act b c.args.id rest.unpaired

pub returns-then-not-branch-clause-err : goal.returns-then-not-branch-clause-err
returns-then-not-branch-clause-err g c error is = absurd (no_fault error is)

pub returns-then-not-branch-clause-absent : goal.returns-then-not-branch-clause-absent
returns-then-not-branch-clause-absent g c is t b h rest = not_true (has_none (deeds_of c.args.act c.args.id b)) (sym c.if-not-branch.true ∙ (c.in_ok-act_by_id.ensures.ok t b h rest).0)

pub returns-then-not-branch-clause-untouched : goal.returns-then-not-branch-clause-untouched
returns-then-not-branch-clause-untouched g c is t = c.in_ok-act_by_id.ensures.none c.if-not-branch.true t

pub returns-then-not-branch-clause-may : goal.returns-then-not-branch-clause-may
returns-then-not-branch-clause-may g c t b h rest = deeds_may c.args.act b c.args.id rest.unpaired

pub returns-clause-ok : goal.returns-clause-ok
returns-clause-ok g c t b h rest = (c.in_ok-act_by_id.ensures.ok t b h rest).1

pub returns-clause-some : goal.returns-clause-some
returns-clause-some g c t b h rest = not_false (has_none (deeds_of c.args.act c.args.id b)) (sym c.if-not-branch.false ∙ (c.in_ok-act_by_id.ensures.ok t b h rest).0)

pub returns-clause-may : goal.returns-clause-may
returns-clause-may g c t b h rest = deeds_may c.args.act b c.args.id rest.unpaired
