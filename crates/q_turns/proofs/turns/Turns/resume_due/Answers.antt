use Rattle.std.proofs.Common.{◌≡◌, ◌∙◌, ap, arith, length, Some, subst, sym}
use Rattle.std.specs.Prelude.{filter, find}
use Rattle.q_suspended.specs.Suspensions.{AreApart, is_due}
use Rattle.q_candidates.specs.Candidates.{Listed}
use Rattle.q_turns.proofs.SuspensionLaws.{all_later, is_else, is_later, resumed_fewer, resumed_same}
use Rattle.q_turns.specs.Turns.{Turning}
use Rattle.q_turns.proofs.turns.Turns.resume_due.Goals as goal

pub loop-suspension-smaller : goal.loop-suspension-smaller
loop-suspension-smaller c =
    let cur = c.loop-suspension.self in
    let s = c.in-Some.suspension in
    let found : find (is_due c.args.moment) cur.suspended ≡ Some s = ap (λ (t : Turning). find (is_due c.args.moment) t.suspended) (sym c.self.view_is) ∙ sym c.first_due.ensures ∙ c.in-Some.is in
    let left = ap (λ (t : Turning). length t.suspended) c.resume.ensures.suspended in
    let fewer = resumed_fewer (is_due c.args.moment) s cur.suspended found in
    omega (arith, left, fewer)

pub loop-suspension-preserved : goal.loop-suspension-preserved
loop-suspension-preserved c =
    let cur = c.loop-suspension.self in
    let s = c.in-Some.suspension in
    let inv = c.loop-suspension.invariant in
    let found : find (is_due c.args.moment) cur.suspended ≡ Some s = ap (λ (t : Turning). find (is_due c.args.moment) t.suspended) (sym c.self.view_is) ∙ sym c.first_due.ensures ∙ c.in-Some.is in
    let apart = subst (λ (t : Turning). AreApart t.suspended) c.self.view_is c.stand_apart.ensures.apart in
    record {
      rest = c.resume.ensures.suspended ∙ ap (λ (t : Turning). record t { suspended = filter (is_else s.site) cur.suspended }) inv.rest
          ∙ ap (λ xs. record c.args.self.now { suspended = xs }) (sym (ap (λ (t : Turning). t.suspended) c.resume.ensures.suspended));
      later = ap (λ (t : Turning). filter (is_later c.args.moment) t.suspended) c.resume.ensures.suspended ∙ resumed_same c.args.moment s cur.suspended apart found ∙ inv.later;
      kept = c.resume.ensures.rest ∙ ap (λ (v : Listed). record v { suspended = c.resume.new.candidates.suspended }) inv.kept;
      tied = c.resume.ensures.tied;
    }

pub returns-clause-tied : goal.returns-clause-tied
returns-clause-tied c = c.loop-suspension.invariant.tied

pub returns-clause-suspended : goal.returns-clause-suspended
returns-clause-suspended c =
    let cur = c.loop-suspension.self in
    let inv = c.loop-suspension.invariant in
    let none = ap (λ (t : Turning). find (is_due c.args.moment) t.suspended) (sym c.self.view_is) ∙ sym c.first_due.ensures ∙ c.in_default.is in
    inv.rest ∙ ap (λ xs. record c.args.self.now { suspended = xs }) (sym (all_later c.args.moment cur.suspended none) ∙ inv.later)
