use Rattle.std.proofs.Common.{◌∙◌, ap, sym}
use Rattle.std.specs.List.{list_any}
use Rattle.q_suspended.proofs.Numbering.{absent, more}
use Rattle.q_suspended.proofs.Sites.{such_nowhere}
use Rattle.q_suspended.specs.Sound.{numbers_of}
use Rattle.q_suspended.specs.Suspensions.{is_at, Suspensions}
use Rattle.q_suspended.proofs.suspended.Suspended.push.Goals as goal

pub push-number-requires-clause-absent : goal.push-number-requires-clause-absent
push-number-requires-clause-absent c =
    let test = is_at c.args.suspension.site in
    such_nowhere test c.self.inside.sites.items (ap (λ (s : Suspensions). list_any test s.items) c.self.view_is ∙ c.requires.absent)

pub push-requires-clause-absent : goal.push-requires-clause-absent
push-requires-clause-absent c =
    let a = c.self.inside in
    absent a.sites a.times c.self.invariant c.push-number.result c.push-number.ensures.fresh

pub invariant_of-self : goal.invariant_of-self
invariant_of-self c =
    let a = c.self.inside in
    c.push.ensures ∙ more a.sites a.times c.self.invariant c.push-number.result c.args.suspension
    ∙ ap numbers_of (sym c.push-number.ensures.items)
