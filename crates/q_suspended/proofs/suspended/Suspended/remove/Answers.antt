use Rattle.std.proofs.Common.{◌∙◌, ap, sym}
use Rattle.std.specs.Prelude.{filter, not}
use Rattle.q_keyed.specs.Numbered.{Items, values_of}
use Rattle.q_suspended.proofs.Numbering.{less}
use Rattle.q_suspended.proofs.Sites.{left_nowhere, left_there}
use Rattle.q_suspended.specs.Sound.{numbers_of}
use Rattle.q_suspended.specs.Suspensions.{is_at, Suspensions}
use Rattle.q_suspended.specs.declared.suspension.Suspension.{Suspension}
use Rattle.q_suspended.proofs.suspended.Suspended.remove.Goals as goal

pub invariant_of-self : goal.invariant_of-self
invariant_of-self c =
    let a = c.self.inside in
    c.remove-time.ensures.items ∙ less a.sites a.times c.self.invariant c.in-Some.number ∙ ap numbers_of (sym c.remove-suspension.ensures.items)

pub returns-in-Some : goal.returns-in-Some
returns-in-Some c =
    let s = c.find.ensures in
    let site = c.args.site.now in
    ap (λ (v : Items Suspension). record { items = values_of v.items; room = v.room }) c.remove-suspension.ensures.items
    ∙ ap (λ ss. record { items = ss; room = c.self.inside.sites.room }) (left_there site c.self.inside.sites.items c.in-Some.number s.apart s.keys (sym s.is ∙ c.in-Some.is))
    ∙ ap (λ (v : Suspensions). record v { items = filter (λ s. not (is_at site s)) v.items }) c.self.view_is

pub returns-in_default : goal.returns-in_default
returns-in_default c =
    let site = c.args.site.now in
    sym c.self.view_is
    ∙ ap (λ ss. record { items = ss; room = c.self.inside.sites.room }) (sym (left_nowhere site c.self.inside.sites.items (sym c.find.ensures.is ∙ c.in_default.is)))
    ∙ ap (λ (v : Suspensions). record v { items = filter (λ s. not (is_at site s)) v.items }) c.self.view_is
