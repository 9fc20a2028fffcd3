use Rattle.std.proofs.Common.{◌∙◌, ap, option_map, sym}
use Rattle.std.specs.Option.{option_copied}
use Rattle.std.specs.Prelude.{find}
use Rattle.q_suspended.proofs.Numbering.{E, first_number}
use Rattle.q_suspended.proofs.Sites.{due_nowhere, due_there}
use Rattle.q_suspended.specs.Suspensions.{is_due, Suspensions}
use Rattle.q_suspended.proofs.suspended.Suspended.first_due.Goals as goal

pub returns-in_err-member : goal.returns-in_err-member
returns-in_err-member c =
    let a = c.self.inside in
    c.from_residual.ensures
    ∙ sym (due_nowhere c.args.moment a.sites.items (sym (first_number a.sites a.times c.self.invariant c.args.moment) ∙ ap (option_map (λ (e : E). e.key)) (sym c.first_within.ensures ∙ ap option_copied c.in_err-member.was)))
    ∙ ap (λ (s : Suspensions). find (is_due c.args.moment) s.items) c.self.view_is

pub returns : goal.returns
returns c =
    let a = c.self.inside in
    c.copied.ensures ∙ c.get.ensures
    ∙ due_there c.args.moment a.sites.items c.in_ok-member.member.now.key c.stand_apart.ensures.apart (sym (first_number a.sites a.times c.self.invariant c.args.moment) ∙ ap (option_map (λ (e : E). e.key)) (sym c.first_within.ensures ∙ ap option_copied c.in_ok-member.was))
    ∙ ap (λ (s : Suspensions). find (is_due c.args.moment) s.items) c.self.view_is
