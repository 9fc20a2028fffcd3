use Rattle.std.proofs.Common.{◌∙◌, ◌<◌, ap, subst, sym}
use Rattle.std.specs.Prelude.{nat_eq, not}
use Rattle.q_chains.specs.Laid.{lists_in}
use Rattle.q_chains.specs.Lists.{Lists, stands}
use Rattle.q_chains.proofs.Neighbours.{laid_stands}
use Rattle.q_chains.proofs.chains.Chains.contains.Goals as goal

pub returns : goal.returns
returns c =
    let a = c.self.inside in
    let known = subst (λ (s : Lists). c.args.number < s.numbers) (sym c.self.view_is) c.requires in
    let law = laid_stands a.next.items a.before.items a.numbers c.args.number (lists_in a.next.items a.numbers) c.self.invariant known in
    ap (λ p. not (nat_eq p c.args.number)) c.link_of.ensures ∙ law ∙ ap (λ (s : Lists). stands c.args.number s.lists) c.self.view_is
