use Rattle.std.proofs.Common.{◌∙◌, ◌<◌, [], ap, get_or, length, subst, sym}
use Rattle.q_chains.specs.Laid.{lists_in, number_at}
use Rattle.q_chains.specs.Lists.{last_of, Lists, StandOnce}
use Rattle.q_chains.proofs.Neighbours.{laid_last}
use Rattle.q_chains.proofs.Once.{laid_once}
use Rattle.q_chains.proofs.chains.Chains.last.Goals as goal

pub returns-clause-is : goal.returns-clause-is
returns-clause-is c =
    let a = c.self.inside in
    let list = subst (λ (s : Lists). c.args.list < length s.lists) (sym c.self.view_is) c.requires in
    let law = laid_last a.next.items a.before.items a.numbers (lists_in a.next.items a.numbers) c.self.invariant c.args.list list in
    c.number_at.ensures ∙ ap (number_at a.numbers) c.link_of.ensures ∙ law ∙ ap (λ (s : Lists). last_of (get_or s.lists c.args.list [])) c.self.view_is

pub returns-clause-once : goal.returns-clause-once
returns-clause-once c =
    let a = c.self.inside in
    subst StandOnce c.self.view_is (laid_once a.next.items a.before.items a.numbers (lists_in a.next.items a.numbers) c.self.invariant)
