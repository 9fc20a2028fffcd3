use Rattle.std.proofs.Common.{rules, ◌≡◌, ◌∙◌, ap, subst, sym, true}
use Rattle.q_chains.specs.Laid.{lists_in, number_at}
use Rattle.q_chains.specs.Lists.{ahead_of, list_with, Lists, StandOnce, stands}
use Rattle.q_chains.proofs.Borders.{stands_below}
use Rattle.q_chains.proofs.Calls.{number_within}
use Rattle.q_chains.proofs.Neighbours.{laid_ahead}
use Rattle.q_chains.proofs.Once.{laid_once}
use Rattle.q_chains.proofs.chains.Chains.before.Goals as goal

pub link_of-requires : goal.link_of-requires
link_of-requires c =
    let a = c.self.inside in
    let old = lists_in a.next.items a.numbers in
    let there = subst (λ (s : Lists). stands c.args.number s.lists ≡ true) (sym c.self.view_is) c.requires in
    let within = number_within a.next.items a.before.items a.numbers c.args.number old c.self.invariant (stands_below a.numbers c.args.number old c.self.invariant.below there) in
    let same = c.self.invariant.joined.same in
    search rules

pub returns-clause-is : goal.returns-clause-is
returns-clause-is c =
    let a = c.self.inside in
    let old = lists_in a.next.items a.numbers in
    let there = subst (λ (s : Lists). stands c.args.number s.lists ≡ true) (sym c.self.view_is) c.requires in
    let law = laid_ahead a.next.items a.before.items a.numbers old c.self.invariant c.args.number there in
    c.number_at.ensures ∙ ap (number_at a.numbers) c.link_of.ensures ∙ law ∙ ap (λ (s : Lists). ahead_of c.args.number (list_with c.args.number s.lists)) c.self.view_is

pub returns-clause-once : goal.returns-clause-once
returns-clause-once c =
    let a = c.self.inside in
    subst StandOnce c.self.view_is (laid_once a.next.items a.before.items a.numbers (lists_in a.next.items a.numbers) c.self.invariant)
