use Rattle.std.proofs.Common.{◌≡◌, ◌∙◌, ◌<◌, ap, false, map, subst, sym, true}
use Rattle.q_chains.specs.Laid.{lists_in}
use Rattle.q_chains.specs.Lists.{inserted, Lists, stands}
use Rattle.q_chains.proofs.Borders.{stands_below}
use Rattle.q_chains.proofs.Calls.{laid_in, laid_inserted, lists_laid, number_within}
use Rattle.q_chains.proofs.chains.Chains.insert_before.Goals as goal

pub put_before-requires-clause-place : goal.put_before-requires-clause-place
put_before-requires-clause-place c =
    let a = c.self.inside in
    let old = lists_in a.next.items a.numbers in
    let there = subst (λ (s : Lists). stands c.args.at s.lists ≡ true) (sym c.self.view_is) c.requires.there in
    number_within a.next.items a.before.items a.numbers c.args.at old c.self.invariant (stands_below a.numbers c.args.at old c.self.invariant.below there)

pub invariant_of-self : goal.invariant_of-self
invariant_of-self c =
    let a = c.self.inside in
    let e = c.put_before.ensures in
    let old = lists_in a.next.items a.numbers in
    let known = subst (λ (s : Lists). c.args.number < s.numbers) (sym c.self.view_is) c.requires.known in
    let free = subst (λ (s : Lists). stands c.args.number s.lists ≡ false) (sym c.self.view_is) c.requires.free in
    let there = subst (λ (s : Lists). stands c.args.at s.lists ≡ true) (sym c.self.view_is) c.requires.there in
    let law = laid_inserted a.next.items a.before.items a.numbers c.args.number c.args.at old c.self.invariant known free there in
    laid_in c.put_before.new.next.items c.put_before.new.before.items a.numbers (map (inserted c.args.number c.args.at) old) (rw (e.next, e.before) law)

pub returns : goal.returns
returns c =
    let a = c.self.inside in
    let e = c.put_before.ensures in
    let old = lists_in a.next.items a.numbers in
    let known = subst (λ (s : Lists). c.args.number < s.numbers) (sym c.self.view_is) c.requires.known in
    let free = subst (λ (s : Lists). stands c.args.number s.lists ≡ false) (sym c.self.view_is) c.requires.free in
    let there = subst (λ (s : Lists). stands c.args.at s.lists ≡ true) (sym c.self.view_is) c.requires.there in
    let law = laid_inserted a.next.items a.before.items a.numbers c.args.number c.args.at old c.self.invariant known free there in
    ap (λ xss. record { lists = xss; numbers = a.numbers }) (lists_laid c.put_before.new.next.items c.put_before.new.before.items a.numbers (map (inserted c.args.number c.args.at) old) (rw (e.next, e.before) law))
    ∙ ap (λ (s : Lists). record { lists = map (inserted c.args.number c.args.at) s.lists; numbers = s.numbers }) c.self.view_is
