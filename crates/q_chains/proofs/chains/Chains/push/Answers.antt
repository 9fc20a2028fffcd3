use Rattle.std.proofs.Common.{◌≡◌, ◌∙◌, ◌+◌, ◌<◌, ap, false, length, refl, subst, sym}
use Rattle.q_chains.specs.Laid.{lists_in}
use Rattle.q_chains.specs.Lists.{Lists, pushed, stands}
use Rattle.q_chains.proofs.Calls.{laid_in, laid_pushed, lists_laid}
use Rattle.q_chains.proofs.chains.Chains.push.Goals as goal

pub invariant_of-self : goal.invariant_of-self
invariant_of-self c =
    let a = c.self.inside in
    let e = c.put_before.ensures in
    let old = lists_in a.next.items a.numbers in
    let known = subst (λ (s : Lists). c.args.number < s.numbers) (sym c.self.view_is) c.requires.known in
    let list = subst (λ (s : Lists). c.args.list < length s.lists) (sym c.self.view_is) c.requires.list in
    let free = subst (λ (s : Lists). stands c.args.number s.lists ≡ false) (sym c.self.view_is) c.requires.free in
    let law = laid_pushed a.next.items a.before.items a.numbers c.args.number c.args.list (a.numbers + c.args.list + 1) old c.self.invariant known free list refl in
    laid_in c.put_before.new.next.items c.put_before.new.before.items a.numbers (pushed c.args.list c.args.number old) (rw (e.next, e.before) law)

pub returns : goal.returns
returns c =
    let a = c.self.inside in
    let e = c.put_before.ensures in
    let old = lists_in a.next.items a.numbers in
    let known = subst (λ (s : Lists). c.args.number < s.numbers) (sym c.self.view_is) c.requires.known in
    let list = subst (λ (s : Lists). c.args.list < length s.lists) (sym c.self.view_is) c.requires.list in
    let free = subst (λ (s : Lists). stands c.args.number s.lists ≡ false) (sym c.self.view_is) c.requires.free in
    let law = laid_pushed a.next.items a.before.items a.numbers c.args.number c.args.list (a.numbers + c.args.list + 1) old c.self.invariant known free list refl in
    ap (λ xss. record { lists = xss; numbers = a.numbers }) (lists_laid c.put_before.new.next.items c.put_before.new.before.items a.numbers (pushed c.args.list c.args.number old) (rw (e.next, e.before) law))
    ∙ ap (λ (s : Lists). record { lists = pushed c.args.list c.args.number s.lists; numbers = s.numbers }) c.self.view_is
