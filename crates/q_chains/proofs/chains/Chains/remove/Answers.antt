use Rattle.std.proofs.Common.{rules, ◌∙◌, ap, map}
use Rattle.q_chains.specs.Laid.{lists_in}
use Rattle.q_chains.specs.Lists.{Lists, without}
use Rattle.q_chains.proofs.Calls.{laid_in, laid_without, lists_laid}
use Rattle.q_chains.proofs.chains.Chains.remove.Goals as goal

pub invariant_of-self : goal.invariant_of-self
invariant_of-self c =
    let a = c.self.inside in
    let e = c.take_out.ensures in
    let law = laid_without a.next.items a.before.items a.numbers c.args.number (lists_in a.next.items a.numbers) c.self.invariant (search rules) in
    laid_in c.take_out.new.next.items c.take_out.new.before.items a.numbers (map (without c.args.number) (lists_in a.next.items a.numbers)) (rw (e.next, e.before) law)

pub returns : goal.returns
returns c =
    let a = c.self.inside in
    let e = c.take_out.ensures in
    let law = laid_without a.next.items a.before.items a.numbers c.args.number (lists_in a.next.items a.numbers) c.self.invariant (search rules) in
    ap (λ xss. record { lists = xss; numbers = a.numbers }) (lists_laid c.take_out.new.next.items c.take_out.new.before.items a.numbers (map (without c.args.number) (lists_in a.next.items a.numbers)) (rw (e.next, e.before) law))
    ∙ ap (λ (s : Lists). record { lists = map (without c.args.number) s.lists; numbers = s.numbers }) c.self.view_is
