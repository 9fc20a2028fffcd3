use Rattle.std.proofs.Common.{◌+◌, [], ap, arith, refl, replicate}
use Rattle.q_chains.proofs.Calls.{laid_in, lists_laid}
use Rattle.q_chains.proofs.Fresh.{laid_fresh}
use Rattle.q_chains.proofs.chains.Chains.new.Goals as goal

pub invariant_of-result : goal.invariant_of-result
invariant_of-result c =
    let next = c.in_ok-next.next.items in
    let before = c.in_ok-before.before.items in
    let numbers = c.args.numbers in
    let made = laid_fresh next before numbers (numbers + c.args.lists) c.in_ok-next.ensures.items c.in_ok-before.ensures.items c.args.lists refl (omega (arith, c.requires)) c.in_ok-next.ensures.len c.in_ok-before.ensures.len in
    laid_in next before numbers (replicate c.args.lists []) made

pub returns : goal.returns
returns c =
    let next = c.in_ok-next.next.items in
    let before = c.in_ok-before.before.items in
    let numbers = c.args.numbers in
    let made = laid_fresh next before numbers (numbers + c.args.lists) c.in_ok-next.ensures.items c.in_ok-before.ensures.items c.args.lists refl (omega (arith, c.requires)) c.in_ok-next.ensures.len c.in_ok-before.ensures.len in
    ap (λ xss. record { lists = xss; numbers = numbers }) (lists_laid next before numbers (replicate c.args.lists []) made)
