use Rattle.std.proofs.Common.{◌≡◌, ◌∙◌, ◌∷◌, ◌++◌, ◌+◌, ◌-◌, [], ap, arith, get_or, length, List, ℕ}
use Rattle.std.proofs.lemmas.List.{length-append}
use Rattle.q_chains.specs.Lists.{Lists, pushed, stands}
use Rattle.q_chains.proofs.Chained.{at_pushed_other, at_pushed_own, length_pushed, stands_pushed}
use Rattle.q_keyed.proofs.slots.fresh_order.Goals as goal

pub loop-used-preserved : goal.loop-used-preserved
loop-used-preserved c =
    let was = c.loop-used.invariant in
    let n = c.args.room - 1 - c.loop-used.used in
    let xss = c.loop-used.order.lists in
    let made : c.push.new.self.lists ≡ pushed 1 n xss = ap (λ (s : Lists). s.lists) c.push.ensures in
    let more : length (get_or xss 1 [] ++ n ∷ []) ≡ length (get_or xss 1 []) + 1 = length-append (get_or xss 1 []) (n ∷ []) in
    record {
      two = ap length made ∙ length_pushed 1 n xss ∙ was.two;
      numbers = ap (λ (s : Lists). s.numbers) c.push.ensures ∙ was.numbers;
      none = ap (λ (ys : List (List ℕ)). get_or ys 0 []) made ∙ at_pushed_other 1 0 n xss (λ e. omega (arith, e)) ∙ was.none;
      all = ap (λ (ys : List (List ℕ)). length (get_or ys 1 [])) made ∙ ap length (at_pushed_own 1 n xss (omega (arith, was.two))) ∙ more ∙ ap (λ k. k + 1) was.all;
      lesser = λ m k. ap (stands m) made ∙ stands_pushed m 1 n xss (λ e. omega (arith, e, k)) ∙ was.lesser m (omega (arith, k));
    }
