use Rattle.std.proofs.Common.{◌≡◌, ◌∙◌, ◌<◌, ap, arith, cond, false, set, subst, sym, true}
use Rattle.q_chains.specs.Lists.{is_in}
use Rattle.q_held.proofs.Releasing.{fewer, marked_count}
use Rattle.q_held.proofs.Views.{below_in, found_in}
use Rattle.q_marked.specs.Marks.{is_marked, Marks}
use Rattle.q_held.proofs.holding.unmark_all.Goals as goal

pub mark-requires : goal.mark-requires
mark-requires c =
    let s = c.loop-number.marks in
    let n = c.in-Some.number in
    below_in s.numbers n s.order c.stand_marked.ensures.below (found_in (λ k. is_marked k s.marks) n s.order (sym c.first.ensures ∙ c.in-Some.is))

pub loop-number-smaller : goal.loop-number-smaller
loop-number-smaller c =
    let s = c.loop-number.marks in
    let n = c.in-Some.number in
    let found = sym c.first.ensures ∙ c.in-Some.is in
    let there : is_in n s.order ≡ true = found_in (λ k. is_marked k s.marks) n s.order found in
    let below = below_in s.numbers n s.order c.stand_marked.ensures.below there in
    let is : c.mark.new.self ≡ record s { marks = set s.marks n false } =
    c.mark.ensures ∙ ap (λ t. record s { marks = cond t (set s.marks n false) s.marks }) there in
    subst (λ (m : Marks). marked_count m.marks m.order < marked_count s.marks s.order) (sym is)
    (fewer s.marks n (omega (arith, below, c.stand_marked.ensures.each)) s.order found)
