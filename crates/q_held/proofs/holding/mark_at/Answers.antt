use Rattle.std.proofs.Common.{◌≡◌, ◌∙◌, ap, arith, cond, refl, set, subst, sym, true}
use Rattle.q_chains.specs.Lists.{is_in}
use Rattle.q_held.proofs.Views.{below_in, plain_view}
use Rattle.q_held.proofs.Walk.{begins, ends, goes_on, shorter, stands, Walked}
use Rattle.q_held.specs.Sound.{with_marks}
use Rattle.q_marked.specs.Marks.{Marks}
use Rattle.q_peers.specs.Numbered.{is_at, next_such}
use Rattle.q_held.proofs.holding.mark_at.Goals as goal

pub loop-at-init : goal.loop-at-init
loop-at-init c =
    let ks = c.args.waiting.now.items in
    let old = c.args.marks.now.marks in
    record {
      walked = begins c.args.site.now c.args.held c.first_at-at.result (with_marks old ks) ks (plain_view old ks) c.first_at-at.ensures;
      order = refl;
      numbers = refl;
    }

-- the number at hand stands in the order
pub mark-requires : goal.mark-requires
mark-requires c =
    let ks = c.args.waiting.now.items in
    let l = c.loop-at in
    let n = c.in-Some.number in
    let there : is_in n l.marks.order ≡ true =
    ap (is_in n) (l.invariant.order ∙ c.requires.order)
    ∙ stands c.args.site.now c.args.held ks c.args.marks.now.marks l.marks.marks l.at (next_such (λ r. is_at r.site) n ks) n c.stand_apart.ensures.apart l.invariant.walked c.in-Some.is refl in
    below_in l.marks.numbers n l.marks.order c.stand_marked.ensures.below there

pub loop-at-smaller : goal.loop-at-smaller
loop-at-smaller c =
    let l = c.loop-at in
    shorter c.args.site.now c.args.held c.args.waiting.now.items c.args.marks.now.marks l.marks.marks l.at c.next_at-at.result c.in-Some.number c.stand_apart.ensures.apart l.invariant.walked c.in-Some.is c.next_at-at.ensures

pub loop-at-preserved : goal.loop-at-preserved
loop-at-preserved c =
    let site = c.args.site.now in
    let held = c.args.held in
    let ks = c.args.waiting.now.items in
    let old = c.args.marks.now.marks in
    let l = c.loop-at in
    let n = c.in-Some.number in
    let there : is_in n l.marks.order ≡ true =
    ap (is_in n) (l.invariant.order ∙ c.requires.order)
    ∙ stands site held ks old l.marks.marks l.at c.next_at-at.result n c.stand_apart.ensures.apart l.invariant.walked c.in-Some.is c.next_at-at.ensures in
    let below = below_in l.marks.numbers n l.marks.order c.stand_marked.ensures.below there in
    let marks : c.mark.new.self.marks ≡ set l.marks.marks n held =
    ap (λ (s : Marks). s.marks) c.mark.ensures ∙ ap (λ t. cond t (set l.marks.marks n held) l.marks.marks) there in
    record {
      walked = subst (λ ms. Walked site held (with_marks old ks) c.next_at-at.result (with_marks ms ks)) (sym marks)
          (goes_on site held ks old l.marks.marks l.at c.next_at-at.result n c.stand_apart.ensures.apart l.invariant.walked c.in-Some.is c.next_at-at.ensures
          (omega (arith, below, c.stand_marked.ensures.each)));
      order = ap (λ (s : Marks). s.order) c.mark.ensures ∙ l.invariant.order;
      numbers = ap (λ (s : Marks). s.numbers) c.mark.ensures ∙ l.invariant.numbers;
    }

pub returns-clause-rows : goal.returns-clause-rows
returns-clause-rows c =
    let ks = c.args.waiting.now.items in
    ends c.args.site.now c.args.held c.loop-at.at (with_marks c.args.marks.now.marks ks) (with_marks c.loop-at.marks.marks ks) c.loop-at.invariant.walked c.in_default.is
