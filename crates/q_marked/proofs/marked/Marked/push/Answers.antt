use Rattle.std.proofs.Common.{◌≡◌, ◌∙◌, ◌<◌, ◌++◌, ◌∷◌, ◌^◌, [], ap, get_or, set, subst, sym}
use Rattle.q_marked.proofs.Keying.{marks_kept, marks_set}
use Rattle.q_marked.specs.declared.marked.Marked.TheInside.{Inside}
use Rattle.q_marked.specs.Marks.{Marks}
use Rattle.q_marked.specs.Sound.{are_keyed}
use Rattle.q_ranks.specs.Ranking.{AreLow, Ranking}
use Rattle.q_marked.proofs.marked.Marked.push.Goals as goal
use Rattle.q_marked.proofs.marked.Marked.push.Goals.{then-anew, else-anew}

pub returns : goal.returns
returns c =
    let a = c.self.inside in
    let n = c.args.number in
    let b = c.if-anew.self-inside in
    let order : b.order ≡ c.push-anew.new.self = elim c.if-anew.branch [
      | then-anew w ↦ ap (λ (s : Inside). s.order) w.self-inside-is
      | else-anew w ↦ ap (λ (s : Inside). s.order) w.self-inside-is
    ] in
    let numbers : b.numbers ≡ a.numbers = elim c.if-anew.branch [
      | then-anew w ↦ ap (λ (s : Inside). s.numbers) w.self-inside-is
      | else-anew w ↦ ap (λ (s : Inside). s.numbers) w.self-inside-is
    ] in
    let low : AreLow c.push-anew.new.self.ranks = c.stand_ranked-2.ensures.low in
    let marks : are_keyed b.keys ≡ are_keyed a.keys = elim c.if-anew.branch [
      | then-anew w ↦
          ap (λ (s : Inside). are_keyed s.keys) w.self-inside-is
          ∙ marks_kept c.push-anew.new.self.ranks a.keys w.mark_anew.new.keys low (w.mark_anew.ensures.each ∙ sym c.self.invariant.each) (λ k below. w.mark_anew.ensures.ranked k (subst (λ l. k < l) c.self.invariant.each below))
      | else-anew w ↦ ap (λ (s : Inside). are_keyed s.keys) w.self-inside-is
    ] in
    ap (λ ks. record { order = b.order.order; marks = are_keyed ks; numbers = b.numbers }) c.set_mark.ensures
    ∙ ap (λ ms. record { order = b.order.order; marks = ms; numbers = b.numbers })
    (marks_set b.keys n (get_or b.order.ranks n 0) c.args.marked (subst (λ (o : Ranking). get_or o.ranks n 0 < 2 ^ 63) (sym order) (low n))
    ∙ ap (λ ms. set ms n c.args.marked) marks)
    ∙ ap (λ (o : Ranking). record { order = o.order; marks = set (are_keyed a.keys) n c.args.marked; numbers = b.numbers }) order
    ∙ ap (λ k. record { order = c.push-anew.new.self.order; marks = set (are_keyed a.keys) n c.args.marked; numbers = k }) numbers
    ∙ ap (λ ns. record { order = ns; marks = set (are_keyed a.keys) n c.args.marked; numbers = a.numbers }) c.push-anew.ensures.order
    ∙ ap (λ (s : Marks). record s { order = s.order ++ n ∷ []; marks = set s.marks n c.args.marked }) c.self.view_is
