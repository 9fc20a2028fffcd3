use Rattle.std.proofs.Common.{◌≡◌, ◌∙◌, ◌<◌, [], ap, arith, false, get_or, length, set, subst, sym, ℕ}
use Rattle.std.specs.Prelude.{IfSome}
use Rattle.q_chains.specs.Lists.{is_in, Lists}
use Rattle.q_ranks.specs.Ranking.{rank_of, Ranking, Rises}
use Rattle.q_ranks.proofs.Standing.{fits_pushed}
use Rattle.q_ranks.proofs.ranked.Ranked.push.Goals as goal

pub give_rank-requires-clause-fits : goal.give_rank-requires-clause-fits
give_rank-requires-clause-fits c =
    let a = c.self.inside in
    let n = c.args.number in
    let known = subst (λ (v : Ranking). n < v.numbers) (sym c.self.view_is) c.requires.known in
    let below : n < length a.ranks.items = omega (arith, known, c.self.invariant.each) in
    let free = subst (λ (v : Ranking). is_in n v.order ≡ false) (sym c.self.view_is) c.requires.free in
    let last = c.rank_of.ensures ∙ ap (rank_of a.ranks.items) c.last.ensures.is in
    let above = subst (λ (low : ℕ). IfSome c.rank_behind-rank.result (λ r. low < r)) last c.rank_behind-rank.ensures.behind in
    subst (λ (s : Lists). IfSome c.rank_behind-rank.result (λ r. Rises (set a.ranks.items n r) (get_or s.lists 0 []))) (sym c.push.ensures)
    (fits_pushed a.order a.ranks.items a.numbers c.self.invariant n below free c.rank_behind-rank.result above)
