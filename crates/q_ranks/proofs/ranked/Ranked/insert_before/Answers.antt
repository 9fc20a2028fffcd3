use Rattle.std.proofs.Common.{◌≡◌, ◌∙◌, ◌<◌, [], ap, arith, false, get_or, length, set, subst, sym, true, ℕ}
use Rattle.std.specs.Prelude.{IfSome}
use Rattle.q_chains.specs.Lists.{ahead_of, is_in, Lists}
use Rattle.q_ranks.specs.Ranking.{rank_of, Ranking, Rises}
use Rattle.q_ranks.proofs.Alone.{list_alone}
use Rattle.q_ranks.proofs.Standing.{fits_inserted}
use Rattle.q_ranks.proofs.ranked.Ranked.insert_before.Goals as goal

pub give_rank-requires-clause-fits : goal.give_rank-requires-clause-fits
give_rank-requires-clause-fits c =
    let a = c.self.inside in
    let n = c.args.number in
    let at = c.args.at in
    let known = subst (λ (v : Ranking). n < v.numbers) (sym c.self.view_is) c.requires.known in
    let below : n < length a.ranks.items = omega (arith, known, c.self.invariant.each) in
    let free = subst (λ (v : Ranking). is_in n v.order ≡ false) (sym c.self.view_is) c.requires.free in
    let there = subst (λ (v : Ranking). is_in at v.order ≡ true) (sym c.self.view_is) c.requires.there in
    let ahead = c.before-2.ensures.is ∙ ap (ahead_of at) (list_alone at a.order.lists c.self.invariant.one there) in
    let lower = c.rank_of-lower.ensures ∙ ap (rank_of a.ranks.items) ahead in
    let above = subst (λ (low : ℕ). IfSome c.rank_between-rank.result (λ r. low < r)) lower c.rank_between-rank.ensures.above in
    let beneath = subst (λ (high : ℕ). IfSome c.rank_between-rank.result (λ r. r < high)) c.rank_of.ensures c.rank_between-rank.ensures.below in
    subst (λ (s : Lists). IfSome c.rank_between-rank.result (λ r. Rises (set a.ranks.items n r) (get_or s.lists 0 []))) (sym c.insert_before.ensures)
    (fits_inserted a.order a.ranks.items a.numbers c.self.invariant n below free at c.rank_between-rank.result there above beneath)
