use Rattle.std.proofs.Common.{◌≡◌, ◌∙◌, ◌+◌, ap, arith, length, refl, subst, sym}
use Rattle.q_keyed.specs.Numbered.{AreApart, Items, next_number}
use Rattle.q_rounds.proofs.NumberedWalk.{first_stands, from_first, from_on, item_stands, next_stands}
use Rattle.q_schedule.proofs.RankedAnew.{begins, goes_on, one_left}
use Rattle.q_schedule.specs.declared.ranked.Ranked.{Ranked}
use Rattle.q_schedule.specs.Ranking.{anew_from, ranked_at}
use Rattle.q_schedule.proofs.ranking.rank_anew.Goals as goal

pub loop-at-init : goal.loop-at-init
loop-at-init c =
    let ks = c.args.messages.now.items in
    record {
      room = refl;
      tied = c.requires.tied;
      kept = c.requires.kept;
      same = refl;
      apart = c.stand_apart.ensures.apart;
      stood = first_stands c.first-at.result ks c.first-at.ensures;
      items = ap (λ o. anew_from 0 o ks) c.first-at.ensures ∙ begins 0 ks;
      count = ap (λ o. 0 + length (from_on o ks)) c.first-at.ensures ∙ ap (λ xs. 0 + length xs) (from_first ks) ∙ omega arith;
    }

pub loop-at-smaller : goal.loop-at-smaller
loop-at-smaller c =
    let ks = c.loop-at.messages.items in
    let inv = c.loop-at.invariant in
    let n = c.in-Some.number in
    let rank = c.loop-at.rank in
    let it = item_stands n c.loop-at.at ks c.in-Some.is inv.stood in
    let now : c.rank_one.new.messages.items ≡ ranked_at n rank ks = ap (λ (v : Items Ranked). v.items) c.rank_one.ensures.ranked in
    let fewer = one_left n rank c.loop-at.at c.next-at.result it.0 ks c.in-Some.is it.1 (subst AreApart now c.stand_apart-in-Some.ensures.apart) (c.next-at.ensures ∙ ap (next_number n) now) in
    let count : length (from_on c.next-at.result c.rank_one.new.messages.items) ≡ length (from_on c.next-at.result (ranked_at n rank ks)) = ap (λ xs. length (from_on c.next-at.result xs)) now in
    omega (arith, fewer, count)

pub loop-at-preserved : goal.loop-at-preserved
loop-at-preserved c =
    let ks = c.loop-at.messages.items in
    let inv = c.loop-at.invariant in
    let n = c.in-Some.number in
    let rank = c.loop-at.rank in
    let next = c.next-at.result in
    let it = item_stands n c.loop-at.at ks c.in-Some.is inv.stood in
    let now : c.rank_one.new.messages.items ≡ ranked_at n rank ks = ap (λ (v : Items Ranked). v.items) c.rank_one.ensures.ranked in
    let is = c.next-at.ensures ∙ ap (next_number n) now in
    let fewer = one_left n rank c.loop-at.at next it.0 ks c.in-Some.is it.1 (subst AreApart now c.stand_apart-in-Some.ensures.apart) is in
    let count : length (from_on next c.rank_one.new.messages.items) ≡ length (from_on next (ranked_at n rank ks)) = ap (λ xs. length (from_on next xs)) now in
    record {
      room = c.rank_one.ensures.room ∙ inv.room;
      tied = c.rank_one.ensures.tied;
      kept = c.rank_one.ensures.kept;
      same = ap (λ (v : Items Ranked). v.room) c.rank_one.ensures.ranked ∙ inv.same;
      apart = c.stand_apart-in-Some.ensures.apart;
      stood = next_stands n next c.rank_one.new.messages.items c.next-at.ensures;
      items =
          ap (anew_from (rank + 1) next) now ∙ ap (λ o. anew_from (rank + 1) o (ranked_at n rank ks)) is ∙ goes_on n rank ks inv.apart
          ∙ ap (λ o. anew_from rank o ks) (sym c.in-Some.is) ∙ inv.items;
      count = omega (arith, fewer, count, inv.count);
    }
