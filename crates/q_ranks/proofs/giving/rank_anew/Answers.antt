use Rattle.std.proofs.Common.{◌∙◌, ◌*◌, ◌+◌, ◌<◌, ◌^◌, [], arith, get_or, length, length-set, sym}
use Rattle.std.proofs.lemmas.Option.{slice_get_within}
use Rattle.q_ranks.specs.declared.giving.TheConstants.{STEP}
use Rattle.q_ranks.proofs.Alone.{apart_alone}
use Rattle.q_ranks.proofs.Rising.{rise_by}
use Rattle.q_ranks.proofs.Walked.{low_set, past_end, place_below, place_known, place_next, place_stands, ranked_more}
use Rattle.q_ranks.proofs.giving.rank_anew.Goals as goal

pub overflow_add-count : goal.overflow_add-count
overflow_add-count c =
    let less = place_below c.args.order.now c.first-at.ensures.once c.requires.one c.loop-at.count c.in-Some.number (sym c.loop-at.invariant.here ∙ c.in-Some.is) in
    omega (arith, less, c.requires.few)

pub overflow_mul-count : goal.overflow_mul-count
overflow_mul-count c =
    let less = place_below c.args.order.now c.first-at.ensures.once c.requires.one c.loop-at.count c.in-Some.number (sym c.loop-at.invariant.here ∙ c.in-Some.is) in
    omega (arith, less, c.requires.few)

pub index_mut-requires : goal.index_mut-requires
index_mut-requires c =
    let known = place_known c.args.order.now c.first-at.ensures.once c.requires.one c.loop-at.count c.in-Some.number (sym c.loop-at.invariant.here ∙ c.in-Some.is) in
    omega (arith, known, c.requires.each, c.loop-at.invariant.each)

pub next-at-requires : goal.next-at-requires
next-at-requires c = place_stands c.args.order.now c.first-at.ensures.once c.requires.one c.loop-at.count c.in-Some.number (sym c.loop-at.invariant.here ∙ c.in-Some.is)

pub loop-at-smaller : goal.loop-at-smaller
loop-at-smaller c =
    let within = slice_get_within (get_or c.args.order.now.lists 0 []) c.loop-at.count c.in-Some.number (sym c.loop-at.invariant.here ∙ c.in-Some.is) in
    omega (arith, within)

pub loop-at-preserved : goal.loop-at-preserved
loop-at-preserved c =
    let s = c.args.order.now in
    let k = c.loop-at.count in
    let n = c.in-Some.number in
    let here = sym c.loop-at.invariant.here ∙ c.in-Some.is in
    let known : n < length c.loop-at.ranks.items = omega (arith, place_known s c.first-at.ensures.once c.requires.one k n here, c.requires.each, c.loop-at.invariant.each) in
    record {
      here = c.next-at.ensures.is ∙ place_next s c.first-at.ensures.once c.requires.one k n here;
      each = length-set c.loop-at.ranks.items n ((k + 1) * STEP) ∙ c.loop-at.invariant.each;
      low = low_set (2 ^ 63) n ((k + 1) * STEP) c.loop-at.ranks.items (omega (arith, place_below s c.first-at.ensures.once c.requires.one k n here, c.requires.few)) c.loop-at.invariant.low;
      ranked = ranked_more STEP k n c.loop-at.ranks.items (get_or s.lists 0 []) (apart_alone s.lists c.first-at.ensures.once.once) here known c.loop-at.invariant.ranked;
    }

pub returns-clause-rises : goal.returns-clause-rises
returns-clause-rises c =
    let xs = get_or c.args.order.now.lists 0 [] in
    let end = past_end xs c.loop-at.count (sym c.loop-at.invariant.here ∙ c.in_default.is) in
    rise_by (λ j. (j + 1) * STEP) 0 c.loop-at.ranks.items xs (λ j. omega arith) (omega arith) (λ j h. c.loop-at.invariant.ranked j (omega (arith, h, end)))
