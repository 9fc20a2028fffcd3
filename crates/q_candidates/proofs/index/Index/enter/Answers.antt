use Rattle.std.proofs.Common.{◌∙◌, ap, arith, length}
use Rattle.q_sorted.specs.Tickets.{inserted}
use Rattle.q_candidates.specs.Filing.{age_key, rank_key}
use Rattle.q_candidates.proofs.Entering.{filed_with, laid_with, lane_below, lanes_from, most_heads}
use Rattle.q_candidates.proofs.Lanes.{few_lanes}
use Rattle.q_candidates.proofs.index.Index.enter.Goals as goal

pub make_lane-lane-requires-clause-room : goal.make_lane-lane-requires-clause-room
make_lane-lane-requires-clause-room c =
    let space = c.requires.space in
    omega (arith, few_lanes c.args.self.now.lanes.items space.candidates c.stand_apart.ensures.apart c.stand_apart.ensures.keys space.filed.used, space.fewer)

pub insert-requires-clause-room : goal.insert-requires-clause-room
insert-requires-clause-room c =
    let i = c.args.self.now in
    let space = c.requires.space in
    omega (arith, most_heads age_key i.lanes.items space.candidates i.ages.items space.filed.aged c.stand_sorted.ensures.rising, space.fewer, ap length c.make_lane-lane.ensures.grown.ages, c.make_lane-lane.ensures.laid.age_room, c.make_lane-lane.ensures.grown.room)

pub insert-requires-clause-known : goal.insert-requires-clause-known
insert-requires-clause-known c =
    let j = c.make_lane-lane.new.self in
    let low = lane_below c.args.candidate.now c.make_lane-lane.result j.lanes.items j.ages c.stand_apart-2.ensures.apart c.make_lane-lane.ensures.laid.ages c.make_lane-lane.ensures.own in
    omega (arith, low, ap (λ e. e.group) c.age_ticket.ensures)

pub insert-requires-2-clause-room : goal.insert-requires-2-clause-room
insert-requires-2-clause-room c =
    let i = c.args.self.now in
    let space = c.requires.space in
    omega (arith, most_heads rank_key i.lanes.items space.candidates i.ranks.items space.filed.ranked c.stand_sorted-2.ensures.rising, space.fewer, ap length c.make_lane-lane.ensures.grown.ranks, c.make_lane-lane.ensures.laid.rank_room, c.make_lane-lane.ensures.grown.room)

pub insert-requires-2-clause-known : goal.insert-requires-2-clause-known
insert-requires-2-clause-known c =
    let j = c.make_lane-lane.new.self in
    let low = lane_below c.args.candidate.now c.make_lane-lane.result j.lanes.items j.ranks c.stand_apart-2.ensures.apart c.make_lane-lane.ensures.laid.ranks c.make_lane-lane.ensures.own in
    omega (arith, low, ap (λ e. e.group) c.rank_ticket.ensures)

pub returns-clause-laid : goal.returns-clause-laid
returns-clause-laid c = laid_with c.make_lane-lane.new.self c.insert.new.self c.insert-2.new.self _ _ c.insert.ensures c.insert-2.ensures c.make_lane-lane.ensures.laid

pub returns-clause-filed : goal.returns-clause-filed
returns-clause-filed c = λ ks new filed free changed.
    let j = c.make_lane-lane.new.self in
    filed_with c.args.candidate.now c.args.number c.make_lane-lane.result c.args.self.now j c.args.suspended c.make_lane-lane.ensures.grown c.make_lane-lane.ensures.own ks new filed free changed c.insert.new.self c.insert-2.new.self
    (c.insert.ensures ∙ ap (λ e. record j.ages { items = inserted e j.ages.items }) c.age_ticket.ensures)
    (c.insert-2.ensures ∙ ap (λ e. record j.ranks { items = inserted e j.ranks.items }) c.rank_ticket.ensures)

pub returns-clause-lanes : goal.returns-clause-lanes
returns-clause-lanes c =
    let q = c.args.candidate.now in
    lanes_from q.site q.need c.args.suspended c.args.self.now c.make_lane-lane.new.self c.make_lane-lane.ensures.grown
