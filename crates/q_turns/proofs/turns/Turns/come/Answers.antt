use Rattle.std.proofs.Common.{◌≡◌, ◌∙◌, ◌<◌, ap, arith, length, refl, subst, sym, true}
use Rattle.std.proofs.lemmas.List.{length-map}
use Rattle.std.specs.Prelude.{find}
use Rattle.q_heads.specs.Lanes.{Lanes}
use Rattle.q_keyed.proofs.Values.{none_sought}
use Rattle.q_keyed.specs.Numbered.{Numbered, values_of}
use Rattle.q_sorted.specs.declared.ticket.Ticket.{Ticket}
use Rattle.q_sorted.specs.Tickets.{inserted}
use Rattle.q_turns.proofs.HeadLaws.{heads_below, if_some, lanes_laned}
use Rattle.q_turns.proofs.LaneLaws.{lanes_more}
use Rattle.q_turns.proofs.PeerLaws.{never_last}
use Rattle.q_turns.proofs.Placing.{with_peer}
use Rattle.q_turns.proofs.TurnSteps.{few_heads, few_lanes_there, few_messages, sound_from, sound_more, unranked}
use Rattle.q_rounds.specs.declared.peer.Peer.{Peer}
use Rattle.q_turns.specs.Heading.{rank_by}
use Rattle.q_rounds.specs.Rounds.{is_peer, new_peer}
use Rattle.q_turns.specs.Suspending.{class_at}
use Rattle.q_turns.specs.Turns.{may_wait, Turning}
use Rattle.q_turns.proofs.turns.Turns.come.Goals as goal

pub make_lane-requires-clause-room : goal.make_lane-requires-clause-room
make_lane-requires-clause-room c =
    let a = c.self.inside in
    let few = few_lanes_there a.lines.items a.peers a.lanes a.heads a.messages a.suspended a.line_room c.self.invariant c.stand_apart-2.ensures.apart c.stand_apart-2.ensures.keys in
    let space : length (values_of a.peers.items) < a.peers.room = subst (λ (s : Turning). length s.peers < s.room) (sym c.self.view_is) c.requires.room in
    omega (arith, few, space, c.self.invariant.lane_room)

pub add-number-requires-clause-absent : goal.add-number-requires-clause-absent
add-number-requires-clause-absent c =
    let test = is_peer c.args.id c.args.site.now in
    none_sought test c.self.inside.peers.items (ap (λ (s : Turning). find test s.peers) c.self.view_is ∙ c.requires.absent)

pub add-number-requires-clause-own : goal.add-number-requires-clause-own
add-number-requires-clause-own c = never_last (values_of c.self.inside.peers.items)

pub insert-requires : goal.insert-requires
insert-requires c =
    let a = c.self.inside in
    let few = few_messages a.lines.items a.peers a.lanes a.heads a.messages a.suspended a.line_room c.self.invariant c.stand_sorted-2.ensures.rising in
    let space : length (values_of a.peers.items) < a.peers.room = subst (λ (s : Turning). length s.peers < s.room) (sym c.self.view_is) c.requires.room in
    omega (arith, few, space, c.self.invariant.list_room, length-map a.peers.items (λ (k : Numbered Peer). k.item))

pub put_in-requires-clause-room : goal.put_in-requires-clause-room
put_in-requires-clause-room c =
    let a = c.self.inside in
    let made = c.make_lane.ensures.made in
    let few = few_heads a.lines.items a.peers a.lanes a.heads a.messages a.suspended a.line_room c.self.invariant c.stand_sorted.ensures.rising in
    let space : length (values_of a.peers.items) < a.peers.room = subst (λ (s : Turning). length s.peers < s.room) (sym c.self.view_is) c.requires.room in
    let count = ap (λ (s : Lanes). length s.items) made.heads in
    let room = ap (λ (s : Lanes). s.room) made.heads in
    if_some c.head_of-head.result (length c.make_lane.new.heads.items < c.make_lane.new.heads.room)
    (omega (arith, few, space, count, room, c.self.invariant.head_room, length-map a.peers.items (λ (k : Numbered Peer). k.item)))

pub put_in-requires-clause-known : goal.put_in-requires-clause-known
put_in-requires-clause-known c =
    let a = c.self.inside in
    let lanes = c.make_lane.new.lanes in
    let n = c.add-number.result in
    let p = new_peer c.args.id c.args.site.now 0 in
    heads_below (rank_by a.lines.items) lanes.items c.make_lane.new.heads n p c.head_of-head.result c.stand_apart-3.ensures.apart
    (lanes_laned a.suspended.items lanes.items (with_peer n p a.peers.items) c.make_lane.new.heads
    (lanes_more (class_at a.suspended.items) (rank_by a.lines.items) (length a.lines.items) a.lanes.items lanes.items a.peers.items a.heads c.make_lane.new.heads p.site c.self.invariant.places (unranked a.lines.items a.peers a.lanes a.heads a.messages a.suspended a.line_room c.self.invariant) c.make_lane.ensures.made n p c.add-number.ensures.fresh refl))
    c.head_of-head.ensures

pub invariant_of-self : goal.invariant_of-self
invariant_of-self c =
    let a = c.self.inside in
    let p = new_peer c.args.id c.args.site.now 0 in
    let n = c.add-number.result in
    let may = subst (λ (s : Turning). may_wait s.lines p.site.transport p.id ≡ true) (sym c.self.view_is) c.requires.job in
    sound_from a.lines.items _ c.add-number.new.self _ c.make_lane.new.lanes _ c.put_in.new.heads _ c.insert.new.self a.suspended a.line_room
    c.add-number.ensures.items c.make_lane.ensures.lanes c.put_in.ensures
    (c.insert.ensures ∙ ap (λ (e : Ticket). record a.messages { items = inserted e a.messages.items }) c.message_ticket.ensures)
    (sound_more a.lines.items a.peers a.lanes a.heads a.messages a.suspended a.line_room c.self.invariant n p c.make_lane.new.lanes.items c.make_lane.new.heads c.head_of-head.result c.add-number.ensures.fresh c.make_lane.ensures.made refl may c.head_of-head.ensures)
