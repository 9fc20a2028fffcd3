use Rattle.std.proofs.Common.{◌≡◌, ◌∙◌, ◌<◌, ap, arith, length, sym}
use Rattle.std.specs.Option.{option_copied}
use Rattle.std.specs.Prelude.{filter}
use Rattle.q_heads.proofs.Standing.{all_stand, fewer_left}
use Rattle.q_heads.specs.Lanes.{Lanes}
use Rattle.q_sorted.specs.declared.ticket.Ticket.{Ticket}
use Rattle.q_sorted.specs.Tickets.{is_another}
use Rattle.q_turns.proofs.JobMoves.{job_head_is, stood_with}
use Rattle.q_turns.specs.Moving.{with_key}
use Rattle.q_turns.proofs.moving.move_one.Goals as goal

pub insert-requires-clause-room : goal.insert-requires-clause-room
insert-requires-clause-room c =
    let heads = c.args.heads.now in
    let from = c.args.from in
    let head = c.in-Some-head_of.head in
    let is = job_head_is c.args.id c.args.transport c.args.lines.now.items c.args.lanes.now.items c.args.peers.now.items c.args.number c.in-Some.peer.now head (sym c.get.ensures ∙ ap option_copied c.in-Some.is) (sym c.is_peer_for.ensures ∙ c.if-not-is_peer_for.false) (sym c.head_of.ensures ∙ c.in-Some-head_of.is) in
    let there = stood_with from heads.items _ head is c.requires in
    let gone = c.remove.ensures ∙ ap (λ k. record heads { items = filter (is_another (with_key k head)) heads.items }) c.from.ensures in
    let count : length c.remove.new.self.items ≡ length (filter (is_another (with_key from head)) heads.items) = ap (λ (s : Lanes). length s.items) gone in
    let room = ap (λ (s : Lanes). s.room) gone in
    omega (arith, count, room, fewer_left (with_key from head) heads.items there, c.stand_sorted.ensures.within)

pub insert-requires-clause-known : goal.insert-requires-clause-known
insert-requires-clause-known c =
    let heads = c.args.heads.now in
    let from = c.args.from in
    let head = c.in-Some-head_of.head in
    let is = job_head_is c.args.id c.args.transport c.args.lines.now.items c.args.lanes.now.items c.args.peers.now.items c.args.number c.in-Some.peer.now head (sym c.get.ensures ∙ ap option_copied c.in-Some.is) (sym c.is_peer_for.ensures ∙ c.if-not-is_peer_for.false) (sym c.head_of.ensures ∙ c.in-Some-head_of.is) in
    let there = stood_with from heads.items _ head is c.requires in
    let low : head.group < heads.lanes = all_stand (λ (e : Ticket). e.group < heads.lanes) (with_key from head) heads.items c.stand_sorted.ensures.known there in
    let lanes = ap (λ (s : Lanes). s.lanes) c.remove.ensures in
    omega (arith, low, lanes)
