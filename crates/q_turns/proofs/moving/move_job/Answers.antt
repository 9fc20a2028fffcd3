use Rattle.std.proofs.Common.{◌∙◌, ap, refl, subst, sym}
use Rattle.std.specs.Prelude.{find, not}
use Rattle.q_heads.specs.Lanes.{Lanes}
use Rattle.q_sorted.specs.declared.ticket.Ticket.{Ticket}
use Rattle.q_sorted.specs.Tickets.{goes_before}
use Rattle.q_turns.proofs.JobMoves.{moved_to, moves_begin, moves_go, moves_stand}
use Rattle.q_turns.proofs.MessageWalk.{peer_there, stands_found, stood_at, walk_smaller}
use Rattle.q_turns.proofs.TakenOut.{rest_goes}
use Rattle.q_rounds.specs.Listing.{AreTickets}
use Rattle.q_turns.proofs.moving.move_job.Goals as goal

pub loop-at-init : goal.loop-at-init
loop-at-init c =
    let id = c.args.id in
    let items = c.args.messages.now.items in
    let is = c.first_from-at.ensures.is ∙ ap (λ (e : Ticket). find (λ (x : Ticket). not (goes_before x e)) items) c.least_of.ensures in
    record {
      rest = refl;
      stood = stands_found _ items c.first_from-at.result is;
      placed = moves_begin id c.args.transport c.args.from c.args.lines.now.items c.args.lanes.now.items c.args.peers.now.items items c.requires.listed c.first_from-at.ensures.rising c.args.heads.now.items c.first_from-at.result is c.requires.placed;
    }

pub move_one-requires : goal.move_one-requires
move_one-requires c =
    let items = c.args.messages.now.items in
    let inv = c.loop-at.invariant in
    let e = c.in-Some.ticket in
    let stood = stood_at items c.loop-at.at e c.in-Some.is inv.stood in
    let of = sym c.is_of_message.ensures ∙ c.if-not-is_of_message.false in
    let it = peer_there c.args.id c.args.peers.now.items items c.requires.listed c.first_from-at.ensures.rising e c.loop-at.at _ c.in-Some.is stood of refl in
    moves_stand c.args.id c.args.transport c.args.from c.args.lines.now.items c.args.lanes.now.items c.args.peers.now.items items c.requires.listed c.first_from-at.ensures.rising e c.loop-at.at _ c.in-Some.is stood of refl c.requires.ranked it.0 it.1 c.loop-at.heads.items inv.placed

pub loop-at-smaller : goal.loop-at-smaller
loop-at-smaller c = walk_smaller c.args.messages.now.items c.in-Some.ticket c.loop-at.at c.behind-at.result c.in-Some.is c.behind-at.ensures.is

pub loop-at-preserved : goal.loop-at-preserved
loop-at-preserved c =
    let items = c.args.messages.now.items in
    let inv = c.loop-at.invariant in
    let e = c.in-Some.ticket in
    let stood = stood_at items c.loop-at.at e c.in-Some.is inv.stood in
    let of = sym c.is_of_message.ensures ∙ c.if-not-is_of_message.false in
    let it = peer_there c.args.id c.args.peers.now.items items c.requires.listed c.first_from-at.ensures.rising e c.loop-at.at c.behind-at.result c.in-Some.is stood of c.behind-at.ensures.is in
    record {
      rest = rest_goes c.args.heads.now c.loop-at.heads c.move_one.new.heads _ c.move_one.ensures inv.rest;
      stood = stands_found (goes_before e) items c.behind-at.result c.behind-at.ensures.is;
      placed = subst (λ (s : Lanes). AreTickets (moved_to c.args.id c.args.transport c.args.from c.args.lines.now.items c.args.lanes.now.items c.args.peers.now.items c.behind-at.result) s.items) (sym c.move_one.ensures)
          (moves_go c.args.id c.args.transport c.args.from c.args.lines.now.items c.args.lanes.now.items c.args.peers.now.items items c.requires.listed c.first_from-at.ensures.rising e c.loop-at.at c.behind-at.result c.in-Some.is stood of c.behind-at.ensures.is c.requires.ranked it.0 it.1 c.loop-at.heads.items inv.placed);
    }
