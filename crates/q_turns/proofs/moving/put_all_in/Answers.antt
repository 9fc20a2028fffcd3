use Rattle.std.proofs.Common.{◌∙◌, ap, arith, refl, subst, sym}
use Rattle.q_heads.specs.Lanes.{Lanes}
use Rattle.q_turns.proofs.HeadLaws.{laned_alike}
use Rattle.q_turns.proofs.MovingLaws.{put_begins, put_goes, put_known, put_room, put_smaller, put_so_far}
use Rattle.q_rounds.proofs.NumberedWalk.{first_stands, item_stands, next_stands}
use Rattle.q_turns.proofs.TakenOut.{rest_goes}
use Rattle.q_rounds.specs.Listing.{AreTickets}
use Rattle.q_turns.proofs.moving.put_all_in.Goals as goal

pub loop-at-init : goal.loop-at-init
loop-at-init c =
    let ks = c.args.peers.now.items in
    record {
      rest = refl;
      stood = first_stands c.first-at.result ks c.first-at.ensures;
      placed = put_begins c.args.transport c.args.lines.now.items c.args.lanes.now.items ks c.args.heads.now.items c.first-at.result c.first-at.ensures c.requires.placed;
    }

pub put_one_in-requires-clause-room : goal.put_one_in-requires-clause-room
put_one_in-requires-clause-room c =
    let ks = c.args.peers.now.items in
    let heads = c.loop-at.heads in
    let inv = c.loop-at.invariant in
    let it = item_stands c.in-Some.number c.loop-at.at ks c.in-Some.is inv.stood in
    let room = ap (λ (s : Lanes). s.room) inv.rest ∙ c.requires.room in
    put_room c.args.transport c.args.lines.now.items c.args.lanes.now.items ks c.stand_apart.ensures.apart c.loop-at.at _ c.in-Some.number it.0 c.in-Some.is it.1 refl heads.items heads.room inv.placed c.stand_sorted.ensures.rising (omega (arith, room, c.stand_apart.ensures.within))

pub put_one_in-requires-clause-known : goal.put_one_in-requires-clause-known
put_one_in-requires-clause-known c =
    let ks = c.args.peers.now.items in
    let inv = c.loop-at.invariant in
    let it = item_stands c.in-Some.number c.loop-at.at ks c.in-Some.is inv.stood in
    put_known c.args.transport c.args.lines.now.items c.args.lanes.now.items ks c.stand_apart.ensures.apart c.loop-at.at _ c.in-Some.number it.0 c.in-Some.is it.1 refl c.stand_apart-2.ensures.apart c.loop-at.heads
    (laned_alike c.args.lanes.now.items c.args.heads.now c.loop-at.heads (ap (λ (s : Lanes). s.lanes) inv.rest) (ap (λ (s : Lanes). s.classes) inv.rest) c.requires.laned)

pub loop-at-smaller : goal.loop-at-smaller
loop-at-smaller c =
    let ks = c.args.peers.now.items in
    let it = item_stands c.in-Some.number c.loop-at.at ks c.in-Some.is c.loop-at.invariant.stood in
    put_smaller c.args.transport c.args.lines.now.items c.args.lanes.now.items ks c.stand_apart.ensures.apart c.loop-at.at c.next-at.result c.in-Some.number it.0 c.in-Some.is it.1 c.next-at.ensures

pub loop-at-preserved : goal.loop-at-preserved
loop-at-preserved c =
    let t = c.args.transport in
    let lines = c.args.lines.now.items in
    let lanes = c.args.lanes.now.items in
    let ks = c.args.peers.now.items in
    let inv = c.loop-at.invariant in
    let n = c.in-Some.number in
    let it = item_stands n c.loop-at.at ks c.in-Some.is inv.stood in
    record {
      rest = rest_goes c.args.heads.now c.loop-at.heads c.put_one_in.new.heads _ c.put_one_in.ensures inv.rest;
      stood = next_stands n c.next-at.result ks c.next-at.ensures;
      placed = subst (λ (s : Lanes). AreTickets (put_so_far t lines lanes ks c.next-at.result) s.items) (sym c.put_one_in.ensures)
          (put_goes t lines lanes ks c.stand_apart.ensures.apart c.loop-at.at c.next-at.result n it.0 c.in-Some.is it.1 c.next-at.ensures c.loop-at.heads.items inv.placed);
    }
