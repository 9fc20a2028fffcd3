use Rattle.std.proofs.Common.{◌∙◌, sym}
use Rattle.q_peers.specs.Numbered.{is_for}
use Rattle.q_chains.specs.Slots.{passes}
use Rattle.q_chains.proofs.Steps.{found_behind, shorter, still_there}
use Rattle.q_peers.proofs.walk.first_for_from.Goals as goal

pub loop-at-smaller : goal.loop-at-smaller
loop-at-smaller c = shorter c.args.lists.now c.next-at.ensures.once c.in-Some.number c.loop-at.at c.next-at.result c.in-Some.is c.next-at.ensures.is

pub loop-at-preserved : goal.loop-at-preserved
loop-at-preserved c =
    let s = c.args.lists.now in
    let n = c.in-Some.number in
    let fails = sym c.is_row_for.ensures ∙ c.if-is_row_for.false in
    record {
      there = still_there s c.next-at.ensures.once n c.loop-at.at c.next-at.result c.in-Some.is c.next-at.ensures.is;
      rest = found_behind s c.next-at.ensures.once n c.loop-at.at c.next-at.result c.in-Some.is c.next-at.ensures.is (passes (is_for c.args.id c.args.site.now) c.args.rows.now.rows) fails ∙ c.loop-at.invariant.rest;
    }
