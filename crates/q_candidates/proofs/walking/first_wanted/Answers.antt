use Rattle.std.proofs.Common.{◌∙◌, ◌<◌, ap, false, Option, subst, sym}
use Rattle.q_heads.proofs.Standing.{all_stand, found}
use Rattle.q_heads.specs.Lanes.{foremost, heads_of}
use Rattle.q_sorted.specs.declared.ticket.Ticket.{Ticket}
use Rattle.q_sorted.specs.Tickets.{is_of}
use Rattle.q_candidates.specs.Filing.{class_for}
use Rattle.q_candidates.specs.Walking.{nearer}
use Rattle.q_candidates.proofs.ClassWalk.{at_head, in_begins, in_ends, in_goes, in_past, InWalk, walk_begins, walk_goes, walk_smaller}
use Rattle.q_candidates.proofs.walking.first_wanted.Goals as goal

pub loop-at-init : goal.loop-at-init
loop-at-init c =
    let s = c.args.heads.now in
    let w = c.args.wanted.now in
    let is = c.first-at.ensures ∙ ap (λ k. foremost (heads_of k s)) c.class_for.ensures in
    record {
      head = walk_begins (class_for false w.transport w.need) s c.first-at.result is;
      walk = λ key lanes order shut. in_begins key lanes c.args.candidates.now.items s order c.stand_sorted.ensures.rising c.args.sites.now.items shut w c.first-at.result is;
    }

pub returns-then-is_past : goal.returns-then-is_past
returns-then-is_past c = λ key lanes order shut.
    in_past key lanes c.args.candidates.now.items c.args.heads.now order c.stand_sorted.ensures.rising c.args.sites.now.items shut c.args.wanted.now c.loop-at.found c.loop-at.at c.in-Some.head c.in-Some.is
    (sym c.is_past.ensures ∙ c.if-is_past.true) (c.loop-at.invariant.walk key lanes order shut)

pub behind-at-requires : goal.behind-at-requires
behind-at-requires c =
    let s = c.args.heads.now in
    let w = c.args.wanted.now in
    let head = c.in-Some.head in
    let is = at_head (class_for false w.transport w.need) s head c.loop-at.at c.in-Some.is c.loop-at.invariant.head in
    all_stand (λ (e : Ticket). e.group < s.lanes) head s.items c.stand_sorted.ensures.known (found (is_of head.group) head s.items is.first).0

pub loop-at-smaller : goal.loop-at-smaller
loop-at-smaller c =
    let w = c.args.wanted.now in
    walk_smaller (class_for false w.transport w.need) c.args.heads.now c.in-Some.head c.loop-at.at c.behind-at.result c.in-Some.is c.loop-at.invariant.head c.behind-at.ensures

pub loop-at-preserved : goal.loop-at-preserved
loop-at-preserved c =
    let s = c.args.heads.now in
    let w = c.args.wanted.now in
    let ks = c.args.candidates.now.items in
    let ds = c.args.sites.now.items in
    let head = c.in-Some.head in
    let is = at_head (class_for false w.transport w.need) s head c.loop-at.at c.in-Some.is c.loop-at.invariant.head in
    record {
      head = walk_goes (class_for false w.transport w.need) s head c.loop-at.at c.behind-at.result c.in-Some.is c.loop-at.invariant.head c.behind-at.ensures;
      walk = λ key lanes order shut. subst (λ (o : Option Ticket). InWalk key lanes ks s ds w o c.behind-at.result) (sym (c.nearer-found.ensures ∙ ap (nearer c.loop-at.found) c.first_in_lane-own.ensures))
          (in_goes key lanes ks s order c.stand_sorted.ensures.rising ds shut w head c.loop-at.found c.loop-at.at c.in-Some.is is (c.loop-at.invariant.walk key lanes order shut) c.behind-at.result c.behind-at.ensures);
    }

pub returns : goal.returns
returns c = λ key lanes order shut.
    in_ends key lanes c.args.candidates.now.items c.args.heads.now order c.stand_sorted.ensures.rising c.args.sites.now.items shut c.args.wanted.now c.loop-at.found c.loop-at.at c.in_default.is (c.loop-at.invariant.walk key lanes order shut)
