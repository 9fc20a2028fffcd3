use Rattle.std.proofs.Common.{◌∙◌, ap, inl, refl, subst}
use Rattle.std.specs.Prelude.{find}
use Rattle.q_rounds.proofs.TicketWalk.{walks_smaller}
use Rattle.q_rounds.specs.Listing.{AreTickets}
use Rattle.q_sorted.specs.Tickets.{goes_before, Tickets}
use Rattle.q_candidates.specs.Filing.{site_at}
use Rattle.q_candidates.proofs.SiteWalk.{from_goes, walk_begins, walk_ends, walk_goes, walk_past}
use Rattle.q_candidates.proofs.index.Index.set_suspended.Goals as goal

pub loop-at-init : goal.loop-at-init
loop-at-init c =
    let i = c.args.self.now in
    record {
      laid = c.requires;
      room = refl;
      sites = refl;
      filed = λ ks filed. filed;
      from = λ n l h. inl h;
      walk = walk_begins c.args.site.now c.args.suspended i.lanes.items c.site_hash-bucket.result i.sites.items c.first_of-at.result c.first_of-at.ensures.rising c.first_of-at.ensures.is;
    }

pub returns-then-ticket-bucket-clause-set : goal.returns-then-ticket-bucket-clause-set
returns-then-ticket-bucket-clause-set c =
    let i = c.args.self.now in
    let inv = c.loop-at.invariant in
    let lanes = c.loop-at.self.lanes.items in
    walk_past c.args.site.now c.args.suspended lanes i.sites.items c.site_hash-bucket.result c.site_hash-bucket.ensures (subst (λ (w : Tickets). AreTickets (site_at lanes) w.items) inv.sites inv.laid.sited)
    i.lanes.items c.loop-at.at c.in-Some.ticket c.first_of-at.ensures.rising c.in-Some.is c.if-ticket-bucket.true inv.walk inv.from

pub loop-at-smaller : goal.loop-at-smaller
loop-at-smaller c =
    let i = c.args.self.now in
    let inv = c.loop-at.invariant in
    walks_smaller i.sites.items c.in-Some.ticket c.loop-at.at c.behind-at.result c.in-Some.is
    (c.behind-at.ensures.is ∙ ap (λ (w : Tickets). find (goes_before c.in-Some.ticket) w.items) (c.set_lane.ensures.sites ∙ inv.sites))

pub loop-at-preserved : goal.loop-at-preserved
loop-at-preserved c =
    let i = c.args.self.now in
    let site = c.args.site.now in
    let b = c.args.suspended in
    let inv = c.loop-at.invariant in
    let e = c.in-Some.ticket in
    let old = c.loop-at.self.lanes.items in
    let new = c.set_lane.new.self.lanes.items in
    let set = c.set_lane.ensures.set in
    record {
      laid = c.set_lane.ensures.laid;
      room = c.set_lane.ensures.room ∙ inv.room;
      sites = c.set_lane.ensures.sites ∙ inv.sites;
      filed = λ ks filed. c.set_lane.ensures.filed ks (inv.filed ks filed);
      from = from_goes site b old new e.item set i.lanes.items inv.from;
      walk = walk_goes site b old new c.site_hash-bucket.result i.sites.items e c.loop-at.at c.behind-at.result c.first_of-at.ensures.rising c.in-Some.is inv.walk set
          (c.behind-at.ensures.is ∙ ap (λ (w : Tickets). find (goes_before e) w.items) (c.set_lane.ensures.sites ∙ inv.sites));
    }

pub returns-clause-set : goal.returns-clause-set
returns-clause-set c =
    let i = c.args.self.now in
    let inv = c.loop-at.invariant in
    let lanes = c.loop-at.self.lanes.items in
    walk_ends c.args.site.now c.args.suspended lanes i.sites.items c.site_hash-bucket.result c.site_hash-bucket.ensures (subst (λ (w : Tickets). AreTickets (site_at lanes) w.items) inv.sites inv.laid.sited)
    i.lanes.items c.loop-at.at c.in_default.is inv.walk inv.from
