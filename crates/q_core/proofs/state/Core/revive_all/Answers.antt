use Rattle.std.proofs.Common.{◌≡◌, ◌∙◌, ap, filter, map, refl, subst, sym}
use Rattle.q_core.proofs.SiteChanges.{sites_kept}
use Rattle.q_core.proofs.SiteViews.{dead_apart, dead_tied, dead_used}
use Rattle.q_core.specs.Changes.{all_revived}
use Rattle.q_core.specs.Known.{known_records}
use Rattle.q_core.specs.State.{State}
use Rattle.q_core.specs.Ties.{goes_to_dead}
use Rattle.q_core.specs.UsedSites.{revive_dead_in, used_in}
use Rattle.q_dest.specs.Dests.{Dests, is_kept, revived_when_dead}
use Rattle.q_held.specs.Held.{AreHeldBy, rows_of}
use Rattle.q_core.proofs.SuspendedLaws.{rest_revived, suspended_same}
use Rattle.q_core.proofs.state.Core.revive_all.Goals as goal

pub hold_dead-requires : goal.hold_dead-requires
hold_dead-requires c =
    let core = c.self.inside in
    let rows = rows_of core.waiting.items in
    let fs = core.flights.items in
    let ds = core.sites.items in
    let apart = c.stand_apart.ensures.apart in
    let tie = c.self.invariant.2 in
    let p = core.params in
    let sites : c.revive_all.new.self.items ≡ filter is_kept (map (revived_when_dead p) ds) = ap (λ (x : Dests). x.items) c.revive_all.ensures in
    rw sites (sites_kept rows fs (map (revived_when_dead p) ds) (dead_apart rows fs ds apart tie p) (dead_tied rows fs ds apart tie p)).waiting

pub invariant_of-self : goal.invariant_of-self
invariant_of-self c =
    let core = c.self.inside in
    let rows = rows_of core.waiting.items in
    let fs = core.flights.items in
    let ds = core.sites.items in
    let apart = c.stand_apart.ensures.apart in
    let tie = c.self.invariant.2 in
    let p = core.params in
    let sites : c.revive_all.new.self.items ≡ filter is_kept (map (revived_when_dead p) ds) = ap (λ (x : Dests). x.items) c.revive_all.ensures in
    rw (sites, c.hold_dead.ensures.rows) (
      c.self.invariant.0,
      c.self.invariant.1,
      sites_kept rows fs (map (revived_when_dead p) ds) (dead_apart rows fs ds apart tie p) (dead_tied rows fs ds apart tie p),
      c.self.invariant.3,
      subst (λ es. AreHeldBy (goes_to_dead es) c.hold_dead.new.waiting.items) sites c.hold_dead.ensures.held,
      c.self.invariant.5,
      c.self.invariant.6,
      rw (ap (λ (x : Dests). x.room) c.revive_all.ensures, c.hold_dead.ensures.room) c.self.invariant.7,
      rw c.hold_dead.ensures.most c.self.invariant.8,
      suspended_same ds (filter is_kept (map (revived_when_dead p) ds)) core.schedule.suspended (rest_revived p ds apart) c.self.invariant.9,
    )

pub returns-clause-revived : goal.returns-clause-revived
returns-clause-revived c = record {
  rest = rw c.hold_dead.ensures.rows (ap (λ (s : State). record s { sites = all_revived c.args.self.now }) c.self.view_is);
  sites = refl;
}

pub returns-clause-used : goal.returns-clause-used
returns-clause-used c =
    let core = c.self.inside in
    let rows = rows_of core.waiting.items in
    let fs = core.flights.items in
    ap (λ (x : Dests). known_records x.items) c.revive_all.ensures
    ∙ dead_used rows fs core.sites.items c.stand_apart.ensures.apart c.self.invariant.2 core.params
    ∙ ap (λ (s : State). used_in rows fs (map (revive_dead_in s.params s.flights) s.sites)) c.self.view_is
    ∙ ap (λ rs. used_in rs fs (map (revive_dead_in c.args.self.now.params c.args.self.now.flights) c.args.self.now.sites)) (sym c.hold_dead.ensures.rows)
