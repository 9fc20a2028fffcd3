use Rattle.std.proofs.Common.{◌≡◌, ◌≤◌, ◌∙◌, ap, false, map, refl, subst, sym}
use Rattle.std.specs.Option.{option_map_or}
use Rattle.std.specs.Prelude.{find}
use Rattle.q_core.proofs.DeadLaws.{turned_at}
use Rattle.q_core.proofs.DeadRows.{tested_step}
use Rattle.q_model.specs.Sites.{site_eq}
use Rattle.q_core.proofs.SiteChanges.{sites_heard}
use Rattle.q_core.proofs.SiteViews.{heard_known}
use Rattle.q_core.specs.Known.{known_records}
use Rattle.q_core.specs.Leaving.{heard_at}
use Rattle.q_core.specs.State.{State}
use Rattle.q_core.specs.Ties.{AreSuspended, goes_to_dead, rest_at}
use Rattle.q_core.specs.UsedSites.{busy_in}
use Rattle.q_dest.proofs.Hearing.{heard_in_site}
use Rattle.q_dest.specs.Dests.{changed_at, Dests, heard, is_at, is_dead}
use Rattle.q_held.specs.Held.{rows_of}
use Rattle.q_core.proofs.MessageTies.{messages_stay}
use Rattle.q_core.proofs.SuspendedLaws.{rest_others}
use Rattle.q_pool.specs.Kept.{heads}
use Rattle.q_schedule.specs.Schedule.{Scheduling}
use Rattle.q_core.proofs.state.Core.hear_site.Goals as goal

pub hear-requires-clause-busy : goal.hear-requires-clause-busy
hear-requires-clause-busy c =
    subst (λ n. 1 ≤ n) (ap (λ (s : State). busy_in s.flights c.args.site.now) (sym c.self.view_is) ∙ sym (c.self.invariant.2.busy c.args.site.now)) c.requires

pub invariant_of-self : goal.invariant_of-self
invariant_of-self c =
    let core = c.self.inside in
    let site = c.args.site.now in
    let ds = core.sites.items in
    let change = heard core.params core.clock.seconds c.args.state in
    let dead = c.is_dead-is_dead.result in
    let sites : c.hear.new.self.items ≡ map (changed_at site change) ds = ap (λ (x : Dests). x.items) c.hear.ensures in
    let is : dead ≡ option_map_or is_dead (find (is_at site) (map (changed_at site change) ds)) false = c.is_dead-is_dead.ensures ∙ ap (λ es. option_map_or is_dead (find (is_at site) es) false) sites in
    let rest = c.suspend_at.ensures.rest in
    rw (sites, c.hold_at.ensures.rows, ap (λ (x : Scheduling). x.lines) rest, ap (λ (x : Scheduling). x.peers) rest) (
      c.self.invariant.0,
      c.self.invariant.1,
      sites_heard (rows_of core.waiting.items) core.flights.items core.params site core.clock.seconds c.args.state ds c.self.invariant.2,
      c.self.invariant.3,
      c.hold_at.ensures.held (goes_to_dead ds) (goes_to_dead (map (changed_at site change) ds))
          (λ r. tested_step ds site c.is_dead-was_dead.result r (site_eq r.site site) refl c.is_dead-was_dead.ensures)
          (turned_at site change (λ d. heard_in_site core.params d.busy core.clock.seconds c.args.state d.known) ds dead is) c.self.invariant.4,
      messages_stay core.params core.schedule (heads core.admitted.items) c.self.invariant.5 _ (ap (λ (x : Scheduling). x.messages) rest) (ap (λ (x : Scheduling). x.message_room) rest),
      c.self.invariant.6,
      rw (ap (λ (x : Dests). x.room) c.hear.ensures, c.hold_at.ensures.room, ap (λ (x : Scheduling). x.room) rest, ap (λ (x : Scheduling). x.line_room) rest) c.self.invariant.7,
      rw c.hold_at.ensures.most c.self.invariant.8,
      subst (λ es. AreSuspended es c.suspend_at.new.schedule.suspended) sites
          (c.suspend_at.ensures.tied ds (λ s other. ap (λ es. rest_at es s) sites ∙ rest_others site change (λ d. heard_in_site core.params d.busy core.clock.seconds c.args.state d.known) ds s other) c.self.invariant.9),
    )

pub returns : goal.returns
returns c =
    let core = c.self.inside in
    record {
      rest = rw (c.hold_at.ensures.rows, ap (λ (x : Scheduling). x.lines) c.suspend_at.ensures.rest, ap (λ (x : Scheduling). x.peers) c.suspend_at.ensures.rest) (ap (λ (s : State). record s { sites = known_records c.hear.new.self.items }) c.self.view_is);
      sites = ap (λ (x : Dests). known_records x.items) c.hear.ensures
          ∙ heard_known (rows_of core.waiting.items) core.flights.items core.sites.items c.stand_apart.ensures.apart c.self.invariant.2 core.params c.args.site.now core.clock.seconds c.args.state
          ∙ ap (λ (s : State). map (heard_at s.params c.args.site.now (busy_in s.flights c.args.site.now) s.clock.seconds c.args.state) s.sites) c.self.view_is;
    }
