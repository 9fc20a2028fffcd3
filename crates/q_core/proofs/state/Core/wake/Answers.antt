use Rattle.std.proofs.Common.{◌≡◌, ◌∙◌, ap, filter, map, refl, subst, sym, true}
use Rattle.q_core.proofs.SiteChanges.{sites_kept}
use Rattle.q_core.proofs.SiteViews.{due_apart, due_tied, due_used}
use Rattle.q_core.specs.Changes.{woken_by}
use Rattle.q_core.specs.Known.{known_records}
use Rattle.q_core.specs.State.{State}
use Rattle.q_core.specs.Ties.{goes_to_dead}
use Rattle.q_core.specs.UsedSites.{wake_due_in, used_in}
use Rattle.q_dest.specs.Dests.{Dests, is_kept, woken_when_due}
use Rattle.q_held.specs.Held.{AreHeldBy, rows_of}
use Rattle.q_core.proofs.MessageTies.{messages_stay}
use Rattle.q_core.proofs.SuspendedLaws.{suspended_woken}
use Rattle.q_dest.proofs.Hearing.{woken_due_site}
use Rattle.q_pool.specs.Kept.{heads}
use Rattle.q_schedule.specs.Schedule.{Scheduling}
use Rattle.q_core.proofs.state.Core.wake.Goals as goal

pub hold_dead-requires : goal.hold_dead-requires
hold_dead-requires c =
    let core = c.self.inside in
    let rows = rows_of core.waiting.items in
    let fs = core.flights.items in
    let ds = core.sites.items in
    let apart = c.stand_apart.ensures.apart in
    let tie = c.self.invariant.2 in
    let p = core.params in
    let sites : c.wake_due.new.self.items ≡ filter is_kept (map (woken_when_due p c.args.moment) ds) = ap (λ (x : Dests). x.items) c.wake_due.ensures in
    rw sites (sites_kept rows fs (map (woken_when_due p c.args.moment) ds) (due_apart rows fs ds apart tie p c.args.moment) (due_tied rows fs ds apart tie p c.args.moment)).waiting

pub invariant_of-self : goal.invariant_of-self
invariant_of-self c =
    let core = c.self.inside in
    let rows = rows_of core.waiting.items in
    let fs = core.flights.items in
    let ds = core.sites.items in
    let apart = c.stand_apart.ensures.apart in
    let tie = c.self.invariant.2 in
    let p = core.params in
    let sites : c.wake_due.new.self.items ≡ filter is_kept (map (woken_when_due p c.args.moment) ds) = ap (λ (x : Dests). x.items) c.wake_due.ensures in
    let resumed = c.resume_due.ensures in
    rw (sites, c.hold_dead.ensures.rows, ap (λ (x : Scheduling). x.lines) resumed, ap (λ (x : Scheduling). x.peers) resumed) (
      c.self.invariant.0,
      c.self.invariant.1,
      sites_kept rows fs (map (woken_when_due p c.args.moment) ds) (due_apart rows fs ds apart tie p c.args.moment) (due_tied rows fs ds apart tie p c.args.moment),
      c.self.invariant.3,
      subst (λ es. AreHeldBy (goes_to_dead es) c.hold_dead.new.waiting.items) sites c.hold_dead.ensures.held,
      messages_stay core.params core.schedule (heads core.admitted.items) c.self.invariant.5 _ (ap (λ (x : Scheduling). x.messages) resumed) (ap (λ (x : Scheduling). x.message_room) resumed),
      c.self.invariant.6,
      rw (ap (λ (x : Dests). x.room) c.wake_due.ensures, c.hold_dead.ensures.room, ap (λ (x : Scheduling). x.room) resumed, ap (λ (x : Scheduling). x.line_room) resumed) c.self.invariant.7,
      rw c.hold_dead.ensures.most c.self.invariant.8,
      rw (ap (λ (x : Scheduling). x.suspended) resumed) (suspended_woken p c.args.moment (woken_due_site p c.args.moment) ds apart core.schedule.suspended c.self.invariant.9),
    )

pub returns-clause-woken : goal.returns-clause-woken
returns-clause-woken c = record {
  rest = rw (c.hold_dead.ensures.rows, ap (λ (x : Scheduling). x.lines) c.resume_due.ensures, ap (λ (x : Scheduling). x.peers) c.resume_due.ensures) (ap (λ (s : State). record s { clock = record { seconds = c.new-self-inside.result.seconds }; timed = true; sites = woken_by c.args.moment c.args.self.now }) c.self.view_is);
  seconds = c.new-self-inside.ensures;
  sites = refl;
}

pub returns-clause-used : goal.returns-clause-used
returns-clause-used c =
    let core = c.self.inside in
    let rows = rows_of core.waiting.items in
    let fs = core.flights.items in
    ap (λ (x : Dests). known_records x.items) c.wake_due.ensures
    ∙ due_used rows fs core.sites.items c.stand_apart.ensures.apart c.self.invariant.2 core.params c.args.moment
    ∙ ap (λ (s : State). used_in rows fs (map (wake_due_in s.params s.flights c.args.moment) s.sites)) c.self.view_is
    ∙ ap (λ rs. used_in rs fs (map (wake_due_in c.args.self.now.params c.args.self.now.flights c.args.moment) c.args.self.now.sites)) (sym c.hold_dead.ensures.rows)
