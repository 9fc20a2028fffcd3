use Rattle.std.proofs.Common.{◌≡◌, ◌∙◌, ap, map, subst, sym}
use Rattle.std.specs.List.{enumerate_from}
use Rattle.q_core.proofs.MessageTies.{messages_stay}
use Rattle.q_core.specs.State.{State}
use Rattle.q_core.proofs.DeadLaws.{held_forgotten}
use Rattle.q_core.proofs.SiteChanges.{sites_forgotten}
use Rattle.q_core.proofs.SiteTies.{counts_of, forgotten_is, used_is}
use Rattle.q_core.proofs.SiteViews.{kept_whole}
use Rattle.q_core.proofs.StillTidyLines.{now_tidy}
use Rattle.q_core.specs.Known.{forgotten, known_records}
use Rattle.q_core.proofs.TurnTies.{served_wait}
use Rattle.q_core.specs.ServedRows.{served_rows}
use Rattle.q_core.specs.Tidied.{tidied_line, tidied_served}
use Rattle.q_core.specs.UsedSites.{forget_in, used_in}
use Rattle.q_dest.specs.Dests.{Dests}
use Rattle.q_pool.specs.Kept.{heads}
use Rattle.q_held.specs.Held.{rows_of}
use Rattle.q_schedule.specs.Schedule.{Scheduling}
use Rattle.q_core.specs.Ties.{AreSuspended}
use Rattle.q_core.proofs.state.Core.tidy.Goals as goal

pub invariant_of-self : goal.invariant_of-self
invariant_of-self c =
    let core = c.self.inside in
    let f = tidied_line (heads core.admitted.items) (rows_of core.waiting.items) in
    let rest = c.forget_oldest.ensures.rest in
    let tidied = c.tidy_touched_lines.ensures in
    let lines = ap (λ (x : Scheduling). x.lines) rest ∙ ap (λ (x : Scheduling). x.lines) tidied in
    let peers = ap (λ (x : Scheduling). x.peers) rest ∙ ap (λ (x : Scheduling). x.peers) tidied in
    let sites : c.forget_oldest.new.sites.items ≡ forgotten c.record_limit-limit.result core.sites.items = ap (λ (x : Dests). x.items) c.forget_oldest.ensures.sites in
    rw (lines, peers, sites) (
      c.self.invariant.0,
      now_tidy (heads core.admitted.items) (rows_of core.waiting.items) core.schedule.lines,
      sites_forgotten (rows_of core.waiting.items) core.flights.items c.record_limit-limit.result core.sites.items c.stand_apart.ensures.apart c.self.invariant.2,
      c.self.invariant.3,
      held_forgotten c.record_limit-limit.result core.sites.items core.waiting.items c.stand_apart.ensures.apart c.self.invariant.2.waiting c.self.invariant.4,
      messages_stay core.params core.schedule (heads core.admitted.items) c.self.invariant.5 _ (ap (λ (x : Scheduling). x.messages) rest ∙ ap (λ (x : Scheduling). x.messages) tidied) (ap (λ (x : Scheduling). x.message_room) rest ∙ ap (λ (x : Scheduling). x.message_room) tidied),
      c.self.invariant.6,
      rw (ap (λ (x : Scheduling). x.room) rest, ap (λ (x : Scheduling). x.line_room) rest, ap (λ (x : Scheduling). x.room) tidied, ap (λ (x : Scheduling). x.line_room) tidied, ap (λ (x : Dests). x.room) c.forget_oldest.ensures.sites) c.self.invariant.7,
      c.self.invariant.8,
      subst (λ es. AreSuspended es c.forget_oldest.new.schedule.suspended) sites (c.forget_oldest.ensures.suspended (subst (AreSuspended core.sites.items) (sym (ap (λ (x : Scheduling). x.suspended) tidied)) c.self.invariant.9)),
    )

pub returns : goal.returns
returns c =
    let core = c.self.inside in
    let rows = rows_of core.waiting.items in
    let fs = core.flights.items in
    let ds = core.sites.items in
    let f = tidied_line (heads core.admitted.items) rows in
    let rest = c.forget_oldest.ensures.rest in
    let lines = ap (λ (x : Scheduling). x.lines) rest ∙ ap (λ (x : Scheduling). x.lines) c.tidy_touched_lines.ensures in
    let peers = ap (λ (x : Scheduling). x.peers) rest ∙ ap (λ (x : Scheduling). x.peers) c.tidy_touched_lines.ensures in
    let counts = counts_of ds rows fs c.stand_apart.ensures.apart c.self.invariant.2 in
    let whole : used_in rows fs (known_records ds) ≡ known_records ds = used_is rows fs ds counts ∙ ap known_records (kept_whole ds c.stand_apart.ensures.kept) in
    let sites : known_records c.forget_oldest.new.sites.items ≡ forget_in rows fs core.params.recipient_limit (used_in rows fs (known_records ds)) =
    ap (λ (x : Dests). known_records x.items) c.forget_oldest.ensures.sites
    ∙ ap (λ n. known_records (forgotten n ds)) c.record_limit-limit.ensures
    ∙ sym (forgotten_is rows fs ds counts core.params.recipient_limit)
    ∙ ap (forget_in rows fs core.params.recipient_limit) (sym whole) in
    record {
      rest = rw (lines, peers) (ap (λ (s : State). record s { lines = map f (enumerate_from 0 core.schedule.lines); served = served_rows core.schedule.peers; sites = known_records c.forget_oldest.new.sites.items }) c.self.view_is);
      lines = lines ∙ ap (λ (s : State). map (tidied_line s.admitted s.waiting) (enumerate_from 0 s.lines)) c.self.view_is;
      served = ap served_rows peers
          ∙ sym (served_wait core.schedule.lines core.schedule.peers rows c.stand_apart-2.ensures.apart c.stand_apart-2.ensures.jobs c.self.invariant.3.counts)
          ∙ ap (λ (s : State). tidied_served s.waiting s.served) c.self.view_is;
      sites = sites ∙ ap (λ (s : State). forget_in s.waiting s.flights s.params.recipient_limit (used_in s.waiting s.flights s.sites)) c.self.view_is;
    }
