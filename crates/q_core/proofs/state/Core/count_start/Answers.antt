use Rattle.std.proofs.Common.{◌∙◌, ap, map}
use Rattle.std.specs.List.{enumerate_from}
use Rattle.q_core.proofs.MessageTies.{messages_stay}
use Rattle.q_core.proofs.StillTidyLines.{start_counted}
use Rattle.q_core.specs.Sending.{started_line}
use Rattle.q_core.specs.State.{State}
use Rattle.q_model.specs.Values.{Site}
use Rattle.q_schedule.specs.Schedule.{Scheduling}
use Rattle.q_pool.specs.Kept.{heads}
use Rattle.q_core.proofs.state.Core.count_start.Goals as goal

pub invariant_of-self : goal.invariant_of-self
invariant_of-self c =
    let lines = ap (λ (x : Scheduling). x.lines) c.count_start.ensures in
    let peers = ap (λ (x : Scheduling). x.peers) c.count_start.ensures in
    rw (lines, peers) (c.self.invariant.0, start_counted c.args.id _ c.self.invariant.1, c.self.invariant.2, c.self.invariant.3, c.self.invariant.4, messages_stay c.self.inside.params c.self.inside.schedule (heads c.self.inside.admitted.items) c.self.invariant.5 _ (ap (λ (x : Scheduling). x.messages) c.count_start.ensures) (ap (λ (x : Scheduling). x.message_room) c.count_start.ensures), c.self.invariant.6, rw (ap (λ (x : Scheduling). x.room) c.count_start.ensures, ap (λ (x : Scheduling). x.line_room) c.count_start.ensures) c.self.invariant.7, c.self.invariant.8, rw (ap (λ (x : Scheduling). x.suspended) c.count_start.ensures) c.self.invariant.9)

pub returns : goal.returns
returns c =
    let f = started_line c.args.id c.site.inside.transport in
    let lines = ap (λ (x : Scheduling). x.lines) c.count_start.ensures in
    let peers = ap (λ (x : Scheduling). x.peers) c.count_start.ensures in
    record {
      rest = rw (lines, peers) (ap (λ (s : State). record s { lines = map f (enumerate_from 0 c.self.inside.schedule.lines) }) c.self.view_is);
      lines = lines ∙ ap (λ (s : State). map f (enumerate_from 0 s.lines)) c.self.view_is
          ∙ ap (λ (x : Site). map (started_line c.args.id x.transport) (enumerate_from 0 c.args.self.now.lines)) c.site.view_is;
    }
