use Rattle.std.proofs.Common.{◌∙◌, ap, map}
use Rattle.std.specs.List.{enumerate_from}
use Rattle.q_core.proofs.MessageTies.{messages_stay}
use Rattle.q_core.proofs.StillTidyLines.{job_moved}
use Rattle.q_core.specs.Sending.{preempted_line}
use Rattle.q_core.specs.State.{State}
use Rattle.q_schedule.specs.Schedule.{Scheduling}
use Rattle.q_turns.specs.Turns.{has_job}
use Rattle.q_pool.specs.Kept.{heads}
use Rattle.q_core.proofs.state.Core.move_job.Goals as goal

pub preempt-requires-clause-parent : goal.preempt-requires-clause-parent
preempt-requires-clause-parent c = ap (λ (s : State). has_job s.lines c.args.transport c.args.parent) c.self.view_is ∙ c.requires.parent

pub invariant_of-self : goal.invariant_of-self
invariant_of-self c =
    let lines = ap (λ (x : Scheduling). x.lines) c.preempt.ensures in
    let peers = ap (λ (x : Scheduling). x.peers) c.preempt.ensures in
    rw (lines, peers) (c.self.invariant.0, job_moved c.args.child c.args.parent c.args.transport c.args.need c.args.left c.self.invariant.1, c.self.invariant.2, c.self.invariant.3, c.self.invariant.4, messages_stay c.self.inside.params c.self.inside.schedule (heads c.self.inside.admitted.items) c.self.invariant.5 _ (ap (λ (x : Scheduling). x.messages) c.preempt.ensures) (ap (λ (x : Scheduling). x.message_room) c.preempt.ensures), c.self.invariant.6, rw (ap (λ (x : Scheduling). x.room) c.preempt.ensures, ap (λ (x : Scheduling). x.line_room) c.preempt.ensures) c.self.invariant.7, c.self.invariant.8, rw (ap (λ (x : Scheduling). x.suspended) c.preempt.ensures) c.self.invariant.9)

pub returns : goal.returns
returns c =
    let f = preempted_line c.args.child c.args.parent c.args.transport c.args.need c.args.left in
    let lines = ap (λ (x : Scheduling). x.lines) c.preempt.ensures in
    let peers = ap (λ (x : Scheduling). x.peers) c.preempt.ensures in
    record {
      rest = rw (lines, peers) (ap (λ (s : State). record s { lines = map f (enumerate_from 0 c.self.inside.schedule.lines) }) c.self.view_is);
      lines = lines ∙ ap (λ (s : State). map f (enumerate_from 0 s.lines)) c.self.view_is;
    }
