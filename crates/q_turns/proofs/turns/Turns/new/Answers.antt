use Rattle.std.proofs.Common.{◌∙◌, ◌<◌, [], ◌^◌, ap, arith, replicate, subst, sym}
use Rattle.q_keyed.specs.Numbered.{Items}
use Rattle.q_turns.proofs.LineSets.{empty_line, jobs_empty}
use Rattle.q_turns.proofs.TurnSteps.{sound_empty, sound_from}
use Rattle.q_turns.proofs.TurnViews.{lines_with, turning}
use Rattle.q_rounds.specs.declared.peer.Peer.{Peer}
use Rattle.q_suspended.specs.Suspensions.{Suspensions}
use Rattle.q_turns.specs.Sound.{IsSound}
use Rattle.q_turns.proofs.turns.Turns.new.Goals as goal

pub invariant_of-result : goal.invariant_of-result
invariant_of-result c =
    let few : c.args.transports < 2 ^ 8 = omega arith in
    subst (λ ls. IsSound ls c.in_ok-peers.peers c.in_ok-lanes.lanes c.in_ok-heads.heads c.in_ok-messages.messages c.in_ok-suspended.suspended c.args.line_room) (sym c.in_ok-lines.ensures)
    (sound_from (replicate c.args.transports (empty_line c.args.line_room)) _ c.in_ok-peers.peers _ c.in_ok-lanes.lanes _ c.in_ok-heads.heads _ c.in_ok-messages.messages c.in_ok-suspended.suspended c.args.line_room c.in_ok-peers.ensures c.in_ok-lanes.ensures c.in_ok-heads.ensures c.in_ok-messages.ensures
    (sound_empty c.args.transports c.args.line_room c.args.room c.in_ok-suspended.suspended few))

pub returns : goal.returns
returns c =
    ap (λ ls. turning ls c.in_ok-peers.peers c.in_ok-suspended.suspended c.args.line_room) c.in_ok-lines.ensures
    ∙ ap (λ (v : Items Peer). turning (replicate c.args.transports (empty_line c.args.line_room)) v c.in_ok-suspended.suspended c.args.line_room) c.in_ok-peers.ensures
    ∙ ap (λ (s : Suspensions). turning (replicate c.args.transports (empty_line c.args.line_room)) (record { items = []; room = c.args.room }) s c.args.line_room) c.in_ok-suspended.ensures
    ∙ ap (λ ls. lines_with ls c.args.line_room c.args.room c.args.suspended_room) (jobs_empty c.args.line_room c.args.transports)
