use Rattle.std.proofs.Common.{◌∙◌, ◌==◌}
use Rattle.std.specs.Prelude.{◌&&◌}
use Rattle.q_core.proofs.PeerTies.{any_peer}
use Rattle.q_model.specs.Ids.{id_eq}
use Rattle.q_held.specs.Held.{rows_of}
use Rattle.q_rounds.specs.declared.peer.PeerKey.{PeerKey}
use Rattle.q_core.proofs.tidy.leave_line.Goals as goal

pub leave-requires-clause-done : goal.leave-requires-clause-done
leave-requires-clause-done c =
    let schedule = c.args.schedule.now in
    any_peer schedule.lines schedule.peers (rows_of c.args.waiting.now.items) c.stand_apart.ensures.apart c.stand_apart.ensures.jobs c.requires.tied (λ (k : PeerKey). id_eq k.id c.args.id && (k.site.transport == c.args.transport))
    ∙ c.requires.done
