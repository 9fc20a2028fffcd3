use Rattle.std.proofs.Common.{ap}
use Rattle.q_heads.specs.Lanes.{Lanes}
use Rattle.q_turns.proofs.HeadLaws.{laned_alike}
use Rattle.q_turns.proofs.PlacedAnew.{placed_elsewhere}
use Rattle.q_turns.proofs.moving.place_anew.Goals as goal

pub put_all_in-requires-clause-laned : goal.put_all_in-requires-clause-laned
put_all_in-requires-clause-laned c =
    laned_alike c.args.lanes.now.items c.args.heads.now c.take_all_out.new.heads (ap (λ (s : Lanes). s.lanes) c.take_all_out.ensures.rest) (ap (λ (s : Lanes). s.classes) c.take_all_out.ensures.rest) c.requires.laned

pub put_all_in-requires-clause-placed : goal.put_all_in-requires-clause-placed
put_all_in-requires-clause-placed c =
    placed_elsewhere c.args.transport c.args.lanes.now.items c.args.peers.now.items c.args.heads.now c.stand_apart.ensures.apart c.requires.laned c.args.lines.now.items c.take_all_out.new.heads.items c.requires.elsewhere c.take_all_out.ensures.gone
