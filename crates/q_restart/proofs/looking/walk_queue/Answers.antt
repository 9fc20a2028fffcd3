use Rattle.q_restart.proofs.Standings.{places-added}
use Rattle.q_restart.proofs.looking.walk_queue.Goals as goal

pub returns-clause-places : goal.returns-clause-places
returns-clause-places g c places = places-added c.args.area _ c.args.walk.now.items c.add_standings.new.walk.items c.in_ok-add_standings.ensures places
