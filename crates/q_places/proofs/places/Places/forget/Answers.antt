use Rattle.q_places.proofs.KeptLaws.{fewer_without}
use Rattle.q_places.proofs.places.Places.forget.Goals as goal

pub returns-clause-rest : goal.returns-clause-rest
returns-clause-rest c = fewer_without c.args.self.now (record { files = c.remove.new.self }) c.args.id c.remove.ensures.updates.0
