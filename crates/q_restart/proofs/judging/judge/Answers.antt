use Rattle.std.proofs.Common.{subst, sym}
use Rattle.q_restart.specs.Walks.{ArePlaces}
use Rattle.q_restart.proofs.judging.judge.Goals as goal

pub walk_damage-requires-clause-places : goal.walk_damage-requires-clause-places
walk_damage-requires-clause-places c = subst ArePlaces (sym c.deref-2.ensures.value) c.requires.places
