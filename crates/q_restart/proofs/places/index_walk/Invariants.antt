use Rattle.std.proofs.Common.{◌≡◌, [], drop, take}
use Rattle.q_restart.specs.Damages.{repeated_behind}
use Rattle.q_restart.specs.Places.{ArePlacesOf}
use Rattle.q_restart.proofs.places.index_walk.Given as goal

abbrev pub invariant-loop-standing : goal.invariant-loop-standing
invariant-loop-standing l = record {
  places : ArePlacesOf (take l.standing-index l.walk) l.places;
  repeated : repeated_behind (take l.standing-index l.walk) (drop l.standing-index l.walk) ≡ repeated_behind [] l.walk;
}
