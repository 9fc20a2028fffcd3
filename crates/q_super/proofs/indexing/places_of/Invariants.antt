use Rattle.std.proofs.Common.{take}
use Rattle.q_super.specs.FoundPlaces.{ArePlacesOf}
use Rattle.q_super.proofs.indexing.places_of.Given as goal

abbrev pub invariant-loop-file : goal.invariant-loop-file
invariant-loop-file l = record {
  places : ArePlacesOf (take l.file-index l.files) l.places;
}
