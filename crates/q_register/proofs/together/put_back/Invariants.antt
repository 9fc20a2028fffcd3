use Rattle.std.proofs.Common.{◌≡◌, ◌≤◌, ◌+◌, length, take, vec_capacity}
use Rattle.std.specs.HashMap.{spare}
use Rattle.indexmap.specs.IndexMap.{index_map_len}
use Rattle.q_register.specs.Places.{IsPlaced, members_of}
use Rattle.q_register.proofs.together.put_back.Given as goal

abbrev pub invariant-loop-i : goal.invariant-loop-i
invariant-loop-i g l = record {
  placed : IsPlaced g.K.PartialEq.eq l.places.items l.index l.ranks;
  members : members_of l.places.items ≡ take l.i l.kept;
  len : length l.places.items ≡ l.i;
  capacity : vec_capacity l.places ≡ vec_capacity l.initial.places;
  ranks : length l.ranks ≡ length l.initial.ranks;
  fewer : index_map_len l.index ≤ index_map_len l.initial.index + l.i;
  room : index_map_len l.initial.index + spare l.initial.index ≤ index_map_len l.index + spare l.index;
}
