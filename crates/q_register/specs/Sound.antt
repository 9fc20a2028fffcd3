-- What always holds of a register.
use Rattle.std.specs.Prelude.{◌≡◌, ◌+◌, ◌/◌, ◌<◌, ◌≤◌, ◌^◌, [], Bool, length, List, Option, Vec, ℕ, vec_capacity}
use Rattle.std.specs.HashMap.{spare}
use Rattle.std.specs.declared.alloc.Global.{Global}
use Rattle.indexmap.specs.IndexMap.{IndexMap, index_map_len}
use Rattle.q_register.specs.Places.{IsPlaced, members_of}
use Rattle.q_register.specs.declared.member.Member.{Member}

-- how many places there are for so many members
abbrev pub places_for : ℕ → ℕ
places_for room = room + room / 2

module _ {K T S : Type 0} where
  pub record IsSound (eq : K → K → Bool) (places : Vec (Option (Member K T)) Global)
      (index : IndexMap K ℕ S) (ranks : List ℕ) (together : Vec (Member K T) Global)
      (live room : ℕ) : Type 0 where
    pub placed : IsPlaced eq places.items index ranks
    pub few : room < 2 ^ 31
    pub ranked : length ranks ≡ places_for room
    pub inside : length places.items ≤ places_for room
    pub count : live ≡ length (members_of places.items)
    pub within : live ≤ room
    pub capacity : places_for room ≤ vec_capacity places
    pub fewer : index_map_len index ≤ length places.items
    pub spare : places_for room ≤ index_map_len index + spare index
    pub kept : together.items ≡ []
    pub room_kept : room ≤ vec_capacity together
