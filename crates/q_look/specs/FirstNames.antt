-- The first name of an area, of those that are looked for.
use Rattle.std.specs.Ordering.{nat_cmp}
use Rattle.std.specs.declared.cmp.Ordering.TheVariants.{Less}
use Rattle.std.specs.Cmp.Lexicographic.{slice_cmp}
use Rattle.std.specs.Prelude.{◌++◌, ◌<◌, ◌^◌, ◌≡◌, ◌≤◌, ◌∷◌, Contains, false, IsSome, List, None, Option, Some, ℕ}
use Rattle.q_core.specs.declared.state.Core.{Core}
use Rattle.q_core.specs.Held.{is_admitted_in}
use Rattle.q_host.specs.Reads.{IsAfter}
use Rattle.q_model.specs.declared.id.Id.{Id}
use Rattle.q_model.specs.declared.rows.DeferredName.{DeferredName}
use Rattle.q_model.specs.IdTexts.{due_text, id_text, IsId}

-- which names are looked for, each with the file that it names
abbrev pub Naming : Type 1
Naming = List ℕ → DeferredName → Type 0

-- the name of an id, which says no due time
pub record NamesId (name : List ℕ) (d : DeferredName) : Type 0 where
  pub form : IsId d.id
  pub due : d.due ≡ 0
  pub says : id_text d.id ≡ name

-- the name of an id that isn't in memory
pub record NamesLeftover (core : Core) (name : List ℕ) (d : DeferredName) : Type 0 where
  pub named : NamesId name d
  pub left : is_admitted_in core d.id ≡ false

-- the name of an id with a due time of at most this
pub record NamesDue (until : ℕ) (name : List ℕ) (d : DeferredName) : Type 0 where
  pub form : IsId d.id
  pub digits : d.due < 10 ^ 12
  pub due : d.due ≤ until
  pub says : due_text d.due d.id ≡ name

-- a file has a name behind `after` that is looked for
pub record IsAhead (names : Naming) (f : List ℕ → Option (List ℕ)) (after : Option (List ℕ))
    (name : List ℕ) (d : DeferredName) : Type 0 where
  pub there : IsSome (f name)
  pub behind : IsAfter after name
  pub named : names name d

-- the file has the first such name
pub record IsFirstAt (names : Naming) (f : List ℕ → Option (List ℕ)) (after : Option (List ℕ))
    (d : DeferredName) : Type 0 where
  pub name : List ℕ
  pub ahead : IsAhead names f after name d
  pub none_before : (n : List ℕ) (e : DeferredName) → IsAhead names f after n e
      → slice_cmp nat_cmp n name ≡ Less → ⊥

-- the file of the first such name, or none where there is no such name
abbrev pub IsFirstWanted : Naming → (List ℕ → Option (List ℕ)) → Option (List ℕ)
    → Option DeferredName → Type 0
IsFirstWanted names f after None = (n : List ℕ) (e : DeferredName) → IsAhead names f after n e → ⊥
IsFirstWanted names f after (Some d) = IsFirstAt names f after d

-- some name names the file
abbrev pub IsNamed : Naming → DeferredName → Type 0
IsNamed names d = (n : List ℕ) × names n d

-- none of these names is looked for
abbrev pub HasNone : Naming → List (List ℕ) → Type 0
HasNone names listed = (n : List ℕ) (d : DeferredName) → Contains listed n → names n d → ⊥

-- the first of these names that is looked for is that of this file
pub record IsFirstIn (names : Naming) (listed : List (List ℕ)) (d : DeferredName) : Type 0 where
  pub name : List ℕ
  pub front : List (List ℕ)
  pub back : List (List ℕ)
  pub all : listed ≡ front ++ name ∷ back
  pub named : names name d
  pub none : HasNone names front

-- an id whose numbers have 32 bits each, as every id of the code; either may be 0
pub record IsNumbered (id : Id) : Type 0 where
  pub generation : id.generation < 2 ^ 32
  pub serial : id.serial < 2 ^ 32

-- the name in deferred of the place behind which a scan goes on
abbrev pub IsAfterPlace : Option DeferredName → Option (List ℕ) → Type 0
IsAfterPlace None after = after ≡ None
IsAfterPlace (Some a) after = (after ≡ Some (due_text a.due a.id)) × (a.due < 10 ^ 12)
    × IsNumbered a.id
