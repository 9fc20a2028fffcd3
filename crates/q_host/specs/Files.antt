-- The files of a host: for each area and name the bytes that a read gives, where a file stands there.
use Rattle.std.specs.Prelude.{◌≡◌, ◌+◌, ℕ, Bool, ◌&&◌, nat_eq, if◌then◌else◌, List, ◌++◌, length, take, drop, Option, Some, None, is_some}
use Rattle.std.specs.Cmp.Lexicographic.{pointwise}
use Rattle.q_model.specs.SpoolFiles.{Files}
use Rattle.q_model.specs.declared.spot.Area.{Area}
use Rattle.q_model.specs.declared.spot.Area.TheVariants.{Boot, Conf, Tmp, Incoming, Active, Deferred, Hold, Corrupt, Bounce, Defer}

-- something for each area and name, or nothing
abbrev pub Placed : Type 0 → Type 0
Placed X = Area → List ℕ → Option X

-- the areas, numbered
abbrev pub area_number : Area → ℕ
area_number Boot = 0
area_number Conf = 1
area_number Tmp = 2
area_number Incoming = 3
area_number Active = 4
area_number Deferred = 5
area_number Hold = 6
area_number Corrupt = 7
area_number Bounce = 8
area_number Defer = 9

-- whether two places are one
unfoldable pub same_place : Area → List ℕ → Area → List ℕ → Bool
same_place a n b m = nat_eq (area_number a) (area_number b) && pointwise nat_eq n m

-- the same with something else at one place
unfoldable pub put : {X : Type 0} → Placed X → Area → List ℕ → Option X → Placed X
put f a n x = λ b m. if same_place a n b m then x else f b m

-- files stand at the same places in both
abbrev pub SameNames : Files → Files → Type 0
SameNames f g = (a : Area) (n : List ℕ) → is_some (g a n) ≡ is_some (f a n)

-- a file of these bytes stands at the place
abbrev pub with_file : Files → Area → List ℕ → List ℕ → Files
with_file f a n bytes = put f a n (Some bytes)

-- no file stands at the place
abbrev pub without_file : Files → Area → List ℕ → Files
without_file f a n = put f a n None

-- the file of one place stands at another
abbrev pub moved : Files → Area → List ℕ → Area → List ℕ → Files
moved f a n b m = put (without_file f a n) b m (f a n)

-- the bytes with others over them, from an offset on
abbrev pub written : ℕ → List ℕ → List ℕ → List ℕ
written at over bytes = take at bytes ++ over ++ drop (at + length over) bytes
