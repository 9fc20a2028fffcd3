-- What the calls that read answer: names in order, and bytes.
use Rattle.std.specs.Prelude.{◌≡◌, ◌≤◌, ◌⊎◌, ◌-◌, min, ℕ, List, [], ◌∷◌, length, take, drop, Option, Some, None, IfSome, IsSome, Contains}
use Rattle.std.specs.Ordering.{nat_cmp}
use Rattle.std.specs.declared.cmp.Ordering.TheVariants.{Less}
use Rattle.std.specs.Cmp.Lexicographic.{slice_cmp}
use Rattle.q_model.specs.declared.spot.Area.{Area}
use Rattle.q_host.specs.View.{View}

-- a name stands after another in the order of bytes; every name stands after none
abbrev pub IsAfter : Option (List ℕ) → List ℕ → Type 0
IsAfter None n = Unit {0}
IsAfter (Some m) n = slice_cmp nat_cmp m n ≡ Less

-- each name stands after the one before it, and the first after this one
abbrev pub Rise : Option (List ℕ) → List (List ℕ) → Type 0
Rise after [] = Unit {0}
Rise after (n ∷ ns) = IsAfter after n × Rise (Some n) ns

-- the names are 64, and this one stands behind each of them
abbrev pub IsBehindAll : List (List ℕ) → List ℕ → Type 0
IsBehindAll names n = (64 ≤ length names) × ((m : List ℕ) → Contains names m → slice_cmp nat_cmp m n ≡ Less)

-- the least names of an area after one, in order: 64 of them, or all
pub record IsListing {X : Type 0} (f : List ℕ → Option X) (after : Option (List ℕ)) (names : List (List ℕ))
    : Type 0 where
  pub rise : Rise after names
  pub there : (n : List ℕ) → Contains names n → IsSome (f n)
  pub none_left_out : (n : List ℕ) → IsSome (f n) → IsAfter after n → Contains names n ⊎ IsBehindAll names n

-- a file of the place has this many bytes
abbrev pub IsSize : View → Area → List ℕ → ℕ → Type 0
IsSize v a n size = IfSome (v.files a n) (λ file. size ≡ length file)

-- what a read from an offset on puts into a buffer: this many bytes of the file, and the buffer's rest stays
pub record IsRead (file : List ℕ) (at : ℕ) (old new : List ℕ) (n : ℕ) : Type 0 where
  pub count : n ≡ min (length old) (length file - at)
  pub bytes : take n new ≡ take n (drop at file)
  pub rest : drop n new ≡ drop n old

-- this many bytes of the place's file, from an offset on, were put into a buffer
abbrev pub IsPart : View → Area → List ℕ → ℕ → List ℕ → List ℕ → ℕ → Type 0
IsPart v a n at old new count = IfSome (v.files a n) (λ file. IsRead file at old new count)
