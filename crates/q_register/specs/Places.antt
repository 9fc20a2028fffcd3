-- How the members stand in places.
use Rattle.std.specs.Prelude.{◌≡◌, ◌<◌, ◌≤◌, [], Bool, length, List, None, Option, replicate, slice_get, Some, suc, true, zero, ℕ, ◌∷◌}
use Rattle.std.specs.HashMap.{get}
use Rattle.indexmap.specs.IndexMap.{IndexMap}
use Rattle.q_register.specs.declared.member.Member.{Member}
use Rattle.q_register.specs.declared.index.Found.{Found}
use Rattle.q_register.specs.Members.{no_rank}

module _ {K T : Type 0} where
  -- the members in order, without the places that are empty
  abbrev pub members_of : List (Option (Member K T)) → List (Member K T)
  members_of [] = []
  members_of (None ∷ xs) = members_of xs
  members_of (Some e ∷ xs) = e ∷ members_of xs

  abbrev pub rank_of : Option (Member K T) → ℕ
  rank_of None = no_rank
  rank_of (Some e) = e.rank

  -- the ranks of n places, of which these are the first and the others are empty
  abbrev pub ranks_of : ℕ → List (Option (Member K T)) → List ℕ
  ranks_of n [] = replicate n no_rank
  ranks_of zero (x ∷ xs) = []
  ranks_of (suc n) (x ∷ xs) = rank_of x ∷ ranks_of n xs

  -- what stands at a place, if the place is there
  abbrev pub standing : Option (Option (Member K T)) → Option (Member K T)
  standing None = None
  standing (Some x) = x

  -- the member stands at this place
  abbrev pub StandsAt : List (Option (Member K T)) → ℕ → Member K T → Type 0
  StandsAt xs p e = slice_get xs p ≡ Some (Some e)

  -- no member stands under the key
  abbrev pub IsAbsent : (K → K → Bool) → K → List (Option (Member K T)) → Type 0
  IsAbsent eq key xs = (q : ℕ) (f : Member K T) → StandsAt xs q f → eq key f.key ≡ true → ⊥

  -- none does but at this place
  abbrev pub IsSole : (K → K → Bool) → K → List (Option (Member K T)) → ℕ → Type 0
  IsSole eq key xs p = (q : ℕ) (f : Member K T) → StandsAt xs q f → eq key f.key ≡ true → q ≡ p

  -- no two places have members with equal keys
  abbrev pub ArePlacesApart : (K → K → Bool) → List (Option (Member K T)) → Type 0
  ArePlacesApart eq xs = (p q : ℕ) (e f : Member K T) → StandsAt xs p e → StandsAt xs q f
      → eq e.key f.key ≡ true → p ≡ q

  -- the member under the key, and its place
  pub record IsFound (eq : K → K → Bool) (k : K) (xs : List (Option (Member K T)))
      (found : Found K T) : Type 0 where
    pub stands : StandsAt xs found.place found.member
    pub key : eq k found.member.key ≡ true
    pub sole : IsSole eq k xs found.place
    pub within : found.place < length xs

  -- each member has its place in the index, which may keep the place of one that went
  pub record IsIndexed {S : Type 0} (eq : K → K → Bool) (xs : List (Option (Member K T)))
      (index : IndexMap K ℕ S) : Type 0 where
    pub members : (p : ℕ) (e : Member K T) → StandsAt xs p e
        → (k : K) → eq k e.key ≡ true → get eq index k ≡ Some p
    pub within : (k : K) (p : ℕ) → get eq index k ≡ Some p → p < length xs
    pub own : (k : K) (p : ℕ) (e : Member K T) → get eq index k ≡ Some p → StandsAt xs p e
        → eq k e.key ≡ true

  -- the index and the ranks are of these places
  pub record IsPlaced {S : Type 0} (eq : K → K → Bool) (xs : List (Option (Member K T)))
      (index : IndexMap K ℕ S) (ranks : List ℕ) : Type 0 where
    pub indexed : IsIndexed eq xs index
    pub ranked : ranks ≡ ranks_of (length ranks) xs
    pub within : length xs ≤ length ranks
