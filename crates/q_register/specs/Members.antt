-- What a contract sees of a register: its members in the order of coming.
use Rattle.std.specs.Prelude.{◌≡◌, ◌^◌, ◌-◌, [], Bool, find, if◌then◌else◌, List, nat_le, nat_lt, None, not, Option, refl, Some, ℕ, ◌∷◌}
use Rattle.std.specs.Coded.{code_by, Coded, coded_list, coded_ℕ, coded×}
use Rattle.q_register.specs.declared.member.Member.{Member}

-- the members, and how many have room
pub record Members (K T : Type 0) : Type 0 where
  pub items : List (Member K T)
  pub room : ℕ

-- the rank of a member that is never the first
abbrev pub no_rank : ℕ
no_rank = 2 ^ 64 - 1

-- how they are coded as a list of numbers, which a model says of a type with parameters
abbrev pub member_code : {K T : Type 0} → Coded K → Coded T → Coded (Member K T)
member_code {K} {T} k t = code_by (K × (T × ℕ)) (coded× k (coded× t coded_ℕ))
    (λ e. (e.key, (e.value, e.rank)))
    (λ p. record { key = p.0; value = p.1.0; rank = p.1.1 })
    (λ _. refl)

abbrev pub members_code : {K T : Type 0} → Coded K → Coded T → Coded (Members K T)
members_code {K} {T} k t = code_by (List (Member K T) × ℕ)
    (coded× (coded_list (member_code k t)) coded_ℕ)
    (λ s. (s.items, s.room))
    (λ p. record { items = p.0; room = p.1 })
    (λ _. refl)

module _ {K T : Type 0} where
  -- it stands under this key
  abbrev pub has_key : (K → K → Bool) → K → Member K T → Bool
  has_key eq key e = eq key e.key

  -- the member, or the one behind it where that has a lesser rank
  abbrev pub sooner : Member K T → Option (Member K T) → Option (Member K T)
  sooner e None = if nat_lt e.rank no_rank then Some e else None
  sooner e (Some f) = if nat_lt f.rank e.rank then Some f else Some e

  -- of those with the least rank the first
  abbrev pub first_ranked : List (Member K T) → Option (Member K T)
  first_ranked [] = None
  first_ranked (e ∷ es) = sooner e (first_ranked es)

  -- its rank is at most the bound
  abbrev pub ranks_within : ℕ → Member K T → Bool
  ranks_within bound e = nat_le e.rank bound

  -- with another value and rank under this key
  abbrev pub changed : (K → K → Bool) → K → T → ℕ → Member K T → Member K T
  changed eq key v r e = if eq key e.key then record { key = e.key; value = v; rank = r } else e

  -- it stands under another key
  abbrev pub lacks_key : (K → K → Bool) → K → Member K T → Bool
  lacks_key eq key e = not (eq key e.key)

  -- no two members stand under one key
  abbrev pub AreApart : (K → K → Bool) → List (Member K T) → Type 0
  AreApart eq [] = Unit {0}
  AreApart eq (e ∷ es) = (find (has_key eq e.key) es ≡ None) × AreApart eq es
