-- The best candidate of one need, and of all needs so far.
use Rattle.std.specs.Option.{option_map_or}
use Rattle.std.specs.Prelude.{◌≡◌, ◌≤◌, ◌*◌, ◌+◌, ◌⊎◌, Bool, false, if◌then◌else◌, List, nat_lt, None, Option, Some, true, ℕ}
use Rattle.q_keyed.specs.Numbered.{item_at, Numbered}
use Rattle.q_sorted.specs.declared.ticket.Ticket.{Ticket}
use Rattle.q_candidates.specs.declared.candidate.Candidate.{Candidate}
use Rattle.q_candidates.specs.declared.lane.Lane.{Lane}
use Rattle.q_candidates.specs.Candidates.{age_at, goes_first}

-- what goes before all lanes of the transport that have this need or a greater one
abbrev pub cut_at : ℕ → ℕ → Ticket
cut_at transport from = record { key = from; group = transport; item = 0 }

-- the lane is one of the transport that are walked along
abbrev pub IsWalked : ℕ → Lane → Type 0
IsWalked transport l = (l.suspended ≡ false) × (l.site.transport ≡ transport)

-- the least need of these lanes that is this one or more, up to the most
abbrev pub IsNextNeed : ℕ → ℕ → ℕ → List (Numbered Lane) → Option ℕ → Type 0
IsNextNeed transport from most lanes None = (n : ℕ) (l : Lane) → item_at n lanes ≡ Some l
    → IsWalked transport l → from ≤ l.need → l.need ≤ most → ⊥
IsNextNeed transport from most lanes (Some d) = (from ≤ d) × (d ≤ most) × ((n : ℕ) (l : Lane)
    → item_at n lanes ≡ Some l → IsWalked transport l → from ≤ l.need → d ≤ l.need)

-- no candidate of so great a need and of no greater age goes before the best one so far
abbrev pub is_over : List (Numbered Candidate) → ℕ → ℕ → Option ℕ → ℕ → Bool
is_over ks now age None from = false
is_over ks now age (Some n) from = option_map_or
    (λ b. nat_lt ((age + 1) * b.need) ((age_at now b + 1) * from)) (item_at n ks) false

-- the next need, or none where the rest is over
abbrev pub IsNextHope : List (Numbered Candidate) → ℕ → ℕ → ℕ → ℕ → ℕ → List (Numbered Lane) → Option ℕ → Option ℕ → Type 0
IsNextHope ks now age transport from most lanes best next =
    IsNextNeed transport from most lanes next
    ⊎ ((next ≡ None) × (is_over ks now age best from ≡ true))

-- the candidate of the number passes, and none that passes goes first
pub record IsFirstOf (now : ℕ) (test : Candidate → Bool) (ks : List (Numbered Candidate)) (n : ℕ) : Type 0 where
  pub candidate : Candidate
  pub there : item_at n ks ≡ Some candidate
  pub passes : test candidate ≡ true
  pub first : (m : ℕ) (c : Candidate) → item_at m ks ≡ Some c → test c ≡ true
      → goes_first now c candidate ≡ false

-- it is the number of the first that passes, or none does
abbrev pub IsBestOf : ℕ → (Candidate → Bool) → List (Numbered Candidate) → Option ℕ → Type 0
IsBestOf now test ks None = (m : ℕ) (c : Candidate) → item_at m ks ≡ Some c → test c ≡ false
IsBestOf now test ks (Some n) = IsFirstOf now test ks n

-- the candidate of one number goes before that of another
abbrev pub goes_first_at : List (Numbered Candidate) → ℕ → ℕ → ℕ → Bool
goes_first_at ks now a b = option_map_or
    (λ x. option_map_or (λ y. goes_first now x y) (item_at b ks) false) (item_at a ks) false

-- the one that goes first
abbrev pub better_of : List (Numbered Candidate) → ℕ → Option ℕ → Option ℕ → Option ℕ
better_of ks now None b = b
better_of ks now (Some a) None = Some a
better_of ks now (Some a) (Some b) = if goes_first_at ks now b a then Some b else Some a
