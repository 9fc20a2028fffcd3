-- What the first number within a bound stands for.
use Rattle.std.proofs.Common.{◌≡◌, ◌∙◌, ◌-◌, ◌<◌, ◌^◌, ◌∷◌, [], ap, arith, Bool, cond, false, List, None, refl, Some, sym, true, ℕ}
use Rattle.std.specs.Option.{option_map_or}
use Rattle.std.specs.Prelude.{◌||◌, find, min, nat_le, Option}
use Rattle.q_dest.specs.Dests.{is_dead, is_due_at, is_remembered}
use Rattle.q_dest.specs.Ranks.{dead_rank, remembered_rank, rest_rank_in, time_rank, time_rank_in}
use Rattle.q_dest.specs.declared.dest.Dest.{Dest}
use Rattle.q_keyed.proofs.Values.{find_none, item_found, none_passes}
use Rattle.q_keyed.specs.Numbered.{AreApart, first_such, item_at, Numbered, values_of}
use Rattle.q_model.specs.declared.rows.Health.{Health}
use Rattle.q_model.specs.declared.rows.Health.TheVariants as healths
use Rattle.q_model.specs.Revival.{is_due}
use Rattle.q_register.specs.Members.{no_rank}

-- its time has come by its rank
within_dead_time : (moment : ℕ) → moment < 2 ^ 64 - 1 → (h : Health) → nat_le (time_rank_in h) moment ≡ is_due moment h
within_dead_time moment few healths.Alive = grind arith
within_dead_time moment few (healths.DeadUntil t) = refl

within_rest : (moment : ℕ) → moment < 2 ^ 64 - 1 → (o : Option ℕ) → nat_le (rest_rank_in o) moment ≡ option_map_or (λ t. nat_le t moment) o false
within_rest moment few None = grind arith
within_rest moment few (Some t) = refl

within_least : (a b n : ℕ) → nat_le (min a b) n ≡ (nat_le a n || nat_le b n)
within_least a b n = grind arith

within_time : (moment : ℕ) → moment < 2 ^ 64 - 1 → (d : Dest) → nat_le (time_rank d) moment ≡ is_due_at moment d
within_time moment few d =
    within_least (time_rank_in d.known.health) (rest_rank_in d.known.rest) moment
    ∙ ap (λ b. b || nat_le (rest_rank_in d.known.rest) moment) (within_dead_time moment few d.known.health)
    ∙ ap (λ b. is_due moment d.known.health || b) (within_rest moment few d.known.rest)

within_zero : (b : Bool) → nat_le (cond b 0 no_rank) 0 ≡ b
within_zero true = refl
within_zero false = refl

find_alike : (p q : Dest → Bool) → ((d : Dest) → p d ≡ q d) → (ds : List Dest) → find p ds ≡ find q ds
find_alike p q alike [] = refl
find_alike p q alike (d ∷ ds) = ap (λ b. cond b (Some d) (find p ds)) (alike d) ∙ ap (cond (q d) (Some d)) (find_alike p q alike ds)

abbrev is_within : (Dest → ℕ) → ℕ → Dest → Bool
is_within rank bound d = nat_le (rank d) bound

-- of all that pass a test by their rank the first stands under this number, or none passes
module _ (rank : Dest → ℕ) (bound : ℕ) (p : Dest → Bool) (alike : (d : Dest) → nat_le (rank d) bound ≡ p d) (ks : List (Numbered Dest)) where
  there : (n : ℕ) → AreApart ks → first_such (is_within rank bound) ks ≡ Some n → item_at n ks ≡ find p (values_of ks)
  there n apart h = item_found (is_within rank bound) n ks apart h ∙ find_alike (is_within rank bound) p alike (values_of ks)

  nowhere : first_such (is_within rank bound) ks ≡ None → find p (values_of ks) ≡ None
  nowhere h =
      sym (find_alike (is_within rank bound) p alike (values_of ks))
      ∙ find_none (is_within rank bound) (values_of ks) (none_passes (is_within rank bound) ks h)

module _ (ks : List (Numbered Dest)) where
  pub due_there : (moment n : ℕ) → moment < 2 ^ 64 - 1 → AreApart ks → first_such (λ d. nat_le (time_rank d) moment) ks ≡ Some n → item_at n ks ≡ find (is_due_at moment) (values_of ks)
  due_there moment n few = there time_rank moment (is_due_at moment) (within_time moment few) ks n

  pub due_nowhere : (moment : ℕ) → moment < 2 ^ 64 - 1 → first_such (λ d. nat_le (time_rank d) moment) ks ≡ None → find (is_due_at moment) (values_of ks) ≡ None
  due_nowhere moment few = nowhere time_rank moment (is_due_at moment) (within_time moment few) ks

  pub dead_there : (n : ℕ) → AreApart ks → first_such (λ d. nat_le (dead_rank d) 0) ks ≡ Some n → item_at n ks ≡ find is_dead (values_of ks)
  dead_there n = there dead_rank 0 is_dead (λ d. within_zero (is_dead d)) ks n

  pub dead_nowhere : first_such (λ d. nat_le (dead_rank d) 0) ks ≡ None → find is_dead (values_of ks) ≡ None
  dead_nowhere = nowhere dead_rank 0 is_dead (λ d. within_zero (is_dead d)) ks

  pub remembered_there : (n : ℕ) → AreApart ks → first_such (λ d. nat_le (remembered_rank d) 0) ks ≡ Some n → item_at n ks ≡ find is_remembered (values_of ks)
  remembered_there n = there remembered_rank 0 is_remembered (λ d. within_zero (is_remembered d)) ks n

  pub remembered_nowhere : first_such (λ d. nat_le (remembered_rank d) 0) ks ≡ None → find is_remembered (values_of ks) ≡ None
  remembered_nowhere = nowhere remembered_rank 0 is_remembered (λ d. within_zero (is_remembered d)) ks
