-- A walk that ranks all messages anew.
use Rattle.std.proofs.Common.{◌≡◌, ◌∙◌, ◌∷◌, ◌+◌, ◌<◌, ◌≤◌, [], ap, arith, Bool, cond, false, length, List, map, None, Option, option_map, refl, Some, suc, sym, true, ℕ}
use Rattle.std.proofs.lemmas.Bool.{eqb-true}
use Rattle.std.specs.List.{AllByRecursion}
use Rattle.std.specs.Prelude.{◌==◌, find}
use Rattle.q_keyed.specs.Numbered.{AreApart, first_number, has_number, item_at, next_number, Numbered, put_at, values_of}
use Rattle.q_model.specs.declared.id.Id.{Id}
use Rattle.q_model.specs.Ids.{id_eq}
use Rattle.q_chains.proofs.Numbers.{flipped, own_test}
use Rattle.q_rounds.proofs.NumberedWalk.{from_on, one_on}
use Rattle.q_schedule.specs.declared.ranked.Ranked.{Ranked}
use Rattle.q_schedule.specs.Ranking.{anew, anew_from, ranked_at, with_rank}
use Rattle.q_schedule.specs.Sound.{AreRanked, facts_at, facts_of, is_ranked, messages_of}

-- all are ranked
pub begins : (rank : ℕ) (ks : List (Numbered Ranked)) → anew_from rank (first_number ks) ks ≡ anew rank ks
begins rank [] = refl
begins rank (k ∷ ks) = ap (λ t. cond t (anew rank (k ∷ ks)) (k ∷ anew_from rank (Some k.number) ks)) (own_test k.number)

lacking_step : (n rank : ℕ) (k : Numbered Ranked) (ks : List (Numbered Ranked)) (t : Bool) → cond t (Some k) (find (has_number n) ks) ≡ None → (find (has_number n) ks ≡ None → ranked_at n rank ks ≡ ks) → cond t (with_rank rank k) k ∷ ranked_at n rank ks ≡ k ∷ ks
lacking_step n rank k ks true h rest = absurd cc
lacking_step n rank k ks false h rest = ap (λ ls. k ∷ ls) (rest h)

lacking : (n rank : ℕ) (ks : List (Numbered Ranked)) → find (has_number n) ks ≡ None → ranked_at n rank ks ≡ ks
lacking n rank [] h = refl
lacking n rank (k ∷ ks) h = lacking_step n rank k ks (k.number == n) h (lacking n rank ks)

number_step : (n rank : ℕ) (k : Numbered Ranked) (t : Bool) → (cond t (with_rank rank k) k).number ≡ k.number
number_step n rank k true = refl
number_step n rank k false = refl

-- numbers stay
same_step : (n m rank : ℕ) (k : Numbered Ranked) (ks : List (Numbered Ranked)) (t : Bool) → (k.number == m) ≡ t → cond t (Some k) (find (has_number m) ks) ≡ None → (find (has_number m) ks ≡ None → find (has_number m) (ranked_at n rank ks) ≡ None) → find (has_number m) (ranked_at n rank (k ∷ ks)) ≡ None
same_step n m rank k ks true e g rest = absurd cc
same_step n m rank k ks false e g rest =
    ap (λ b. cond b (Some (cond (k.number == n) (with_rank rank k) k)) (find (has_number m) (ranked_at n rank ks))) (ap (λ x. x == m) (number_step n rank k (k.number == n)) ∙ e) ∙ rest g

find_same : (n m rank : ℕ) (ks : List (Numbered Ranked)) → find (has_number m) ks ≡ None → find (has_number m) (ranked_at n rank ks) ≡ None
find_same n m rank [] h = refl
find_same n m rank (k ∷ ks) h = same_step n m rank k ks (k.number == m) refl h (find_same n m rank ks)

-- a walk goes on behind an item that isn't there any more
other_here : (k : Numbered Ranked) (rank : ℕ) (o : Option ℕ) (ls : List (Numbered Ranked)) → ((m : ℕ) → o ≡ Some m → (k.number == m) ≡ false) → anew_from rank o (k ∷ ls) ≡ k ∷ anew_from rank o ls
other_here k rank None ls other = refl
other_here k rank (Some m) ls other = ap (λ t. cond t (anew rank (k ∷ ls)) (k ∷ anew_from rank (Some m) ls)) (other m refl)

first_other : (k : Numbered Ranked) (ls : List (Numbered Ranked)) → find (has_number k.number) ls ≡ None → (m : ℕ) → first_number ls ≡ Some m → (k.number == m) ≡ false
first_other k [] apart m h = absurd cc
first_other k (l ∷ ls) apart m h = step (l.number == k.number) refl apart
  where
    step : (t : Bool) → (l.number == k.number) ≡ t → cond t (Some l) (find (has_number k.number) ls) ≡ None → (k.number == m) ≡ false
    step true e g = absurd cc
    step false e g = let same : l.number ≡ m = cc in ap (λ x. k.number == x) (sym same) ∙ flipped k.number l.number ∙ e

behind_step : (n : ℕ) (k l : Numbered Ranked) (ls : List (Numbered Ranked)) (m : ℕ) (t : Bool) → find (has_number k.number) (l ∷ ls) ≡ None → cond t (first_number ls) (next_number n ls) ≡ Some m → (find (has_number k.number) ls ≡ None → next_number n ls ≡ Some m → (k.number == m) ≡ false) → (k.number == m) ≡ false
behind_step n k l ls m t apart h rest = tail (l.number == k.number) apart t h
  where
    tail : (s : Bool) → cond s (Some l) (find (has_number k.number) ls) ≡ None → (t : Bool) → cond t (first_number ls) (next_number n ls) ≡ Some m → (k.number == m) ≡ false
    tail true g t i = absurd cc
    tail false g true i = first_other k ls g m i
    tail false g false i = rest g i

next_other : (n : ℕ) (k : Numbered Ranked) (ls : List (Numbered Ranked)) (m : ℕ) → find (has_number k.number) ls ≡ None → next_number n ls ≡ Some m → (k.number == m) ≡ false
next_other n k [] m apart h = absurd cc
next_other n k (l ∷ ls) m apart h = behind_step n k l ls m (l.number == n) apart h (next_other n k ls m)

here_step : (n rank : ℕ) (k : Numbered Ranked) (ks : List (Numbered Ranked)) (t : Bool) → (k.number == n) ≡ t → find (has_number k.number) ks ≡ None →
    anew_from (rank + 1) (next_number n (ranked_at n rank ks)) (ranked_at n rank ks) ≡ anew_from rank (Some n) ks →
    anew_from (rank + 1) (cond ((cond t (with_rank rank k) k).number == n) (first_number (ranked_at n rank ks)) (next_number n (ranked_at n rank ks))) (cond t (with_rank rank k) k ∷ ranked_at n rank ks) ≡ cond t (anew rank (k ∷ ks)) (k ∷ anew_from rank (Some n) ks)
here_step n rank k ks true e apart rest =
    let same : k.number ≡ n = eqb-true k.number n e in
    let stay : ranked_at n rank ks ≡ ks = lacking n rank ks (ap (λ m. find (has_number m) ks) (sym same) ∙ apart) in
    ap (λ b. anew_from (rank + 1) (cond b (first_number (ranked_at n rank ks)) (next_number n (ranked_at n rank ks))) (with_rank rank k ∷ ranked_at n rank ks)) e
    ∙ ap (λ ls. anew_from (rank + 1) (first_number ls) (with_rank rank k ∷ ls)) stay
    ∙ other_here (with_rank rank k) (rank + 1) (first_number ks) ks (first_other k ks apart)
    ∙ ap (λ ls. with_rank rank k ∷ ls) (begins (rank + 1) ks)
here_step n rank k ks false e apart rest =
    ap (λ b. anew_from (rank + 1) (cond b (first_number (ranked_at n rank ks)) (next_number n (ranked_at n rank ks))) (k ∷ ranked_at n rank ks)) e
    ∙ other_here k (rank + 1) (next_number n (ranked_at n rank ks)) (ranked_at n rank ks) (λ m h. next_other n k (ranked_at n rank ks) m (find_same n k.number rank ks apart) h)
    ∙ ap (λ ls. k ∷ ls) rest

-- one step of the walk
pub goes_on : (n rank : ℕ) (ks : List (Numbered Ranked)) → AreApart ks → anew_from (rank + 1) (next_number n (ranked_at n rank ks)) (ranked_at n rank ks) ≡ anew_from rank (Some n) ks
goes_on n rank [] apart = refl
goes_on n rank (k ∷ ks) apart = here_step n rank k ks (k.number == n) refl apart.0 (goes_on n rank ks apart.1)

-- ranks and messages
abbrev AreAbove : ℕ → List Ranked → Type 0
AreAbove low rs = AllByRecursion (λ r. low < r.rank) rs

above : (low rank : ℕ) (ks : List (Numbered Ranked)) → low < rank → AreAbove low (values_of (anew rank ks))
above low rank [] h = tt
above low rank (k ∷ ks) h = (h, above low (rank + 1) ks (omega (arith, h)))

pub anew_ranked : (rank next : ℕ) (ks : List (Numbered Ranked)) → rank + length ks ≤ next → AreRanked next (values_of (anew rank ks))
anew_ranked rank next [] h = tt
anew_ranked rank next (k ∷ ks) h =
    let more : rank + suc (length ks) ≤ next = h in
    (omega (arith, more), above rank (rank + 1) ks (omega arith), anew_ranked (rank + 1) next ks (omega (arith, more)))

pub anew_messages : (rank : ℕ) (ks : List (Numbered Ranked)) → messages_of (values_of (anew rank ks)) ≡ messages_of (values_of ks)
anew_messages rank [] = refl
anew_messages rank (k ∷ ks) = ap (λ ms. k.item.message ∷ ms) (anew_messages (rank + 1) ks)

-- how many are left
left_step : (n rank m : ℕ) (k : Numbered Ranked) (ks : List (Numbered Ranked)) (t : Bool) → (k.number == m) ≡ t → length (ranked_at n rank ks) ≡ length ks → length (from_on (Some m) (ranked_at n rank ks)) ≡ length (from_on (Some m) ks) →
    length (cond t (cond (k.number == n) (with_rank rank k) k ∷ ranked_at n rank ks) (from_on (Some m) (ranked_at n rank ks))) ≡ length (cond t (k ∷ ks) (from_on (Some m) ks))
left_step n rank m k ks true e all rest = ap suc all
left_step n rank m k ks false e all rest = rest

pub same_count : (n rank : ℕ) (ks : List (Numbered Ranked)) → length (ranked_at n rank ks) ≡ length ks
same_count n rank [] = refl
same_count n rank (k ∷ ks) = ap suc (same_count n rank ks)

pub same_left : (n rank : ℕ) (at : Option ℕ) (ks : List (Numbered Ranked)) → length (from_on at (ranked_at n rank ks)) ≡ length (from_on at ks)
same_left n rank None ks = refl
same_left n rank (Some m) [] = refl
same_left n rank (Some m) (k ∷ ks) =
    ap (λ b. length (cond b (cond (k.number == n) (with_rank rank k) k ∷ ranked_at n rank ks) (from_on (Some m) (ranked_at n rank ks)))) (ap (λ x. x == m) (number_step n rank k (k.number == n)))
    ∙ left_step n rank m k ks (k.number == m) refl (same_count n rank ks) (same_left n rank (Some m) ks)

-- The rank of the message under a number.
module _ (n rank : ℕ) (r : Ranked) where
  abbrev ranked : Ranked
  ranked = record r { rank = rank }

  put_lacking : (ks : List (Numbered Ranked)) → find (has_number n) ks ≡ None → map (put_at n ranked) ks ≡ ks
  put_lacking [] h = refl
  put_lacking (k ∷ ks) h = step (k.number == n) h (put_lacking ks)
    where
      step : (t : Bool) → cond t (Some k) (find (has_number n) ks) ≡ None → (find (has_number n) ks ≡ None → map (put_at n ranked) ks ≡ ks) → cond t (record { number = n; item = ranked }) k ∷ map (put_at n ranked) ks ≡ k ∷ ks
      step true g rest = absurd cc
      step false g rest = ap (λ ls. k ∷ ls) (rest g)

  put_step : (k : Numbered Ranked) (ks : List (Numbered Ranked)) (t : Bool) → (k.number == n) ≡ t → find (has_number k.number) ks ≡ None → option_map (λ (k : Numbered Ranked). k.item) (cond t (Some k) (find (has_number n) ks)) ≡ Some r →
      (item_at n ks ≡ Some r → map (put_at n ranked) ks ≡ ranked_at n rank ks) → cond t (record { number = n; item = ranked }) k ∷ map (put_at n ranked) ks ≡ cond t (with_rank rank k) k ∷ ranked_at n rank ks
  put_step k ks true e apart there rest =
      let same : k.number ≡ n = eqb-true k.number n e in
      let its : k.item ≡ r = cc in
      let lacks = ap (λ m. find (has_number m) ks) (sym same) ∙ apart in
      ap (λ m. record { number = m; item = ranked } ∷ map (put_at n ranked) ks) (sym same)
      ∙ ap (λ (x : Ranked). record { number = k.number; item = record x { rank = rank } } ∷ map (put_at n ranked) ks) (sym its)
      ∙ ap (λ ls. with_rank rank k ∷ ls) (put_lacking ks lacks ∙ sym (lacking n rank ks lacks))
  put_step k ks false e apart there rest = ap (λ ls. k ∷ ls) (rest there)

  pub put_ranked : (ks : List (Numbered Ranked)) → AreApart ks → item_at n ks ≡ Some r → map (put_at n ranked) ks ≡ ranked_at n rank ks
  put_ranked [] apart there = absurd cc
  put_ranked (k ∷ ks) apart there = put_step k ks (k.number == n) refl apart.0 there (put_ranked ks apart.1)

  -- what is known of other messages stays
  module _ (id i : Id) (other : id_eq id i ≡ false) (own : r.message.id ≡ id) where
    facts_step : (k : Numbered Ranked) (ks : List (Numbered Ranked)) (t : Bool) → (k.number == n) ≡ t → option_map (λ (k : Numbered Ranked). k.item) (cond t (Some k) (find (has_number n) ks)) ≡ Some r → find (has_number k.number) ks ≡ None →
        (item_at n ks ≡ Some r → find (is_ranked i) (values_of (map (put_at n ranked) ks)) ≡ find (is_ranked i) (values_of ks)) →
        find (is_ranked i) (values_of (cond t (record { number = n; item = ranked }) k ∷ map (put_at n ranked) ks)) ≡ find (is_ranked i) (k.item ∷ values_of ks)
    facts_step k ks true e there apart rest =
        let its : k.item ≡ r = cc in
        let same : k.number ≡ n = eqb-true k.number n e in
        let lacks = ap (λ m. find (has_number m) ks) (sym same) ∙ apart in
        ap (λ b. cond b (Some ranked) (find (is_ranked i) (values_of (map (put_at n ranked) ks)))) (ap (λ x. id_eq x i) own ∙ other)
        ∙ ap (λ ls. find (is_ranked i) (values_of ls)) (put_lacking ks lacks)
        ∙ sym (ap (λ b. cond b (Some k.item) (find (is_ranked i) (values_of ks))) (ap (λ (x : Ranked). id_eq x.message.id i) its ∙ ap (λ x. id_eq x i) own ∙ other))
    facts_step k ks false e there apart rest = ap (cond (is_ranked i k.item) (Some k.item)) (rest there)

    find_ranked : (ks : List (Numbered Ranked)) → AreApart ks → item_at n ks ≡ Some r → find (is_ranked i) (values_of (map (put_at n ranked) ks)) ≡ find (is_ranked i) (values_of ks)
    find_ranked [] apart there = absurd cc
    find_ranked (k ∷ ks) apart there = facts_step k ks (k.number == n) refl there apart.0 (find_ranked ks apart.1)

pub ranked_facts : (id i : Id) → id_eq id i ≡ false → (n rank : ℕ) (r : Ranked) (ks : List (Numbered Ranked)) → AreApart ks → item_at n ks ≡ Some r → r.message.id ≡ id → facts_at (values_of (map (put_at n (record r { rank = rank })) ks)) i ≡ facts_at (values_of ks) i
ranked_facts id i other n rank r ks apart there own = ap (option_map facts_of) (find_ranked n rank r id i other own ks apart there)

-- it is there with its rank
item_step : (n rank : ℕ) (r : Ranked) (k : Numbered Ranked) (ks : List (Numbered Ranked)) (t : Bool) → (k.number == n) ≡ t → option_map (λ (k : Numbered Ranked). k.item) (cond t (Some k) (find (has_number n) ks)) ≡ Some r → (item_at n ks ≡ Some r → item_at n (ranked_at n rank ks) ≡ Some (record r { rank = rank })) →
    option_map (λ (k : Numbered Ranked). k.item) (cond ((cond t (with_rank rank k) k).number == n) (Some (cond t (with_rank rank k) k)) (find (has_number n) (ranked_at n rank ks))) ≡ Some (record r { rank = rank })
item_step n rank r k ks true e there rest =
    let its : k.item ≡ r = cc in
    ap (λ b. option_map (λ (k : Numbered Ranked). k.item) (cond b (Some (with_rank rank k)) (find (has_number n) (ranked_at n rank ks)))) e ∙ ap (λ (x : Ranked). Some (record x { rank = rank })) its
item_step n rank r k ks false e there rest = ap (λ b. option_map (λ (k : Numbered Ranked). k.item) (cond b (Some k) (find (has_number n) (ranked_at n rank ks)))) e ∙ rest there

pub item_ranked : (n rank : ℕ) (r : Ranked) (ks : List (Numbered Ranked)) → item_at n ks ≡ Some r → item_at n (ranked_at n rank ks) ≡ Some (record r { rank = rank })
item_ranked n rank r [] there = absurd cc
item_ranked n rank r (k ∷ ks) there = item_step n rank r k ks (k.number == n) refl there (item_ranked n rank r ks)

-- one fewer is left
pub one_left : (n rank : ℕ) (at next : Option ℕ) (r : Ranked) (ks : List (Numbered Ranked)) → at ≡ Some n → item_at n ks ≡ Some r → AreApart (ranked_at n rank ks) → next ≡ next_number n (ranked_at n rank ks) → suc (length (from_on next (ranked_at n rank ks))) ≡ length (from_on at ks)
one_left n rank at next r ks here there apart is =
    sym (ap length (one_on n (record r { rank = rank }) at next (ranked_at n rank ks) apart here (item_ranked n rank r ks there) is))
    ∙ same_left n rank at ks
