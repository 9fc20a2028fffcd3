-- The number with the least rank of those that are marked is the first of them in the order.
use Rattle.std.proofs.lemmas.Bool.{lt-ltb}
use Rattle.std.proofs.lemmas.List.Elements.{All-get_or}
use Rattle.std.specs.Prelude.{◌↔◌, All, IfSome, IsNone}
use Rattle.q_least.specs.Keys.{IsLeastAt, key_at, no_key}
use Rattle.q_marked.proofs.Keying.{marked_at}
use Rattle.q_marked.specs.Marks.{is_marked}
use Rattle.q_marked.specs.Sound.{are_keyed, is_keyed, IsSound}
use Rattle.std.proofs.Common.{◌≡◌, ◌∙◌, ◌<◌, ◌≤◌, ◌∷◌, [], ap, arith, Bool, cond, false, find, get_or, List, None, Option, refl, Some, subst, sym, true, ℕ}
use Rattle.std.proofs.lemmas.Grind.{common_steps}
use Rattle.std.specs.List.{AllByRecursion}
use Rattle.std.specs.Prelude.{◌||◌, nat_eq}
use Rattle.q_chains.specs.Lists.{is_in}
use Rattle.q_ranks.specs.Ranking.{Ranking, RiseAbove, Rises}

same_number : (n x : ℕ) → nat_eq n x ≡ true → x ≡ n
same_number n x h = grind (arith, common_steps, h)

module _ (ranks : List ℕ) (marked : ℕ → Bool) (n : ℕ) (own : marked n ≡ true) where
  above_step : (r x : ℕ) (xs : List ℕ) (b : Bool) → nat_eq n x ≡ b → r < get_or ranks x 0 → (is_in n xs ≡ true → get_or ranks x 0 < get_or ranks n 0) → (b || is_in n xs) ≡ true → r < get_or ranks n 0
  above_step r x xs true e low rest h = subst (λ k. r < get_or ranks k 0) (same_number n x e) low
  above_step r x xs false e low rest h = let more = rest h in omega (arith, low, more)

  above : (r : ℕ) (order : List ℕ) → RiseAbove r ranks order → is_in n order ≡ true → r < get_or ranks n 0
  above r [] rises h = cc
  above r (x ∷ xs) rises h = above_step r x xs (nat_eq n x) refl rises.0 (above (get_or ranks x 0) xs rises.1) h

  -- each that is marked has at least this rank
  abbrev IsLow : List ℕ → Type 0
  IsLow [] = Unit {0}
  IsLow (x ∷ xs) = (marked x ≡ true → get_or ranks n 0 ≤ get_or ranks x 0) × IsLow xs

  first_step : (r x : ℕ) (xs : List ℕ) (b c : Bool) → nat_eq n x ≡ b → marked x ≡ c → RiseAbove (get_or ranks x 0) ranks xs → (c ≡ true → get_or ranks n 0 ≤ get_or ranks x 0) → (is_in n xs ≡ true → find marked xs ≡ Some n) → (b || is_in n xs) ≡ true → cond c (Some x) (find marked xs) ≡ Some n
  first_step r x xs true true e f rises low rest h = ap (λ k. Some k) (same_number n x e)
  first_step r x xs true false e f rises low rest h =
      let bad : true ≡ false = sym own ∙ ap marked (sym (same_number n x e)) ∙ f in cc
  first_step r x xs false true e f rises low rest h =
      let more = above (get_or ranks x 0) xs rises h in
      let most = low refl in
      absurd (omega (arith, more, most))
  first_step r x xs false false e f rises low rest h = rest h

  pub first_found : (r : ℕ) (order : List ℕ) → RiseAbove r ranks order → IsLow order → is_in n order ≡ true → find marked order ≡ Some n
  first_found r [] rises low h = cc
  first_found r (x ∷ xs) rises low h = first_step r x xs (nat_eq n x) (marked x) refl refl rises.1 low.0 (first_found (get_or ranks x 0) xs rises.1 low.1) h

  pub all_low : (numbers : ℕ) (order : List ℕ) → AllByRecursion (λ k. k < numbers) order → ((k : ℕ) → k < numbers → marked k ≡ true → get_or ranks n 0 ≤ get_or ranks k 0) → IsLow order
  all_low numbers [] below h = tt
  all_low numbers (x ∷ xs) below h = (h x below.0, all_low numbers xs below.1 h)

pub none_found : (marked : ℕ → Bool) (numbers : ℕ) (order : List ℕ) → AllByRecursion (λ k. k < numbers) order → ((k : ℕ) → k < numbers → marked k ≡ false) → find marked order ≡ None
none_found marked numbers [] below h = refl
none_found marked numbers (x ∷ xs) below h = ap (λ b. cond b (Some x) (find marked xs)) (h x below.0) ∙ none_found marked numbers xs below.1 h

-- what the keys say
module _ (order : Ranking) (keys : List ℕ) (numbers : ℕ) (sound : IsSound order keys numbers) (rise : Rises order.ranks order.order) (below : AllByRecursion (λ n. n < order.numbers) order.order) where
  abbrev marked : ℕ → Bool
  marked n = is_marked n (are_keyed keys)

  marked_key : (n : ℕ) → n < numbers → marked n ≡ is_keyed (get_or keys n 0)
  marked_key n low = marked_at keys n (omega (arith, low, sound.each))

  within : AllByRecursion (λ n. n < numbers) order.order
  within = subst (λ m. AllByRecursion (λ n. n < m) order.order) sound.known below

  pub first_is : (o : Option ℕ) → (IsNone o ↔ All (λ key. key ≡ no_key) keys) → IfSome o (IsLeastAt keys) → IfSome o (λ n. key_at keys n < no_key) → o ≡ find marked order.order
  first_is None none least keyed =
      sym (none_found marked numbers order.order within (λ k low.
      marked_key k low ∙ ap is_keyed (All-get_or (λ key. key ≡ no_key) keys k 0 (omega (arith, low, sound.each)) (none.0 refl))))
  first_is (Some n) none least keyed =
      let low : n < numbers = (let w = least.within in omega (arith, w, sound.each)) in
      let has : is_keyed (get_or keys n 0) ≡ true = lt-ltb (get_or keys n 0) no_key keyed in
      let own = sound.ranked n low has in
      let is = marked_key n low ∙ has in
      sym (first_found order.ranks marked n is 0 order.order rise
      (all_low order.ranks marked n is numbers order.order within (λ k there m.
      let other = sound.ranked k there (sym (marked_key k there) ∙ m) in
      let most = least.least k (omega (arith, there, sound.each)) in
      omega (arith, most, own.rank, other.rank))) own.there)
