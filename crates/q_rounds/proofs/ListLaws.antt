-- The lists of rounds, as peers come, change and go.
use Rattle.std.proofs.Common.{◌≡◌, ◌≢◌, ◌∙◌, ◌∷◌, ◌++◌, ◌<◌, [], ap, Bool, cond, false, get_or, inl, inr, length, List, map, None, not, Option, refl, Some, subst, sym, true, ℕ, ◌⊎◌}
use Rattle.std.proofs.lemmas.Bool.{cases_eq, eq-eqb, ne_eqb}
use Rattle.std.proofs.lemmas.List.{length-map, map-append}
use Rattle.std.proofs.lemmas.List.Elements.{filter-append}
use Rattle.std.specs.Prelude.{◌==◌, ◌||◌, filter, find, IfSome}
use Rattle.q_chains.specs.Lists.{is_in, Lists, pushed, stands, without}
use Rattle.q_keyed.specs.Numbered.{AreApart, has_number, item_at, Numbered, put_at, without_number}
use Rattle.q_chains.proofs.Chained.{at_pushed_other, at_pushed_own, at_without, length_pushed}
use Rattle.q_chains.proofs.Numbers.{flipped, stands_not}
use Rattle.q_rounds.specs.declared.peer.Peer.{Peer}
use Rattle.q_rounds.specs.Listing.{AreListed, enlisted, is_list, listed}
use Rattle.q_rounds.proofs.Lookups.{here_at, later_at}
use Rattle.q_rounds.proofs.Splits.{one, split}

abbrev numbers : List (Numbered Peer) → List ℕ
numbers ks = map (λ (k : Numbered Peer). k.number) ks

empty_end : (ns : List ℕ) → ns ++ [] ≡ ns
empty_end [] = refl
empty_end (n ∷ ns) = ap (λ ms. n ∷ ms) (empty_end ns)

last_step : (n : ℕ) (x : Peer) (t : Bool) → numbers (cond t (one n x ∷ []) []) ≡ cond t (n ∷ []) []
last_step n x true = refl
last_step n x false = refl

alike_step : (k : Numbered Peer) (xs ys : List (Numbered Peer)) (t : Bool) → numbers xs ≡ numbers ys → numbers (cond t (k ∷ xs) xs) ≡ numbers (cond t (k ∷ ys) ys)
alike_step k xs ys true rest = ap (λ ns. k.number ∷ ns) rest
alike_step k xs ys false rest = rest

kept_step : (n : ℕ) (p x : Peer) (xs : List (Numbered Peer)) (t : Bool) → numbers (cond t (one n x ∷ xs) xs) ≡ numbers (cond t (one n p ∷ xs) xs)
kept_step n p x xs true = refl
kept_step n p x xs false = refl

module _ (place : Peer → Option ℕ) (b : ℕ) where
  abbrev test : Numbered Peer → Bool
  test k = is_list b (place k.item)

  listed_append : (ks ls : List (Numbered Peer)) → listed place b (ks ++ ls) ≡ listed place b ks ++ listed place b ls
  listed_append ks ls = ap numbers (filter-append test ks ls) ∙ map-append (λ (k : Numbered Peer). k.number) (filter test ks) (filter test ls)

  -- one more
  listed_more : (n : ℕ) (x : Peer) (ks : List (Numbered Peer)) → listed place b (ks ++ one n x ∷ []) ≡ listed place b ks ++ cond (is_list b (place x)) (n ∷ []) []
  listed_more n x ks = listed_append ks (one n x ∷ []) ∙ ap (λ ns. listed place b ks ++ ns) (last_step n x (is_list b (place x)))

  -- each in its list as before
  pub listed_alike : (other : Peer → Option ℕ) (ks : List (Numbered Peer)) → AreApart ks → ((m : ℕ) (q : Peer) → item_at m ks ≡ Some q → other q ≡ place q) → listed other b ks ≡ listed place b ks
  listed_alike other [] apart same = refl
  listed_alike other (k ∷ ks) apart same =
      let others = filter (λ (k : Numbered Peer). is_list b (other k.item)) ks in
      ap (λ o. numbers (cond (is_list b o) (k ∷ others) others)) (same k.number k.item (here_at k ks))
      ∙ alike_step k others (filter test ks) (test k) (listed_alike other ks apart.1 (λ m q h. same m q (later_at m q k ks apart.0 h)))

  -- one less
  left_step : (n : ℕ) (k : Numbered Peer) (ks w : List (Numbered Peer)) (t u : Bool) → (k.number == n) ≡ t → test k ≡ u → listed place b w ≡ without n (listed place b ks) → listed place b (cond (not t) (k ∷ w) w) ≡ without n (numbers (cond u (k ∷ filter test ks) (filter test ks)))
  left_step n k ks w true true e f rest = rest ∙ sym (ap (λ t. cond (not t) (k.number ∷ without n (listed place b ks)) (without n (listed place b ks))) e)
  left_step n k ks w true false e f rest = rest
  left_step n k ks w false true e f rest =
      ap (λ u. numbers (cond u (k ∷ filter test w) (filter test w))) f ∙ ap (λ ns. k.number ∷ ns) rest
      ∙ sym (ap (λ t. cond (not t) (k.number ∷ without n (listed place b ks)) (without n (listed place b ks))) e)
  left_step n k ks w false false e f rest = ap (λ u. numbers (cond u (k ∷ filter test w) (filter test w))) f ∙ rest

  pub listed_left : (n : ℕ) (ks : List (Numbered Peer)) → listed place b (without_number n ks) ≡ without n (listed place b ks)
  listed_left n [] = refl
  listed_left n (k ∷ ks) = left_step n k ks (without_number n ks) (k.number == n) (test k) refl refl (listed_left n ks)

  -- one that is in no list any more
  gone_step : (n : ℕ) (x : Peer) (k : Numbered Peer) (ks w : List (Numbered Peer)) (t u : Bool) → is_list b (place x) ≡ false → (k.number == n) ≡ t → test k ≡ u → listed place b w ≡ without n (listed place b ks) →
      listed place b (cond t (one n x) k ∷ w) ≡ without n (numbers (cond u (k ∷ filter test ks) (filter test ks)))
  gone_step n x k ks w true true fails e f rest =
      ap (λ u. numbers (cond u (one n x ∷ filter test w) (filter test w))) fails ∙ rest
      ∙ sym (ap (λ t. cond (not t) (k.number ∷ without n (listed place b ks)) (without n (listed place b ks))) e)
  gone_step n x k ks w true false fails e f rest = ap (λ u. numbers (cond u (one n x ∷ filter test w) (filter test w))) fails ∙ rest
  gone_step n x k ks w false true fails e f rest =
      ap (λ u. numbers (cond u (k ∷ filter test w) (filter test w))) f ∙ ap (λ ns. k.number ∷ ns) rest
      ∙ sym (ap (λ t. cond (not t) (k.number ∷ without n (listed place b ks)) (without n (listed place b ks))) e)
  gone_step n x k ks w false false fails e f rest = ap (λ u. numbers (cond u (k ∷ filter test w) (filter test w))) f ∙ rest

  pub listed_gone : (n : ℕ) (x : Peer) (ks : List (Numbered Peer)) → is_list b (place x) ≡ false → listed place b (map (put_at n x) ks) ≡ without n (listed place b ks)
  listed_gone n x [] fails = refl
  listed_gone n x (k ∷ ks) fails = gone_step n x k ks (map (put_at n x) ks) (k.number == n) (test k) fails refl refl (listed_gone n x ks fails)

  -- another in the list of one
  pub listed_kept : (n : ℕ) (p x : Peer) (ks : List (Numbered Peer)) → AreApart ks → item_at n ks ≡ Some p → place x ≡ place p → listed place b (map (put_at n x) ks) ≡ listed place b ks
  listed_kept n p x ks apart there same =
      let s = split n p ks apart there in
      let back = filter test s.back in
      ap (listed place b) (s.put x) ∙ listed_append s.front (one n x ∷ s.back)
      ∙ ap (λ o. listed place b s.front ++ numbers (cond (is_list b o) (one n x ∷ back) back)) same
      ∙ ap (λ ns. listed place b s.front ++ ns) (kept_step n p x back (is_list b (place p)))
      ∙ sym (listed_append s.front (one n p ∷ s.back)) ∙ sym (ap (listed place b) s.whole)

  -- a number that no peer has is in no list
  lacks_step : (n : ℕ) (k : Numbered Peer) (ks : List (Numbered Peer)) (t u : Bool) → (k.number == n) ≡ t → cond t (Some k) (find (has_number n) ks) ≡ None → (find (has_number n) ks ≡ None → is_in n (listed place b ks) ≡ false) →
      is_in n (numbers (cond u (k ∷ filter test ks) (filter test ks))) ≡ false
  lacks_step n k ks true u e none rest = absurd cc
  lacks_step n k ks false true e none rest = ap (λ t. t || is_in n (listed place b ks)) (flipped n k.number ∙ e) ∙ rest none
  lacks_step n k ks false false e none rest = rest none

  lacks_listed : (n : ℕ) (ks : List (Numbered Peer)) → find (has_number n) ks ≡ None → is_in n (listed place b ks) ≡ false
  lacks_listed n [] none = refl
  lacks_listed n (k ∷ ks) none = lacks_step n k ks (k.number == n) (test k) refl none (lacks_listed n ks)

module _ (place : Peer → Option ℕ) (ks : List (Numbered Peer)) (room : ℕ) (fresh : Lists) (are : AreListed place ks room fresh) where
  pub free_listed : (n : ℕ) → find (has_number n) ks ≡ None → stands n fresh.lists ≡ false
  free_listed n none = stands_not n fresh.lists (λ b low. ap (is_in n) (are.each b (subst (λ m. b < m) are.count low)) ∙ lacks_listed place b n ks none)

  -- a number comes into a list, or into none
  push_step : (n c b : ℕ) (x : Peer) → place x ≡ Some c → c < room → b < room → (b ≡ c) ⊎ (b ≢ c) → get_or (pushed c n fresh.lists) b [] ≡ listed place b (ks ++ one n x ∷ [])
  push_step n c b x is low below (inl same) =
      let known : c < length fresh.lists = subst (λ m. c < m) (sym are.count) low in
      ap (λ i. get_or (pushed c n fresh.lists) i []) same ∙ at_pushed_own c n fresh.lists known ∙ ap (λ ns. ns ++ n ∷ []) (are.each c low)
      ∙ sym (ap (λ t. listed place c ks ++ cond t (n ∷ []) []) (ap (is_list c) is ∙ eq-eqb c c refl)) ∙ sym (listed_more place c n x ks) ∙ ap (λ i. listed place i (ks ++ one n x ∷ [])) (sym same)
  push_step n c b x is low below (inr other) =
      at_pushed_other c b n fresh.lists (λ same. other (sym same)) ∙ are.each b below ∙ sym (empty_end (listed place b ks))
      ∙ sym (ap (λ t. listed place b ks ++ cond t (n ∷ []) []) (ap (is_list b) is ∙ ne_eqb c b (λ same. other (sym same)))) ∙ sym (listed_more place b n x ks)

  stay_step : (n b : ℕ) (x : Peer) → place x ≡ None → b < room → get_or fresh.lists b [] ≡ listed place b (ks ++ one n x ∷ [])
  stay_step n b x is below =
      are.each b below ∙ sym (empty_end (listed place b ks)) ∙ sym (ap (λ o. listed place b ks ++ cond (is_list b o) (n ∷ []) []) is) ∙ sym (listed_more place b n x ks)

  come_step : (n : ℕ) (x : Peer) (o : Option ℕ) → place x ≡ o → IfSome o (λ c. c < room) → AreListed place (ks ++ one n x ∷ []) room (record fresh { lists = enlisted o n fresh.lists })
  come_step n x None is low = record { numbers = are.numbers; count = are.count; each = λ b below. stay_step n b x is below }
  come_step n x (Some c) is low = record {
    numbers = are.numbers;
    count = length_pushed c n fresh.lists ∙ are.count;
    each = λ b below. push_step n c b x is low below (cases_eq b c);
  }

  pub listed_come : (n : ℕ) (x : Peer) (o : Option ℕ) → o ≡ place x → IfSome o (λ c. c < room) → AreListed place (ks ++ one n x ∷ []) room (record fresh { lists = enlisted o n fresh.lists })
  listed_come n x o is low = come_step n x o (sym is) low

  -- a number goes out of its list
  pub listed_go : (other : Peer → Option ℕ) (n : ℕ) (ls : List (Numbered Peer)) → ((b : ℕ) → listed other b ls ≡ without n (listed place b ks)) → AreListed other ls room (record fresh { lists = map (without n) fresh.lists })
  listed_go other n ls same = record {
    numbers = are.numbers;
    count = length-map fresh.lists (without n) ∙ are.count;
    each = λ b below. at_without b n fresh.lists ∙ ap (without n) (are.each b below) ∙ sym (same b);
  }

  pub listed_same : (other : Peer → Option ℕ) (ls : List (Numbered Peer)) → ((b : ℕ) → listed other b ls ≡ listed place b ks) → AreListed other ls room fresh
  listed_same other ls same = record { numbers = are.numbers; count = are.count; each = λ b below. are.each b below ∙ sym (same b) }
