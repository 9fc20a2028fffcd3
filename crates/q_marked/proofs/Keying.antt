-- The keys of numbers, as these come, are marked and go.
use Rattle.std.proofs.Common.{◌≡◌, ◌≢◌, ◌∙◌, ◌<◌, ◌∷◌, ◌++◌, ◌+◌, ◌^◌, [], ap, arith, Bool, cond, false, get_or, inl, inr, length, List, not, refl, replicate, set, subst, suc, sym, true, zero, ℕ}
use Rattle.std.proofs.lemmas.Bool.{cases_eq, eq-eqb, le-ltb, lt-ltb, ltb-false, ltb-true, or_left, or_right}
use Rattle.std.proofs.lemmas.Grind.{common_steps}
use Rattle.std.proofs.lemmas.List.{get_or-map, get_or-set_other, get_or-set_same, get_or-replicate, length-map, length-replicate, length-set, map-set, same_lists}
use Rattle.std.proofs.lemmas.List.Folds.{list_any-append}
use Rattle.std.specs.Prelude.{◌||◌, ◌==◌, nat_eq, nat_lt}
use Rattle.q_chains.specs.Lists.{is_in, without}
use Rattle.q_least.specs.Keys.{no_key}
use Rattle.q_ranks.specs.Ranking.{AreLow, Ranking}
use Rattle.q_marked.specs.Sound.{are_keyed, HasRank, is_keyed, IsSound, ranked_key}

-- a rank is a key
pub low_keyed : (rank : ℕ) → rank < 2 ^ 63 → is_keyed rank ≡ true
low_keyed rank h = grind (arith, common_steps, h)

pub key_keyed : (rank : ℕ) (marked : Bool) → rank < 2 ^ 63 → is_keyed (cond marked rank no_key) ≡ marked
key_keyed rank true low = low_keyed rank low
key_keyed rank false low = refl

-- the mark of a number is whether it has a key
pub marked_at : (keys : List ℕ) (n : ℕ) → n < length keys → get_or (are_keyed keys) n false ≡ is_keyed (get_or keys n 0)
marked_at keys n below = get_or-map is_keyed keys n 0 false below

pub marks_set : (keys : List ℕ) (n rank : ℕ) (marked : Bool) → rank < 2 ^ 63 → are_keyed (set keys n (cond marked rank no_key)) ≡ set (are_keyed keys) n marked
marks_set keys n rank marked low = map-set is_keyed keys n (cond marked rank no_key) ∙ ap (set (are_keyed keys) n) (key_keyed rank marked low)

ranked_step : (rank key : ℕ) (b : Bool) → is_keyed key ≡ b → rank < 2 ^ 63 → is_keyed (cond b rank key) ≡ b
ranked_step rank key true e low = low_keyed rank low
ranked_step rank key false e low = e

-- marks stay as numbers are ranked anew
pub ranked_keyed : (ranks : List ℕ) (n key : ℕ) → AreLow ranks → is_keyed (ranked_key ranks n key) ≡ is_keyed key
ranked_keyed ranks n key low = ranked_step (get_or ranks n 0) key (is_keyed key) refl (low n)

pub marks_kept : (ranks old new : List ℕ) → AreLow ranks → length new ≡ length old → ((n : ℕ) → n < length old → get_or new n 0 ≡ ranked_key ranks n (get_or old n 0)) → are_keyed new ≡ are_keyed old
marks_kept ranks old new low each ranked =
    same_lists (are_keyed new) (are_keyed old) (length-map new is_keyed ∙ each ∙ sym (length-map old is_keyed)) (λ k d below.
    let count = length-map new is_keyed in
    let here : k < length new = omega (arith, below, count) in
    get_or-map is_keyed new k 0 d here ∙ ap is_keyed (ranked k (omega (arith, here, each))) ∙ ranked_keyed ranks k (get_or old k 0) low ∙ sym (get_or-map is_keyed old k 0 d (omega (arith, here, each))))

-- ---- a walk that ranks all anew

abbrev so_far : List ℕ → List ℕ → ℕ → ℕ → ℕ
so_far ranks keys i n = cond (nat_lt n i) (ranked_key ranks n (get_or keys n 0)) (get_or keys n 0)

own_step : (ranks keys : List ℕ) (i : ℕ) → so_far ranks keys (i + 1) i ≡ ranked_key ranks i (get_or keys i 0)
own_step ranks keys i = ap (λ b. cond b (ranked_key ranks i (get_or keys i 0)) (get_or keys i 0)) (lt-ltb i (i + 1) (omega arith))

before_step : (ranks keys : List ℕ) (i : ℕ) → so_far ranks keys i i ≡ get_or keys i 0
before_step ranks keys i = ap (λ b. cond b (ranked_key ranks i (get_or keys i 0)) (get_or keys i 0)) (le-ltb i i (omega arith))

other_step : (ranks keys : List ℕ) (i n : ℕ) → n ≢ i → so_far ranks keys i n ≡ so_far ranks keys (i + 1) n
other_step ranks keys i n other = ap (λ b. cond b (ranked_key ranks n (get_or keys n 0)) (get_or keys n 0)) (same (nat_lt n i) refl (nat_lt n (i + 1)) refl)
  where
    same : (a : Bool) → nat_lt n i ≡ a → (b : Bool) → nat_lt n (i + 1) ≡ b → nat_lt n i ≡ nat_lt n (i + 1)
    same true e true f = e ∙ sym f
    same false e false f = e ∙ sym f
    same true e false f = let low = ltb-true n i e in let high = ltb-false n (i + 1) f in absurd (omega (arith, low, high))
    same false e true f = let high = ltb-false n i e in let low = ltb-true n (i + 1) f in absurd (other (omega (arith, low, high)))

pub ranked_more : (ranks old now : List ℕ) (i n : ℕ) → i < length now → ((m : ℕ) → get_or now m 0 ≡ so_far ranks old i m) → get_or (set now i (ranked_key ranks i (get_or now i 0))) n 0 ≡ so_far ranks old (i + 1) n
ranked_more ranks old now i n below h = elim (cases_eq n i) [
  | inl same ↦
      let here : get_or now i 0 ≡ get_or old i 0 = h i ∙ before_step ranks old i in
      ap (λ k. get_or (set now i (ranked_key ranks i (get_or now i 0))) k 0) same
      ∙ get_or-set_same now i (ranked_key ranks i (get_or now i 0)) 0 below
      ∙ ap (ranked_key ranks i) here ∙ sym (own_step ranks old i) ∙ ap (so_far ranks old (i + 1)) (sym same)
  | inr other ↦ get_or-set_other now i n (ranked_key ranks i (get_or now i 0)) 0 other ∙ h n ∙ other_step ranks old i n other
]

pub ranked_all : (ranks old : List ℕ) (i n : ℕ) → n < i → so_far ranks old i n ≡ ranked_key ranks n (get_or old n 0)
ranked_all ranks old i n below = ap (λ b. cond b (ranked_key ranks n (get_or old n 0)) (get_or old n 0)) (lt-ltb n i below)

-- ---- what always holds

in_more : (m n : ℕ) (order : List ℕ) → is_in m order ≡ true → is_in m (order ++ n ∷ []) ≡ true
in_more m n order h = list_any-append (nat_eq m) order (n ∷ []) ∙ or_left (is_in m order) (is_in m (n ∷ [])) h

in_last : (n : ℕ) (order : List ℕ) → is_in n (order ++ n ∷ []) ≡ true
in_last n order = list_any-append (nat_eq n) order (n ∷ []) ∙ or_right (is_in n order) (is_in n (n ∷ [])) (own n)
  where
    own : (k : ℕ) → is_in k (k ∷ []) ≡ true
    own k = ap (λ b. b || false) (eq-eqb k k refl)

only_marked : (rank : ℕ) (marked : Bool) → is_keyed (cond marked rank no_key) ≡ true → cond marked rank no_key ≡ rank
only_marked rank true h = refl
only_marked rank false h = cc

-- A number gets its mark, or loses it.
module _ (order ranks keys : List ℕ) (n : ℕ) (marked : Bool) (there : is_in n order ≡ true) (others : (m : ℕ) → m ≢ n → m < length keys → is_keyed (get_or keys m 0) ≡ true → HasRank order ranks keys m) where
  abbrev after : List ℕ
  after = set keys n (cond marked (get_or ranks n 0) no_key)

  pub ranked_set : (m : ℕ) → m < length keys → is_keyed (get_or after m 0) ≡ true → HasRank order ranks after m
  ranked_set m below keyed = elim (cases_eq m n) [
    | inl same ↦
        let in_it : n < length keys = subst (λ k. k < length keys) same below in
        let is : get_or after n 0 ≡ cond marked (get_or ranks n 0) no_key = get_or-set_same keys n (cond marked (get_or ranks n 0) no_key) 0 in_it in
        let key = only_marked (get_or ranks n 0) marked (ap is_keyed (sym is) ∙ ap (λ k. is_keyed (get_or after k 0)) (sym same) ∙ keyed) in
        subst (HasRank order ranks after) (sym same) (record { there = there; rank = is ∙ key })
    | inr other ↦
        let is : get_or after m 0 ≡ get_or keys m 0 = get_or-set_other keys n m (cond marked (get_or ranks n 0) no_key) 0 other in
        let old = others m other below (ap is_keyed (sym is) ∙ keyed) in
        record { there = old.there; rank = is ∙ old.rank }
  ]

module _ (order : Ranking) (keys : List ℕ) (numbers : ℕ) (sound : IsSound order keys numbers) where
  -- one in the order is marked or not
  pub sound_mark : (n : ℕ) (marked : Bool) → is_in n order.order ≡ true → IsSound order (set keys n (cond marked (get_or order.ranks n 0) no_key)) numbers
  sound_mark n marked there = record {
    known = sound.known;
    each = length-set keys n (cond marked (get_or order.ranks n 0) no_key) ∙ sound.each;
    ranked = λ m below keyed. ranked_set order.order order.ranks keys n marked there (λ k other low has. sound.ranked k (subst (λ l. k < l) sound.each low) has) m (omega (arith, below, sound.each)) keyed;
  }

  module _ (n : ℕ) (new : Ranking) (comes : new.order ≡ order.order ++ n ∷ []) (count : new.numbers ≡ order.numbers) where
    there_new : is_in n new.order ≡ true
    there_new = ap (is_in n) comes ∙ in_last n order.order

    still_there : (m : ℕ) → is_in m order.order ≡ true → is_in m new.order ≡ true
    still_there m h = ap (is_in m) comes ∙ in_more m n order.order h

    -- one comes, and the others keep their ranks
    pub sound_more : (marked : Bool) → ((m : ℕ) → m ≢ n → get_or new.ranks m 0 ≡ get_or order.ranks m 0) → IsSound new (set keys n (cond marked (get_or new.ranks n 0) no_key)) numbers
    sound_more marked kept = record {
      known = count ∙ sound.known;
      each = length-set keys n (cond marked (get_or new.ranks n 0) no_key) ∙ sound.each;
      ranked = λ m below keyed. ranked_set new.order new.ranks keys n marked there_new
          (λ k other low has.
          let old = sound.ranked k (subst (λ l. k < l) sound.each low) has in
          record { there = still_there k old.there; rank = old.rank ∙ sym (kept k other) })
          m (omega (arith, below, sound.each)) keyed;
    }

    -- one comes, and all are ranked anew
    pub sound_anew : (marked : Bool) (anew : List ℕ) → AreLow new.ranks → length anew ≡ length keys → ((m : ℕ) → m < length keys → get_or anew m 0 ≡ ranked_key new.ranks m (get_or keys m 0)) → IsSound new (set anew n (cond marked (get_or new.ranks n 0) no_key)) numbers
    sound_anew marked anew low each ranked = record {
      known = count ∙ sound.known;
      each = length-set anew n (cond marked (get_or new.ranks n 0) no_key) ∙ each ∙ sound.each;
      ranked = λ m below keyed. ranked_set new.order new.ranks anew n marked there_new
          (λ k other here has.
          let was = sym (ranked_keyed new.ranks k (get_or keys k 0) low) ∙ ap is_keyed (sym (ranked k (omega (arith, here, each)))) ∙ has in
          let old = sound.ranked k (omega (arith, here, each, sound.each)) was in
          record { there = still_there k old.there; rank = ranked k (omega (arith, here, each)) ∙ ap (λ b. cond b (get_or new.ranks k 0) (get_or keys k 0)) was })
          m (omega (arith, below, each, sound.each)) keyed;
    }

both_same : (m n k : ℕ) → nat_eq m k ≡ true → (k == n) ≡ true → m ≡ n
both_same m n k e f = grind (arith, common_steps, e, f)

left_step : (m n k : ℕ) (ks : List ℕ) (b c : Bool) → nat_eq m k ≡ b → (k == n) ≡ c → m ≢ n → (is_in m ks ≡ true → is_in m (without n ks) ≡ true) → (b || is_in m ks) ≡ true → is_in m (cond (not c) (k ∷ without n ks) (without n ks)) ≡ true
left_step m n k ks true true e f other rest h = absurd (other (both_same m n k e f))
left_step m n k ks true false e f other rest h = ap (λ b. b || is_in m (without n ks)) e
left_step m n k ks false true e f other rest h = rest h
left_step m n k ks false false e f other rest h = or_right (nat_eq m k) (is_in m (without n ks)) (rest h)

in_without : (m n : ℕ) (ks : List ℕ) → m ≢ n → is_in m ks ≡ true → is_in m (without n ks) ≡ true
in_without m n [] other h = h
in_without m n (k ∷ ks) other h = left_step m n k ks (nat_eq m k) (k == n) refl refl other (in_without m n ks other) h

-- one goes, with its key
pub sound_less : (order : Ranking) (keys : List ℕ) (numbers n : ℕ) → n < numbers → IsSound order keys numbers → IsSound (record order { order = without n order.order }) (set keys n no_key) numbers
sound_less order keys numbers n below sound = record {
  known = sound.known;
  each = length-set keys n no_key ∙ sound.each;
  ranked = λ m here keyed. elim (cases_eq m n) [
    | inl same ↦
        let is : get_or (set keys n no_key) n 0 ≡ no_key = get_or-set_same keys n no_key 0 (omega (arith, below, sound.each)) in
        let bad : true ≡ false = sym keyed ∙ ap (λ k. is_keyed (get_or (set keys n no_key) k 0)) same ∙ ap is_keyed is in cc
    | inr other ↦
        let is : get_or (set keys n no_key) m 0 ≡ get_or keys m 0 = get_or-set_other keys n m no_key 0 other in
        let old = sound.ranked m here (ap is_keyed (sym is) ∙ keyed) in
        record { there = in_without m n order.order other old.there; rank = is ∙ old.rank }
  ];
}

pub sound_none : (numbers : ℕ) (ranks : List ℕ) → IsSound (record { order = []; ranks = ranks; numbers = numbers }) (replicate numbers no_key) numbers
sound_none numbers ranks = record {
  known = refl;
  each = length-replicate numbers no_key;
  ranked = λ m below keyed.
      let bad : true ≡ false = sym keyed ∙ ap is_keyed (get_or-replicate numbers m no_key 0 below) in cc;
}

pub marks_none : (numbers : ℕ) → are_keyed (replicate numbers no_key) ≡ replicate numbers false
marks_none zero = refl
marks_none (suc n) = ap (λ bs. false ∷ bs) (marks_none n)
