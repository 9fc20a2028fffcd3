-- Numbers in buckets, as an item comes, as one goes, and where one is found.
use Rattle.std.proofs.Common.{◌≡◌, ◌∙◌, ◌∷◌, ◌%◌, ◌<◌, [], ap, arith, Bool, cond, false, get_or, length, List, map, None, Option, refl, set, Some, sym, true, ℕ}
use Rattle.std.proofs.lemmas.Bool.{eqb-false, eqb-true}
use Rattle.std.proofs.lemmas.List.{get_or-set_other, get_or-set_same, length-map}
use Rattle.std.specs.Option.{is_some}
use Rattle.std.specs.Prelude.{◌==◌, ◌||◌, find, nat_eq}
use Rattle.q_chains.specs.Lists.{is_in, Lists, pushed, stands, without}
use Rattle.q_chains.proofs.Chained.{at_pushed_other, at_pushed_own, at_without, gone, in_last, in_more, in_without, length_pushed}
use Rattle.q_chains.proofs.Numbers.{stands_not}
use Rattle.q_chains.proofs.Slots.{passes_alike, passes_own}
use Rattle.q_chains.specs.Slots.{is_in_bucket, passes, passes_in}
use Rattle.q_keyed.specs.Sound.{AreFiled, AreUnlike}

-- What a test finds, where one number at most passes.
found_step : (p : ℕ → Bool) (x n : ℕ) (xs : List ℕ) (t : Bool) → p x ≡ t → cond t (Some x) (find p xs) ≡ Some n → (find p xs ≡ Some n → p n ≡ true) → p n ≡ true
found_step p x n xs true e h rest = let same : x ≡ n = cc in ap p (sym same) ∙ e
found_step p x n xs false e h rest = rest h

pub found_passes : (p : ℕ → Bool) (n : ℕ) (xs : List ℕ) → find p xs ≡ Some n → p n ≡ true
found_passes p n [] h = cc
found_passes p n (x ∷ xs) h = found_step p x n xs (p x) refl h (found_passes p n xs)

there_step : (p : ℕ → Bool) (x n : ℕ) (xs : List ℕ) (t u : Bool) → p x ≡ t → nat_eq n x ≡ u → p n ≡ true → (u || is_in n xs) ≡ true → (is_in n xs ≡ true → is_some (find p xs) ≡ true) → is_some (cond t (Some x) (find p xs)) ≡ true
there_step p x n xs true u e f own h rest = refl
there_step p x n xs false true e f own h rest =
    let passes : p x ≡ true = ap p (sym (eqb-true n x f)) ∙ own in
    cc
there_step p x n xs false false e f own h rest = rest h

-- one that passes is among these
pub found_there : (p : ℕ → Bool) (n : ℕ) (xs : List ℕ) → p n ≡ true → is_in n xs ≡ true → is_some (find p xs) ≡ true
found_there p n [] own h = cc
found_there p n (x ∷ xs) own h = there_step p x n xs (p x) (nat_eq n x) refl refl own h (found_there p n xs own)

same_step : (p : ℕ → Bool) (xs ys : List ℕ) → ((n m : ℕ) → p n ≡ true → p m ≡ true → n ≡ m) → ((n : ℕ) → p n ≡ true → is_in n xs ≡ true) → ((n : ℕ) → p n ≡ true → is_in n ys ≡ true) →
    (o q : Option ℕ) → find p xs ≡ o → find p ys ≡ q → o ≡ q
same_step p xs ys sole left right None None e f = refl
same_step p xs ys sole left right (Some n) (Some m) e f = ap Some (sole n m (found_passes p n xs e) (found_passes p m ys f))
same_step p xs ys sole left right (Some n) None e f =
    let own = found_passes p n xs e in
    let there : is_some (find p ys) ≡ true = found_there p n ys own (right n own) in
    let none : is_some (find p ys) ≡ false = ap is_some f in
    cc
same_step p xs ys sole left right None (Some m) e f =
    let own = found_passes p m ys f in
    let there : is_some (find p xs) ≡ true = found_there p m xs own (left m own) in
    let none : is_some (find p xs) ≡ false = ap is_some e in
    cc

-- two lists with the one that passes
pub find_sole : (p : ℕ → Bool) (xs ys : List ℕ) → ((n m : ℕ) → p n ≡ true → p m ≡ true → n ≡ m) → ((n : ℕ) → p n ≡ true → is_in n xs ≡ true) → ((n : ℕ) → p n ≡ true → is_in n ys ≡ true) → find p xs ≡ find p ys
find_sole p xs ys sole left right = same_step p xs ys sole left right (find p xs) (find p ys) refl refl

module _ {T : Type 0} where
  module _ (hash : T → ℕ) (items : List (Option T)) (room : ℕ) (buckets : Lists) (filed : AreFiled hash items room buckets) where
    -- a number without an item stands in no bucket
    pub lacks_filed : (n : ℕ) → get_or items n None ≡ None → stands n buckets.lists ≡ false
    lacks_filed n h = stands_not n buckets.lists (λ b k.
        filed.each b n (omega (arith, k, filed.count)) ∙ ap (passes_in (is_in_bucket hash room b)) h)

    -- an item comes
    module _ (n b : ℕ) (x : T) (free : get_or items n None ≡ None) (known : n < length items) (is : b ≡ hash x % room) (few : b < room) where
      own_step : (c : ℕ) (t : Bool) → (b == c) ≡ t → c < room → is_in n (get_or (pushed b n buckets.lists) c []) ≡ t
      own_step c true e k =
          let same : b ≡ c = eqb-true b c e in
          ap (λ d. is_in n (get_or (pushed b n buckets.lists) d [])) (sym same)
          ∙ ap (is_in n) (at_pushed_own b n buckets.lists (omega (arith, few, filed.count)))
          ∙ in_last n (get_or buckets.lists b [])
      own_step c false e k =
          ap (is_in n) (at_pushed_other b c n buckets.lists (eqb-false b c e)) ∙ filed.each c n k ∙ ap (passes_in (is_in_bucket hash room c)) free

      other_step : (c m : ℕ) (t : Bool) → (b == c) ≡ t → (m ≡ n → ⊥) → is_in m (get_or (pushed b n buckets.lists) c []) ≡ is_in m (get_or buckets.lists c [])
      other_step c m true e other =
          let same : b ≡ c = eqb-true b c e in
          ap (λ d. is_in m (get_or (pushed b n buckets.lists) d [])) (sym same)
          ∙ ap (is_in m) (at_pushed_own b n buckets.lists (omega (arith, few, filed.count)))
          ∙ in_more m n (get_or buckets.lists b []) other
          ∙ ap (λ d. is_in m (get_or buckets.lists d [])) same
      other_step c m false e other = ap (is_in m) (at_pushed_other b c n buckets.lists (eqb-false b c e))

      each_step : (c m : ℕ) (t : Bool) → (m == n) ≡ t → c < room → is_in m (get_or (pushed b n buckets.lists) c []) ≡ passes (is_in_bucket hash room c) (set items n (Some x)) m
      each_step c m true e k =
          let same : m ≡ n = eqb-true m n e in
          ap (λ j. is_in j (get_or (pushed b n buckets.lists) c [])) same
          ∙ own_step c (b == c) refl k
          ∙ ap (λ d. d == c) is
          ∙ sym (passes_own (is_in_bucket hash room c) items n (Some x) known)
          ∙ ap (passes (is_in_bucket hash room c) (set items n (Some x))) (sym same)
      each_step c m false e k =
          let other = eqb-false m n e in
          other_step c m (b == c) refl other ∙ filed.each c m k ∙ sym (passes_alike (is_in_bucket hash room c) items n m (Some x) other)

      pub filed_come : AreFiled hash (set items n (Some x)) room (record buckets { lists = pushed b n buckets.lists })
      filed_come = record {
        numbers = filed.numbers;
        count = length_pushed b n buckets.lists ∙ filed.count;
        each = λ c m k. each_step c m (m == n) refl k;
      }

    -- an item goes
    module _ (n : ℕ) (known : n < length items) where
      left_step : (c m : ℕ) (t : Bool) → (m == n) ≡ t → c < room → is_in m (without n (get_or buckets.lists c [])) ≡ passes (is_in_bucket hash room c) (set items n None) m
      left_step c m true e k =
          let same : m ≡ n = eqb-true m n e in
          ap (λ j. is_in j (without n (get_or buckets.lists c []))) same
          ∙ gone n (get_or buckets.lists c [])
          ∙ sym (passes_own (is_in_bucket hash room c) items n None known)
          ∙ ap (passes (is_in_bucket hash room c) (set items n None)) (sym same)
      left_step c m false e k =
          let other = eqb-false m n e in
          in_without m n (get_or buckets.lists c []) other ∙ filed.each c m k ∙ sym (passes_alike (is_in_bucket hash room c) items n m None other)

      pub filed_go : AreFiled hash (set items n None) room (record buckets { lists = map (without n) buckets.lists })
      filed_go = record {
        numbers = filed.numbers;
        count = length-map buckets.lists (without n) ∙ filed.count;
        each = λ c m k. ap (is_in m) (at_without c n buckets.lists) ∙ left_step c m (m == n) refl k;
      }

      -- another of the same hash stands there
      module _ (x y : T) (here : get_or items n None ≡ Some y) (like : hash y ≡ hash x) where
        put_step : (c m : ℕ) (t : Bool) → (m == n) ≡ t → c < room → is_in m (get_or buckets.lists c []) ≡ passes (is_in_bucket hash room c) (set items n (Some x)) m
        put_step c m true e k =
            let same : m ≡ n = eqb-true m n e in
            ap (λ j. is_in j (get_or buckets.lists c [])) same
            ∙ filed.each c n k
            ∙ ap (passes_in (is_in_bucket hash room c)) here
            ∙ ap (λ h. h % room == c) like
            ∙ sym (passes_own (is_in_bucket hash room c) items n (Some x) known)
            ∙ ap (passes (is_in_bucket hash room c) (set items n (Some x))) (sym same)
        put_step c m false e k =
            let other = eqb-false m n e in
            filed.each c m k ∙ sym (passes_alike (is_in_bucket hash room c) items n m (Some x) other)

        pub filed_put : AreFiled hash (set items n (Some x)) room buckets
        filed_put = record {
          numbers = filed.numbers;
          count = filed.count;
          each = λ c m k. put_step c m (m == n) refl k;
        }

-- Keys, where those that are equal are one and the same.
module _ {K T : Type 0} (eq : K → K → Bool) (key : T → K) (is_same : (a b : K) → eq a b ≡ true → a ≡ b) (is_own : (a : K) → eq a a ≡ true) (items : List (Option T)) (unlike : AreUnlike eq key items) where
  -- the item has this key
  abbrev pub under : K → T → Bool
  under k x = eq (key x) k

  held : (p : T → Bool) (o : Option T) (C : Type 0) → passes_in p o ≡ true → ((x : T) → o ≡ Some x → p x ≡ true → C) → C
  held p None C h rest = cc
  held p (Some x) C h rest = rest x refl h

  -- one item at most has a key
  pub sole : (k : K) (n m : ℕ) → passes (under k) items n ≡ true → passes (under k) items m ≡ true → n ≡ m
  sole k n m h j =
      held (under k) (get_or items n None) (n ≡ m) h (λ x e a.
      held (under k) (get_or items m None) (n ≡ m) j (λ y f b.
      unlike n m x y e f (ap (λ c. eq c (key y)) (is_same (key x) k a ∙ sym (is_same (key y) k b)) ∙ is_own (key y))))

  -- another stands under a number, whose key no other item has, or none does
  module _ (n : ℕ) (o : Option T) (known : n < length items) (only : (x : T) → o ≡ Some x → (m : ℕ) (u : T) → (m ≡ n → ⊥) → get_or items m None ≡ Some u → eq (key u) (key x) ≡ true → ⊥) where
    new_here : (a : ℕ) (x : T) → (a == n) ≡ true → get_or (set items n o) a None ≡ Some x → o ≡ Some x
    new_here a x e h =
        sym (get_or-set_same items n o None known) ∙ ap (λ k. get_or (set items n o) k None) (sym (eqb-true a n e)) ∙ h

    old_there : (a : ℕ) (x : T) → (a == n) ≡ false → get_or (set items n o) a None ≡ Some x → get_or items a None ≡ Some x
    old_there a x e h = sym (get_or-set_other items n a o None (eqb-false a n e)) ∙ h

    unlike_step : (a b : ℕ) (x y : T) (t u : Bool) → (a == n) ≡ t → (b == n) ≡ u → get_or (set items n o) a None ≡ Some x → get_or (set items n o) b None ≡ Some y → eq (key x) (key y) ≡ true → a ≡ b
    unlike_step a b x y true true e f h j like = eqb-true a n e ∙ sym (eqb-true b n f)
    unlike_step a b x y true false e f h j like =
        let back : eq (key y) (key x) ≡ true = ap (λ c. eq c (key x)) (sym (is_same (key x) (key y) like)) ∙ is_own (key x) in
        absurd (only x (new_here a x e h) b y (eqb-false b n f) (old_there b y f j) back)
    unlike_step a b x y false true e f h j like =
        absurd (only y (new_here b y f j) a x (eqb-false a n e) (old_there a x e h) like)
    unlike_step a b x y false false e f h j like = unlike a b x y (old_there a x e h) (old_there b y f j) like

    pub unlike_set : AreUnlike eq key (set items n o)
    unlike_set = λ a b x y h j like. unlike_step a b x y (a == n) (b == n) refl refl h j like
