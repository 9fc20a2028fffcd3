-- What calls tell of items that are kept soundly.
use Rattle.std.proofs.Common.{◌≡◌, ◌∙◌, ◌∷◌, ◌%◌, ◌<◌, ◌≤◌, [], ap, arith, Bool, cond, false, get_or, length, List, map, None, Option, refl, Some, sym, true, ℕ}
use Rattle.std.proofs.lemmas.Bool.{eq-eqb}
use Rattle.std.specs.List.{cons_option}
use Rattle.std.specs.Option.{is_some}
use Rattle.std.specs.Prelude.{◌||◌, find, nat_eq}
use Rattle.q_chains.specs.Lists.{behind, first_of, is_in, list_with, Lists, StandOnce, stands, without}
use Rattle.q_chains.specs.Onward.{after, from_on}
use Rattle.q_chains.proofs.Chained.{in_without}
use Rattle.q_chains.proofs.Numbers.{AreOnce, behind_is, flipped, from_first, head_in, list_is, once_at, or_parts, or_right, stands_in}
use Rattle.q_chains.proofs.Steps.{once_in}
use Rattle.q_chains.proofs.Slots.{passes_only}
use Rattle.q_keyed.proofs.Filed.{find_sole, sole}
use Rattle.q_keyed.proofs.Items.{AreFilled, apart_items, count_items, first_item, first_numbers, item_is, next_numbers}
use Rattle.q_keyed.specs.Numbered.{AreApart, AreKeysApart, first_number, first_such, item_at, next_number}
use Rattle.q_chains.specs.Slots.{is_in_bucket, passes, passes_in}
use Rattle.q_keyed.specs.Slots.{items_of, numbered_in}
use Rattle.q_keyed.specs.Sound.{IsSound}

lacking : (n : ℕ) (ms : List ℕ) → is_in n ms ≡ false → after n ms ≡ []
lacking n [] k = refl
lacking n (m ∷ ms) k =
    let parts = or_parts (nat_eq n m) (is_in n ms) k in
    ap (λ t. cond t ms (after n ms)) (flipped m n ∙ parts.0) ∙ lacking n ms parts.1

kept_step : (at n : ℕ) (xss : List (List ℕ)) → (at ≡ n → ⊥) → stands at (map (without n) xss) ≡ stands at xss
kept_step at n [] h = refl
kept_step at n (xs ∷ xss) h = ap (λ t. t || stands at (map (without n) xss)) (in_without at n xs h) ∙ ap (λ t. is_in at xs || t) (kept_step at n xss h)

-- none of these passes
none_found : (p : ℕ → Bool) (ms : List ℕ) → ((m : ℕ) → is_in m ms ≡ true → p m ≡ false) → find p ms ≡ None
none_found p [] h = refl
none_found p (m ∷ ms) h =
    ap (λ t. cond t (Some m) (find p ms)) (h m (head_in m ms)) ∙ none_found p ms (λ n k. h n (or_right (nat_eq n m) (is_in n ms) k))

either : (t : Bool) → (t ≡ true → ⊥) → t ≡ false
either true h = absurd (h refl)
either false h = refl

module _ {K T : Type 0} (eq : K → K → Bool) (key : T → K) (hash : K → ℕ) (is_same : (a b : K) → eq a b ≡ true → a ≡ b) (is_own : (a : K) → eq a a ≡ true)
    (items : List (Option T)) (order buckets : Lists) (live room : ℕ) (sound : IsSound eq key hash items order buckets live room) where
  abbrev ns : List ℕ
  ns = get_or order.lists 0 []

  pub held : AreFilled items ns
  held n h = sym h ∙ sound.filled n

  pub is_held : (n : ℕ) (x : T) → get_or items n None ≡ Some x → is_in n ns ≡ true
  is_held n x h = sound.filled n ∙ ap is_some h

  pub count : length (items_of items ns) ≡ length ns
  count = count_items items ns held

  pub within : length (items_of items ns) ≤ room
  within = let few = count in omega (arith, few, sound.all)

  pub item : (n : ℕ) → item_at n (items_of items ns) ≡ get_or items n None
  item n = item_is n items ns (sound.filled n)

  pub apart : StandOnce order → AreApart (items_of items ns)
  apart once = apart_items items ns (once_at 0 order.lists (once_in order once))

  keys_step : (n : ℕ) (ms : List ℕ) (o : Option T) → get_or items n None ≡ o → is_in n ms ≡ false → AreKeysApart eq key (items_of items ms) →
      AreKeysApart eq key (cons_option (numbered_in n o) (items_of items ms))
  keys_step n ms None is none rest = rest
  keys_step n ms (Some x) is none rest =
      let own : passes (λ t. eq (key t) (key x)) items n ≡ true = ap (passes_in (λ t. eq (key t) (key x))) is ∙ is_own (key x) in
      let alone : first_such (λ t. eq (key t) (key x)) (items_of items ms) ≡ None =
      first_item (λ t. eq (key t) (key x)) items ms
      ∙ none_found (passes (λ t. eq (key t) (key x)) items) ms (λ m k. either (passes (λ t. eq (key t) (key x)) items m) (λ e.
      let same : n ≡ m = sole eq key is_same is_own items sound.unlike (key x) n m own e in
      let here : is_in n ms ≡ true = ap (λ j. is_in j ms) same ∙ k in
      cc)) in
      (alone, rest)

  keys_in : (ms : List ℕ) → AreOnce ms → AreKeysApart eq key (items_of items ms)
  keys_in [] once = tt
  keys_in (n ∷ ms) once = keys_step n ms (get_or items n None) refl once.0 (keys_in ms once.1)

  pub keys : StandOnce order → AreKeysApart eq key (items_of items ns)
  keys once = keys_in ns (once_at 0 order.lists (once_in order once))

  pub first : first_number (items_of items ns) ≡ first_of ns
  first = first_numbers items ns held

  pub stands_held : (n : ℕ) (x : T) → get_or items n None ≡ Some x → stands n order.lists ≡ true
  stands_held n x h = stands_in n 0 order.lists (is_held n x h)

  -- while another number is taken out, the number of an item stands
  pub stands_at : (at n : ℕ) → is_some (get_or items at None) ≡ true → is_in n ns ≡ false → stands at (map (without n) order.lists) ≡ true
  stands_at at n there lacks =
      let here : is_in at ns ≡ true = sound.filled at ∙ there in
      kept_step at n order.lists (λ e. let gone : is_in at ns ≡ false = ap (λ k. is_in k ns) e ∙ lacks in cc) ∙ stands_in at 0 order.lists here

  pub next : StandOnce order → (n : ℕ) (x : T) → get_or items n None ≡ Some x → next_number n (items_of items ns) ≡ behind n (list_with n order.lists)
  next once n x h =
      next_numbers n items ns held
      ∙ sym (behind_is n ns)
      ∙ ap (behind n) (sym (list_is n 0 order.lists (once_in order once) (is_held n x h)))

  -- no item has the number
  pub no_next : (n : ℕ) → get_or items n None ≡ None → next_number n (items_of items ns) ≡ None
  no_next n h = next_numbers n items ns held ∙ ap first_of (lacking n ns (sound.filled n ∙ ap is_some h))

  -- A key is looked up along its bucket.
  module _ (k : K) (b : ℕ) (is : b ≡ hash k % room) (few : b < room) (once : StandOnce buckets) where
    in_bucket : (n : ℕ) → passes (λ x. eq (key x) k) items n ≡ true → is_in n (get_or buckets.lists b []) ≡ true
    in_bucket n h =
        sound.filed.each b n few
        ∙ passes_only (λ x. eq (key x) k) (is_in_bucket (λ x. hash (key x)) room b) (get_or items n None)
        (λ x e. eq-eqb (hash (key x) % room) b (ap (λ c. hash c % room) (is_same (key x) k e) ∙ sym is)) h

    some_in : (p : T → Bool) (o : Option T) → passes_in p o ≡ true → is_some o ≡ true
    some_in p None h = cc
    some_in p (Some x) h = refl

    in_order : (n : ℕ) → passes (λ x. eq (key x) k) items n ≡ true → is_in n ns ≡ true
    in_order n h = sound.filled n ∙ some_in (λ x. eq (key x) k) (get_or items n None) h

    pub found : find (passes (λ x. eq (key x) k) items) (from_on (first_of (get_or buckets.lists b [])) buckets.lists) ≡ first_such (λ x. eq (key x) k) (items_of items ns)
    found =
        ap (find (passes (λ x. eq (key x) k) items)) (from_first b buckets.lists (once_in buckets once))
        ∙ find_sole (passes (λ x. eq (key x) k) items) (get_or buckets.lists b []) ns (sole eq key is_same is_own items sound.unlike k) in_bucket in_order
        ∙ sym (first_item (λ x. eq (key x) k) items ns)
