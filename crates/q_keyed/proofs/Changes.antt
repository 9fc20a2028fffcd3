-- An item comes under a free number, goes, moves behind all, or another takes its place.
use Rattle.std.proofs.Common.{◌≡◌, ◌∙◌, ◌∷◌, ◌++◌, ◌+◌, ◌-◌, ◌%◌, ◌<◌, ◌≤◌, [], ap, arith, Bool, false, get_or, length, List, map, None, Option, refl, set, Some, sym, true, ℕ}
use Rattle.std.proofs.lemmas.Bool.{eqb-false, eqb-true}
use Rattle.std.proofs.lemmas.List.{append-nil, get_or-set_other, get_or-set_same, length-append, length-map, length-set}
use Rattle.std.specs.Option.{is_some}
use Rattle.std.specs.Prelude.{◌==◌, filter}
use Rattle.q_chains.proofs.Borders.{stands_below}
use Rattle.q_chains.specs.Lists.{inserted, is_in, last_of, Lists, pushed, StandOnce, without}
use Rattle.q_chains.proofs.Chained.{at_pushed_other, at_pushed_own, at_without, gone, in_last, in_more, in_without, length_pushed, length_without, moved, without_lacking}
use Rattle.q_chains.proofs.Numbers.{not_first, not_second, once_at, other_there, stands_in}
use Rattle.q_chains.proofs.Steps.{once_in}
use Rattle.q_keyed.proofs.Filed.{filed_come, filed_go, filed_put, found_there, unlike_set}
use Rattle.q_keyed.proofs.Inserted.{at_inserted, in_inserted, in_own, inserted_lacking, length_inserted}
use Rattle.q_keyed.proofs.Items.{first_item, items_alike, items_left, items_more}
use Rattle.q_keyed.proofs.Moves.{items_inserted, items_last, items_put, lone_absent, put_absent}
use Rattle.q_keyed.proofs.Places.{got_within, last_in, last_none}
use Rattle.q_keyed.proofs.Standing.{count, held}
use Rattle.q_keyed.specs.Numbered.{first_such, has_number, inserted_at, moved_last, Numbered, put_at, without_number}
use Rattle.q_chains.specs.Slots.{passes, passes_in}
use Rattle.q_keyed.specs.Slots.{items_of}
use Rattle.q_keyed.specs.Sound.{IsSound}

-- the lists of used and of free numbers, with the number before another
abbrev pub placed : ℕ → ℕ → Lists → Lists
placed n at s = record s { lists = map (inserted n at) (map (without n) s.lists) }

none_of : {X : Type 0} → (o : Option X) → false ≡ is_some o → o ≡ None
none_of None h = refl
none_of (Some x) h = cc

-- what stands there, where something does
pub some_of : {X : Type 0} → (o : Option X) → is_some o ≡ true → ((y : X) × (o ≡ Some y))
some_of None h = cc
some_of (Some y) h = (y, refl)

module _ {K T : Type 0} (eq : K → K → Bool) (key : T → K) (hash : K → ℕ) (is_same : (a b : K) → eq a b ≡ true → a ≡ b) (is_own : (a : K) → eq a a ≡ true)
    (items : List (Option T)) (order buckets : Lists) (live room : ℕ) (sound : IsSound eq key hash items order buckets live room) (once : StandOnce order) where
  abbrev ns : List ℕ
  ns = get_or order.lists 0 []

  abbrev free : List ℕ
  free = get_or order.lists 1 []

  -- a number is free where there is room
  pub has_free : length (items_of items ns) < room → last_of free ≡ None → ⊥
  has_free few h =
      let none = last_none free h in
      let all = count eq key hash is_same is_own items order buckets live room sound in
      omega (arith, few, none, all, sound.all)

  left_two : (n : ℕ) → length (map (without n) order.lists) ≡ 2
  left_two n = length-map order.lists (without n) ∙ sound.two

  moved_two : (list n : ℕ) → length (pushed list n (map (without n) order.lists)) ≡ 2
  moved_two list n = length_pushed list n (map (without n) order.lists) ∙ left_two n

  -- An item comes under a free number.
  module _ (n : ℕ) (here : last_of free ≡ Some n) where
    pub in_free : is_in n free ≡ true
    in_free = last_in n free here

    pub lacks : is_in n ns ≡ false
    lacks = not_first n order.lists (once_in order once) in_free

    pub empty : get_or items n None ≡ None
    empty = none_of (get_or items n None) (sym lacks ∙ sound.filled n)

    pub known : n < room
    known =
        let below : n < order.numbers = stands_below order.numbers n order.lists once.below (stands_in n 1 order.lists in_free) in
        omega (arith, below, sound.known)

    -- It has a place.
    module _ (inside : n < length items) where
      slot : (x : T) → get_or (set items n (Some x)) n None ≡ Some x
      slot x = get_or-set_same items n (Some x) None inside

      held_now : (x : T) (m : ℕ) → is_in m ns ≡ true → get_or (set items n (Some x)) m None ≡ get_or items m None
      held_now x m k = get_or-set_other items n m (Some x) None (other_there m n ns lacks k)

      fewer_free : length (without n free) + 1 ≡ length free
      fewer_free = length_without n free (once_at 1 order.lists (once_in order once)) in_free

      -- with any order in which it is one more
      module _ (next : Lists) (two : length next.lists ≡ 2) (numbers : next.numbers ≡ order.numbers) (own : is_in n (get_or next.lists 0 []) ≡ true) (others : (m : ℕ) → (m ≡ n → ⊥) → is_in m (get_or next.lists 0 []) ≡ is_in m ns)
          (more : length (get_or next.lists 0 []) ≡ length ns + 1) (fewer : get_or next.lists 1 [] ≡ without n free) where
        filled_step : (x : T) (m : ℕ) (t : Bool) → (m == n) ≡ t → is_in m (get_or next.lists 0 []) ≡ is_some (get_or (set items n (Some x)) m None)
        filled_step x m true e =
            let same : m ≡ n = eqb-true m n e in
            ap (λ k. is_in k (get_or next.lists 0 [])) same ∙ own ∙ sym (ap (λ k. is_some (get_or (set items n (Some x)) k None)) same ∙ ap is_some (slot x))
        filled_step x m false e =
            let other = eqb-false m n e in
            others m other ∙ sound.filled m ∙ sym (ap is_some (get_or-set_other items n m (Some x) None other))

        none_under : (x : T) → first_such (λ t. eq (key t) (key x)) (items_of items ns) ≡ None → (y : T) → Some x ≡ Some y → (m : ℕ) (u : T) → (m ≡ n → ⊥) → get_or items m None ≡ Some u → eq (key u) (key y) ≡ true → ⊥
        none_under x absent y is m u other there like =
            let same : x ≡ y = cc in
            let passes_there : passes (λ t. eq (key t) (key x)) items m ≡ true = ap (passes_in (λ t. eq (key t) (key x))) there ∙ ap (λ z. eq (key u) (key z)) same ∙ like in
            let stands : is_in m ns ≡ true = sound.filled m ∙ ap is_some there in
            let some = found_there (passes (λ t. eq (key t) (key x)) items) m ns passes_there stands in
            let none = ap is_some (sym (first_item (λ t. eq (key t) (key x)) items ns) ∙ absent) in
            cc

        pub sound_come : (x : T) (b : ℕ) → first_such (λ t. eq (key t) (key x)) (items_of items ns) ≡ None → b ≡ hash (key x) % room → b < room →
            IsSound eq key hash (set items n (Some x)) next (record buckets { lists = pushed b n buckets.lists }) (live + 1) room
        sound_come x b absent is few =
            let less : length (get_or next.lists 1 []) ≡ length (without n free) = ap length fewer in
            let rest = fewer_free in
            record {
              some = sound.some;
              few = sound.few;
              slots = (let same = length-set items n (Some x) in omega (arith, same, sound.slots));
              two = two;
              known = numbers ∙ sound.known;
              filled = λ m. filled_step x m (m == n) refl;
              all = omega (arith, more, less, rest, sound.all);
              count = omega (arith, more, sound.count);
              filed = filed_come (λ t. hash (key t)) items room buckets sound.filed n b x empty inside is few;
              unlike = unlike_set eq key is_same is_own items sound.unlike n (Some x) inside (none_under x absent);
            }

      -- behind all others
      first_last : get_or (moved 0 n order).lists 0 [] ≡ ns ++ n ∷ []
      first_last =
          at_pushed_own 0 n (map (without n) order.lists) (omega (arith, left_two n))
          ∙ ap (λ ms. ms ++ n ∷ []) (at_without 0 n order.lists ∙ without_lacking n ns lacks)

      second_last : get_or (moved 0 n order).lists 1 [] ≡ without n free
      second_last = at_pushed_other 0 1 n (map (without n) order.lists) (λ e. omega (arith, e)) ∙ at_without 1 n order.lists

      pub sound_last : (x : T) (b : ℕ) → first_such (λ t. eq (key t) (key x)) (items_of items ns) ≡ None → b ≡ hash (key x) % room → b < room →
          IsSound eq key hash (set items n (Some x)) (moved 0 n order) (record buckets { lists = pushed b n buckets.lists }) (live + 1) room
      sound_last = sound_come (moved 0 n order) (moved_two 0 n) refl (ap (is_in n) first_last ∙ in_last n ns) (λ m h. ap (is_in m) first_last ∙ in_more m n ns h)
          (ap length first_last ∙ length-append ns (n ∷ [])) second_last

      pub items_come : (x : T) → items_of (set items n (Some x)) (get_or (moved 0 n order).lists 0 []) ≡ items_of items ns ++ record { number = n; item = x } ∷ []
      items_come x =
          ap (items_of (set items n (Some x))) first_last
          ∙ items_more (set items n (Some x)) ns n x (slot x)
          ∙ ap (λ (ks : List (Numbered T)). ks ++ record { number = n; item = x } ∷ []) (items_alike (set items n (Some x)) items ns (held_now x))

      -- before another
      module _ (at : ℕ) (there : is_some (get_or items at None) ≡ true) where
        at_stands : is_in at ns ≡ true
        at_stands = sound.filled at ∙ there

        at_other : at ≡ n → ⊥
        at_other e = other_there at n ns lacks at_stands e

        first_placed : get_or (placed n at order).lists 0 [] ≡ inserted n at ns
        first_placed = at_inserted 0 n at (map (without n) order.lists) ∙ ap (inserted n at) (at_without 0 n order.lists ∙ without_lacking n ns lacks)

        second_placed : get_or (placed n at order).lists 1 [] ≡ without n free
        second_placed =
            at_inserted 1 n at (map (without n) order.lists) ∙ ap (inserted n at) (at_without 1 n order.lists)
            ∙ inserted_lacking n at (without n free) (in_without at n free at_other ∙ not_second at order.lists (once_in order once) at_stands)

        placed_two : length (placed n at order).lists ≡ 2
        placed_two = length-map (map (without n) order.lists) (inserted n at) ∙ left_two n

        pub sound_before : (x : T) (b : ℕ) → first_such (λ t. eq (key t) (key x)) (items_of items ns) ≡ None → b ≡ hash (key x) % room → b < room →
            IsSound eq key hash (set items n (Some x)) (placed n at order) (record buckets { lists = pushed b n buckets.lists }) (live + 1) room
        sound_before = sound_come (placed n at order) placed_two refl (ap (is_in n) first_placed ∙ in_own n at ns at_stands) (λ m h. ap (is_in m) first_placed ∙ in_inserted m n at ns h)
            (ap length first_placed ∙ length_inserted n at ns (once_at 0 order.lists (once_in order once)) at_stands) second_placed

        filled_now : (x : T) (m : ℕ) → is_in m ns ≡ true → true ≡ is_some (get_or (set items n (Some x)) m None)
        filled_now x m k = held eq key hash is_same is_own items order buckets live room sound m k ∙ ap is_some (sym (held_now x m k))

        pub items_before : (x : T) → items_of (set items n (Some x)) (get_or (placed n at order).lists 0 []) ≡ inserted_at at (record { number = n; item = x }) (items_of items ns)
        items_before x =
            ap (items_of (set items n (Some x))) first_placed
            ∙ items_inserted (set items n (Some x)) n at x ns (slot x) (once_at 0 order.lists (once_in order once)) (filled_now x)
            ∙ ap (inserted_at at (record { number = n; item = x })) (items_alike (set items n (Some x)) items ns (held_now x))

  -- An item stands under a number.
  module _ (n : ℕ) (y : T) (here : get_or items n None ≡ Some y) where
    pub stands : is_in n ns ≡ true
    stands = sound.filled n ∙ ap is_some here

    pub stands_known : n < room
    stands_known =
        let below : n < order.numbers = stands_below order.numbers n order.lists once.below (stands_in n 0 order.lists stands) in
        omega (arith, below, sound.known)

    pub within : n < length items
    within = got_within items n y here

    -- it goes
    first_left : get_or (moved 1 n order).lists 0 [] ≡ without n ns
    first_left = at_pushed_other 1 0 n (map (without n) order.lists) (λ e. omega (arith, e)) ∙ at_without 0 n order.lists

    second_left : get_or (moved 1 n order).lists 1 [] ≡ free ++ n ∷ []
    second_left =
        at_pushed_own 1 n (map (without n) order.lists) (omega (arith, left_two n))
        ∙ ap (λ ms. ms ++ n ∷ []) (at_without 1 n order.lists ∙ without_lacking n free (not_second n order.lists (once_in order once) stands))

    empty_step : (m : ℕ) (t : Bool) → (m == n) ≡ t → is_in m (without n ns) ≡ is_some (get_or (set items n None) m None)
    empty_step m true e =
        let same : m ≡ n = eqb-true m n e in
        ap (λ k. is_in k (without n ns)) same ∙ gone n ns
        ∙ sym (ap (λ k. is_some (get_or (set items n None) k None)) same ∙ ap is_some (get_or-set_same items n None None within))
    empty_step m false e =
        let other = eqb-false m n e in
        in_without m n ns other ∙ sound.filled m ∙ sym (ap is_some (get_or-set_other items n m None None other))

    pub sound_go : IsSound eq key hash (set items n None) (moved 1 n order) (record buckets { lists = map (without n) buckets.lists }) (live - 1) room
    sound_go =
        let fewer : length (get_or (moved 1 n order).lists 0 []) + 1 ≡ length ns = ap (λ (ms : List ℕ). length ms + 1) first_left ∙ length_without n ns (once_at 0 order.lists (once_in order once)) stands in
        let more : length (get_or (moved 1 n order).lists 1 []) ≡ length free + 1 = ap length second_left ∙ length-append free (n ∷ []) in
        record {
          some = sound.some;
          few = sound.few;
          slots = (let same = length-set items n None in omega (arith, same, sound.slots));
          two = moved_two 1 n;
          known = sound.known;
          filled = λ m. ap (is_in m) first_left ∙ empty_step m (m == n) refl;
          all = omega (arith, more, fewer, sound.all);
          count = omega (arith, fewer, sound.count);
          filed = filed_go (λ t. hash (key t)) items room buckets sound.filed n within;
          unlike = unlike_set eq key is_same is_own items sound.unlike n None within (λ x e. cc);
        }

    pub items_go : items_of (set items n None) (get_or (moved 1 n order).lists 0 []) ≡ without_number n (items_of items ns)
    items_go =
        ap (items_of (set items n None)) first_left
        ∙ items_alike (set items n None) items (without n ns) (λ m k. get_or-set_other items n m None None (other_there m n (without n ns) (gone n ns) k))
        ∙ sym (items_left n items ns)

    -- it moves behind all others
    first_moved : get_or (moved 0 n order).lists 0 [] ≡ without n ns ++ n ∷ []
    first_moved =
        at_pushed_own 0 n (map (without n) order.lists) (omega (arith, left_two n)) ∙ ap (λ ms. ms ++ n ∷ []) (at_without 0 n order.lists)

    second_moved : get_or (moved 0 n order).lists 1 [] ≡ free
    second_moved =
        at_pushed_other 0 1 n (map (without n) order.lists) (λ e. omega (arith, e)) ∙ at_without 1 n order.lists
        ∙ without_lacking n free (not_second n order.lists (once_in order once) stands)

    moved_step : (m : ℕ) (t : Bool) → (m == n) ≡ t → is_in m (without n ns ++ n ∷ []) ≡ is_in m ns
    moved_step m true e =
        let same : m ≡ n = eqb-true m n e in
        ap (λ k. is_in k (without n ns ++ n ∷ [])) same ∙ in_last n (without n ns) ∙ sym (ap (λ k. is_in k ns) same ∙ stands)
    moved_step m false e =
        let other = eqb-false m n e in
        in_more m n (without n ns) other ∙ in_without m n ns other

    pub sound_moved : IsSound eq key hash items (moved 0 n order) buckets live room
    sound_moved =
        let same : length (get_or (moved 0 n order).lists 0 []) ≡ length (without n ns) + 1 = ap length first_moved ∙ length-append (without n ns) (n ∷ []) in
        let fewer = length_without n ns (once_at 0 order.lists (once_in order once)) stands in
        let rest : length (get_or (moved 0 n order).lists 1 []) ≡ length free = ap length second_moved in
        record {
          some = sound.some;
          few = sound.few;
          slots = sound.slots;
          two = moved_two 0 n;
          known = sound.known;
          filled = λ m. ap (is_in m) first_moved ∙ moved_step m (m == n) refl ∙ sound.filled m;
          all = omega (arith, same, fewer, rest, sound.all);
          count = omega (arith, same, fewer, sound.count);
          filed = sound.filed;
          unlike = sound.unlike;
        }

    pub items_moved : items_of items (get_or (moved 0 n order).lists 0 []) ≡ moved_last n (items_of items ns)
    items_moved = ap (items_of items) first_moved ∙ items_last n y items ns (once_at 0 order.lists (once_in order once)) here stands

    -- another of its key takes its place
    module _ (x : T) (like : key y ≡ key x) where
      same_step : (m : ℕ) (t : Bool) → (m == n) ≡ t → is_some (get_or items m None) ≡ is_some (get_or (set items n (Some x)) m None)
      same_step m true e =
          let same : m ≡ n = eqb-true m n e in
          ap (λ k. is_some (get_or items k None)) same ∙ ap is_some here
          ∙ sym (ap (λ k. is_some (get_or (set items n (Some x)) k None)) same ∙ ap is_some (get_or-set_same items n (Some x) None within))
      same_step m false e = ap is_some (sym (get_or-set_other items n m (Some x) None (eqb-false m n e)))

      other_under : (z : T) → Some x ≡ Some z → (m : ℕ) (u : T) → (m ≡ n → ⊥) → get_or items m None ≡ Some u → eq (key u) (key z) ≡ true → ⊥
      other_under z is m u other there same =
          let own : x ≡ z = cc in
          other (sound.unlike m n u y there here (ap (eq (key u)) (like ∙ ap key own) ∙ same))

      pub sound_put : IsSound eq key hash (set items n (Some x)) order buckets live room
      sound_put = record {
        some = sound.some;
        few = sound.few;
        slots = (let same = length-set items n (Some x) in omega (arith, same, sound.slots));
        two = sound.two;
        known = sound.known;
        filled = λ m. sound.filled m ∙ same_step m (m == n) refl;
        all = sound.all;
        count = sound.count;
        filed = filed_put (λ t. hash (key t)) items room buckets sound.filed n within x y here (ap hash like);
        unlike = unlike_set eq key is_same is_own items sound.unlike n (Some x) within other_under;
      }

      pub items_put_in : items_of (set items n (Some x)) ns ≡ map (put_at n x) (items_of items ns)
      items_put_in = items_put items n x ns within (held eq key hash is_same is_own items order buckets live room sound)

  -- no item has the number
  module _ (n : ℕ) (none : get_or items n None ≡ None) where
    absent : is_in n ns ≡ false
    absent = sound.filled n ∙ ap is_some none

    pub items_stay : without_number n (items_of items ns) ≡ items_of items ns
    items_stay = items_left n items ns ∙ ap (items_of items) (without_lacking n ns absent)

    pub moved_stay : moved_last n (items_of items ns) ≡ items_of items ns
    moved_stay = ap (λ ks. ks ++ filter (has_number n) (items_of items ns)) items_stay ∙ ap (λ ks. items_of items ns ++ ks) (lone_absent n items ns absent) ∙ append-nil (items_of items ns)

    pub put_stay : (x : T) → map (put_at n x) (items_of items ns) ≡ items_of items ns
    put_stay x = put_absent n x items ns absent
