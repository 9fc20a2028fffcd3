-- A row comes under a free number, and a row goes.
use Rattle.std.proofs.Common.{◌≡◌, ◌∙◌, ◌∷◌, ◌++◌, ◌+◌, ◌-◌, ◌%◌, ◌<◌, [], ap, arith, Bool, false, get_or, length, List, map, None, Option, refl, set, Some, subst, sym, true, ℕ}
use Rattle.std.proofs.lemmas.Bool.{eqb-false, eqb-true}
use Rattle.std.proofs.lemmas.List.{get_or-set_other, get_or-set_same, length-append, length-map, length-set}
use Rattle.std.specs.Option.{is_some}
use Rattle.std.specs.Prelude.{◌==◌, filter, not}
use Rattle.q_chains.proofs.Borders.{stands_below}
use Rattle.q_chains.specs.Lists.{first_of, is_in, Lists, pushed, StandOnce, without}
use Rattle.q_model.specs.declared.rows.Row.{Row}
use Rattle.q_peers.specs.Buckets.{peer_key, site_key}
use Rattle.q_peers.specs.Numbered.{has_number, Numbered}
use Rattle.q_peers.specs.Slots.{items_of}
use Rattle.q_peers.specs.Sound.{AreFiled, IsSound}
use Rattle.q_chains.proofs.Chained.{at_pushed_other, at_pushed_own, at_without, gone, in_last, in_more, in_without, length_pushed, length_without, moved, without_lacking}
use Rattle.q_peers.proofs.Filed.{filed_come, filed_go}
use Rattle.q_peers.proofs.Items.{items_alike, items_left, items_more}
use Rattle.q_chains.proofs.Numbers.{first_in, first_none, not_first, not_second, once_at, other_there, stands_in}
use Rattle.q_peers.proofs.Standing.{count}
use Rattle.q_chains.proofs.Steps.{once_in}

module _ (rows : List (Option Row)) (order peers sites : Lists) (live room : ℕ) (sound : IsSound rows order peers sites live room) where
  abbrev ns : List ℕ
  ns = get_or order.lists 0 []

  abbrev free : List ℕ
  free = get_or order.lists 1 []

  -- a number is free where there is room
  pub has_free : length (items_of rows ns) < room → first_of free ≡ None → ⊥
  has_free few h =
      let none = first_none free h in
      let all = count rows order peers sites live room sound in
      omega (arith, few, none, all, sound.all)

  left_two : (n : ℕ) → length (map (without n) order.lists) ≡ 2
  left_two n = length-map order.lists (without n) ∙ sound.two

  moved_two : (list n : ℕ) → length (pushed list n (map (without n) order.lists)) ≡ 2
  moved_two list n = length_pushed list n (map (without n) order.lists) ∙ left_two n

  -- A row comes.
  module _ (once : StandOnce order) (n : ℕ) (here : first_of free ≡ Some n) where
    pub in_free : is_in n free ≡ true
    in_free = first_in n free here

    pub lacks : is_in n ns ≡ false
    lacks = not_first n order.lists (once_in order once) in_free

    pub known : n < room
    known =
        let below : n < order.numbers = stands_below order.numbers n order.lists once.below (stands_in n 1 order.lists in_free) in
        omega (arith, below, sound.known)

    first_list : get_or (moved 0 n order).lists 0 [] ≡ ns ++ n ∷ []
    first_list =
        at_pushed_own 0 n (map (without n) order.lists) (omega (arith, left_two n))
        ∙ ap (λ ms. ms ++ n ∷ []) (at_without 0 n order.lists ∙ without_lacking n ns lacks)

    second_list : get_or (moved 0 n order).lists 1 [] ≡ without n free
    second_list = at_pushed_other 0 1 n (map (without n) order.lists) (λ e. omega (arith, e)) ∙ at_without 1 n order.lists

    slot : (r : Row) → get_or (set rows n (Some r)) n None ≡ Some r
    slot r = get_or-set_same rows n (Some r) None (let k = known in omega (arith, k, sound.slots))

    filled_step : (r : Row) (m : ℕ) (t : Bool) → (m == n) ≡ t → is_in m (ns ++ n ∷ []) ≡ is_some (get_or (set rows n (Some r)) m None)
    filled_step r m true e =
        let same : m ≡ n = eqb-true m n e in
        ap (λ k. is_in k (ns ++ n ∷ [])) same ∙ in_last n ns ∙ sym (ap (λ k. is_some (get_or (set rows n (Some r)) k None)) same ∙ ap is_some (slot r))
    filled_step r m false e =
        let other = eqb-false m n e in
        in_more m n ns other ∙ sound.filled m ∙ sym (ap is_some (get_or-set_other rows n m (Some r) None other))

    pub sound_come : (r : Row) (b c : ℕ) → b ≡ peer_key r % room → b < room → c ≡ site_key r % room → c < room →
        IsSound (set rows n (Some r)) (moved 0 n order) (record peers { lists = pushed b n peers.lists }) (record sites { lists = pushed c n sites.lists }) (live + 1) room
    sound_come r b c is_b few_b is_c few_c =
        let inside : n < length rows = (let k = known in omega (arith, k, sound.slots)) in
        let more : length (get_or (moved 0 n order).lists 0 []) ≡ length ns + 1 = ap length first_list ∙ length-append ns (n ∷ []) in
        let fewer : length (get_or (moved 0 n order).lists 1 []) + 1 ≡ length free = ap (λ (ms : List ℕ). length ms + 1) second_list ∙ length_without n free (once_at 1 order.lists (once_in order once)) in_free in
        record {
          some = sound.some;
          few = sound.few;
          slots = length-set rows n (Some r) ∙ sound.slots;
          two = moved_two 0 n;
          known = sound.known;
          filled = λ m. ap (is_in m) first_list ∙ filled_step r m (m == n) refl;
          all = omega (arith, more, fewer, sound.all);
          count = omega (arith, more, sound.count);
          by_peer = subst (λ (ms : List ℕ). AreFiled peer_key (set rows n (Some r)) ms room (record peers { lists = pushed b n peers.lists })) (sym first_list)
              (filed_come peer_key rows ns room peers sound.by_peer n b r lacks inside is_b few_b);
          by_site = subst (λ (ms : List ℕ). AreFiled site_key (set rows n (Some r)) ms room (record sites { lists = pushed c n sites.lists })) (sym first_list)
              (filed_come site_key rows ns room sites sound.by_site n c r lacks inside is_c few_c);
        }

    pub items_come : (r : Row) → items_of (set rows n (Some r)) (get_or (moved 0 n order).lists 0 []) ≡ items_of rows ns ++ record { number = n; row = r } ∷ []
    items_come r =
        ap (items_of (set rows n (Some r))) first_list
        ∙ items_more (set rows n (Some r)) ns n r (slot r)
        ∙ ap (λ (ks : List Numbered). ks ++ record { number = n; row = r } ∷ []) (items_alike (set rows n (Some r)) rows ns (λ m k. get_or-set_other rows n m (Some r) None (other_there m n ns lacks k)))

  -- A row goes.
  module _ (once : StandOnce order) (n : ℕ) (there : is_some (get_or rows n None) ≡ true) where
    pub waits : is_in n ns ≡ true
    waits = sound.filled n ∙ there

    pub waits_below : n < room
    waits_below =
        let below : n < order.numbers = stands_below order.numbers n order.lists once.below (stands_in n 0 order.lists waits) in
        omega (arith, below, sound.known)

    first_left : get_or (moved 1 n order).lists 0 [] ≡ without n ns
    first_left = at_pushed_other 1 0 n (map (without n) order.lists) (λ e. omega (arith, e)) ∙ at_without 0 n order.lists

    second_left : get_or (moved 1 n order).lists 1 [] ≡ free ++ n ∷ []
    second_left =
        at_pushed_own 1 n (map (without n) order.lists) (omega (arith, left_two n))
        ∙ ap (λ ms. ms ++ n ∷ []) (at_without 1 n order.lists ∙ without_lacking n free (not_second n order.lists (once_in order once) waits))

    empty_step : (m : ℕ) (t : Bool) → (m == n) ≡ t → n < length rows → is_in m (without n ns) ≡ is_some (get_or (set rows n None) m None)
    empty_step m true e inside =
        let same : m ≡ n = eqb-true m n e in
        ap (λ k. is_in k (without n ns)) same ∙ gone n ns
        ∙ sym (ap (λ k. is_some (get_or (set rows n None) k None)) same ∙ ap is_some (get_or-set_same rows n None None inside))
    empty_step m false e inside =
        let other = eqb-false m n e in
        in_without m n ns other ∙ sound.filled m ∙ sym (ap is_some (get_or-set_other rows n m None None other))

    pub sound_go : IsSound (set rows n None) (moved 1 n order) (record peers { lists = map (without n) peers.lists }) (record sites { lists = map (without n) sites.lists }) (live - 1) room
    sound_go =
        let inside : n < length rows = (let k = waits_below in omega (arith, k, sound.slots)) in
        let fewer : length (get_or (moved 1 n order).lists 0 []) + 1 ≡ length ns = ap (λ (ms : List ℕ). length ms + 1) first_left ∙ length_without n ns (once_at 0 order.lists (once_in order once)) waits in
        let more : length (get_or (moved 1 n order).lists 1 []) ≡ length free + 1 = ap length second_left ∙ length-append free (n ∷ []) in
        record {
          some = sound.some;
          few = sound.few;
          slots = length-set rows n None ∙ sound.slots;
          two = moved_two 1 n;
          known = sound.known;
          filled = λ m. ap (is_in m) first_left ∙ empty_step m (m == n) refl inside;
          all = omega (arith, more, fewer, sound.all);
          count = omega (arith, fewer, sound.count);
          by_peer = subst (λ (ms : List ℕ). AreFiled peer_key (set rows n None) ms room (record peers { lists = map (without n) peers.lists })) (sym first_left)
              (filed_go peer_key rows ns room peers sound.by_peer n);
          by_site = subst (λ (ms : List ℕ). AreFiled site_key (set rows n None) ms room (record sites { lists = map (without n) sites.lists })) (sym first_left)
              (filed_go site_key rows ns room sites sound.by_site n);
        }

    pub items_go : items_of (set rows n None) (get_or (moved 1 n order).lists 0 []) ≡ filter (λ k. not (has_number n k)) (items_of rows ns)
    items_go =
        ap (items_of (set rows n None)) first_left
        ∙ items_alike (set rows n None) rows (without n ns) (λ m k. get_or-set_other rows n m None None (other_there m n (without n ns) (gone n ns) k))
        ∙ sym (items_left n rows ns)

  -- no row has the number, and none goes
  pub items_stay : (n : ℕ) → is_some (get_or rows n None) ≡ false → filter (λ k. not (has_number n k)) (items_of rows ns) ≡ items_of rows ns
  items_stay n h = items_left n rows ns ∙ ap (items_of rows) (without_lacking n ns (sound.filled n ∙ h))
