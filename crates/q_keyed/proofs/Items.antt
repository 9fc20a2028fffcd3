-- The items under numbers: which are found, and by what number.
use Rattle.std.proofs.Common.{◌≡◌, ◌∙◌, ◌∷◌, ◌++◌, [], ap, Bool, cond, false, get_or, length, List, None, Option, option_map, refl, Some, suc, sym, true, ℕ}
use Rattle.std.proofs.lemmas.Bool.{eqb-true}
use Rattle.std.proofs.lemmas.List.Elements.{filter_map-append}
use Rattle.std.specs.List.{cons_option}
use Rattle.std.specs.Option.{is_some}
use Rattle.std.specs.Prelude.{◌==◌, ◌||◌, find, nat_eq, not}
use Rattle.q_chains.specs.Lists.{first_of, is_in, without}
use Rattle.q_chains.specs.Onward.{after}
use Rattle.q_chains.proofs.Numbers.{AreOnce, flipped, head_in, or_right}
use Rattle.q_keyed.specs.Numbered.{AreApart, first_number, first_such, has_number, item_at, next_number, Numbered, without_number}
use Rattle.q_chains.specs.Slots.{passes, passes_in}
use Rattle.q_keyed.specs.Slots.{items_of, numbered_in}

absent_parts : (n m : ℕ) (ns : List ℕ) (t : Bool) → nat_eq n m ≡ t → (t || is_in n ns) ≡ false → ((m == n) ≡ false) × (is_in n ns ≡ false)
absent_parts n m ns true e h = cc
absent_parts n m ns false e h = (flipped m n ∙ e, h)

module _ {T : Type 0} where
  -- an item stands under each of these numbers
  abbrev pub AreFilled : List (Option T) → List ℕ → Type 0
  AreFilled items ns = (n : ℕ) → is_in n ns ≡ true → true ≡ is_some (get_or items n None)

  pub filled_rest : (items : List (Option T)) (n : ℕ) (ns : List ℕ) → AreFilled items (n ∷ ns) → AreFilled items ns
  filled_rest items n ns h = λ m k. h m (or_right (nat_eq m n) (is_in m ns) k)

  first_found : (p : T → Bool) (n : ℕ) (x : T) (ks : List (Numbered T)) (found : Option ℕ) (t : Bool) → first_such p ks ≡ found →
      option_map (λ (k : Numbered T). k.number) (cond t (Some (record { number = n; item = x })) (find (λ k. p k.item) ks)) ≡ cond t (Some n) found
  first_found p n x ks found true h = refl
  first_found p n x ks found false h = h

  first_step : (p : T → Bool) (n : ℕ) (o : Option T) (ks : List (Numbered T)) (found : Option ℕ) → first_such p ks ≡ found →
      first_such p (cons_option (numbered_in n o) ks) ≡ cond (passes_in p o) (Some n) found
  first_step p n None ks found h = h
  first_step p n (Some x) ks found h = first_found p n x ks found (p x) h

  -- the first item that passes
  pub first_item : (p : T → Bool) (items : List (Option T)) (ns : List ℕ) → first_such p (items_of items ns) ≡ find (passes p items) ns
  first_item p items [] = refl
  first_item p items (n ∷ ns) = first_step p n (get_or items n None) (items_of items ns) (find (passes p items) ns) (first_item p items ns)

  head_step : (n : ℕ) (o : Option T) (ks : List (Numbered T)) → true ≡ is_some o → first_number (cons_option (numbered_in n o) ks) ≡ Some n
  head_step n None ks h = cc
  head_step n (Some x) ks h = refl

  -- the first of all
  pub first_numbers : (items : List (Option T)) (ns : List ℕ) → AreFilled items ns → first_number (items_of items ns) ≡ first_of ns
  first_numbers items [] h = refl
  first_numbers items (n ∷ ns) h = head_step n (get_or items n None) (items_of items ns) (h n (head_in n ns))

  next_step : (n m : ℕ) (o : Option T) (items : List (Option T)) (ms : List ℕ) (t : Bool) → (m == n) ≡ t → true ≡ is_some o → first_number (items_of items ms) ≡ first_of ms →
      next_number n (items_of items ms) ≡ first_of (after n ms) → next_number n (cons_option (numbered_in m o) (items_of items ms)) ≡ first_of (cond t ms (after n ms))
  next_step n m None items ms t e held first rest = cc
  next_step n m (Some x) items ms true e held first rest =
      ap (λ t. cond t (first_number (items_of items ms)) (next_number n (items_of items ms))) e ∙ first
  next_step n m (Some x) items ms false e held first rest =
      ap (λ t. cond t (first_number (items_of items ms)) (next_number n (items_of items ms))) e ∙ rest

  -- the one right behind a number
  pub next_numbers : (n : ℕ) (items : List (Option T)) (ns : List ℕ) → AreFilled items ns → next_number n (items_of items ns) ≡ first_of (after n ns)
  next_numbers n items [] h = refl
  next_numbers n items (m ∷ ms) h =
      next_step n m (get_or items m None) items ms (m == n) refl (h m (head_in m ms))
      (first_numbers items ms (filled_rest items m ms h)) (next_numbers n items ms (filled_rest items m ms h))

  none_either : (t : Bool) (o : Option T) → o ≡ None → cond t o None ≡ o
  none_either true o h = refl
  none_either false o h = sym h

  item_step : (n m : ℕ) (o held : Option T) (ks : List (Numbered T)) (t u : Bool) → (m == n) ≡ t → (t ≡ true → o ≡ held) → item_at n ks ≡ cond u held None →
      item_at n (cons_option (numbered_in m o) ks) ≡ cond (t || u) held None
  item_step n m None held ks true u e same rest = rest ∙ none_either u held (sym (same refl))
  item_step n m (Some x) held ks true u e same rest =
      ap (λ t. option_map (λ (k : Numbered T). k.item) (cond t (Some (record { number = m; item = x })) (find (has_number n) ks))) e ∙ same refl
  item_step n m None held ks false u e same rest = rest
  item_step n m (Some x) held ks false u e same rest =
      ap (λ t. option_map (λ (k : Numbered T). k.item) (cond t (Some (record { number = m; item = x })) (find (has_number n) ks))) e ∙ rest

  item_either : (n : ℕ) (items : List (Option T)) (ns : List ℕ) → item_at n (items_of items ns) ≡ cond (is_in n ns) (get_or items n None) None
  item_either n items [] = refl
  item_either n items (m ∷ ns) =
      item_step n m (get_or items m None) (get_or items n None) (items_of items ns) (m == n) (is_in n ns) refl (λ e. ap (λ k. get_or items k None) (eqb-true m n e)) (item_either n items ns)
      ∙ ap (λ t. cond (t || is_in n ns) (get_or items n None) None) (flipped m n)

  held_step : (o : Option T) (t : Bool) → t ≡ is_some o → cond t o None ≡ o
  held_step o true h = refl
  held_step None false h = refl
  held_step (Some x) false h = cc

  -- the item of a number, where just those numbers have one
  pub item_is : (n : ℕ) (items : List (Option T)) (ns : List ℕ) → is_in n ns ≡ is_some (get_or items n None) → item_at n (items_of items ns) ≡ get_or items n None
  item_is n items ns h = item_either n items ns ∙ held_step (get_or items n None) (is_in n ns) h

  count_step : (n : ℕ) (o : Option T) (ks : List (Numbered T)) (ns : List ℕ) → true ≡ is_some o → length ks ≡ length ns → length (cons_option (numbered_in n o) ks) ≡ suc (length ns)
  count_step n None ks ns h rest = cc
  count_step n (Some x) ks ns h rest = ap suc rest

  -- as many items as numbers
  pub count_items : (items : List (Option T)) (ns : List ℕ) → AreFilled items ns → length (items_of items ns) ≡ length ns
  count_items items [] h = refl
  count_items items (n ∷ ns) h =
      count_step n (get_or items n None) (items_of items ns) ns (h n (head_in n ns)) (count_items items ns (filled_rest items n ns h))

  absent_step : (n m : ℕ) (o : Option T) (ks : List (Numbered T)) → (m == n) ≡ false → find (has_number n) ks ≡ None → find (has_number n) (cons_option (numbered_in m o) ks) ≡ None
  absent_step n m None ks e rest = rest
  absent_step n m (Some x) ks e rest = ap (λ t. cond t (Some (record { number = m; item = x })) (find (has_number n) ks)) e ∙ rest

  -- a number that isn't among these
  pub absent_item : (n : ℕ) (items : List (Option T)) (ns : List ℕ) → is_in n ns ≡ false → find (has_number n) (items_of items ns) ≡ None
  absent_item n items [] h = refl
  absent_item n items (m ∷ ns) h =
      let parts = absent_parts n m ns (nat_eq n m) refl h in
      absent_step n m (get_or items m None) (items_of items ns) parts.0 (absent_item n items ns parts.1)

  apart_step : (n : ℕ) (o : Option T) (ks : List (Numbered T)) → find (has_number n) ks ≡ None → AreApart ks → AreApart (cons_option (numbered_in n o) ks)
  apart_step n None ks h rest = rest
  apart_step n (Some x) ks h rest = (h, rest)

  pub apart_items : (items : List (Option T)) (ns : List ℕ) → AreOnce ns → AreApart (items_of items ns)
  apart_items items [] h = tt
  apart_items items (n ∷ ns) h = apart_step n (get_or items n None) (items_of items ns) (absent_item n items ns h.0) (apart_items items ns h.1)

  -- other items, but the same under these numbers
  pub items_alike : (items others : List (Option T)) (ns : List ℕ) → ((n : ℕ) → is_in n ns ≡ true → get_or items n None ≡ get_or others n None) → items_of items ns ≡ items_of others ns
  items_alike items others [] h = refl
  items_alike items others (n ∷ ns) h =
      ap (λ o. cons_option (numbered_in n o) (items_of items ns)) (h n (head_in n ns))
      ∙ ap (cons_option (numbered_in n (get_or others n None))) (items_alike items others ns (λ m k. h m (or_right (nat_eq m n) (is_in m ns) k)))

  -- an item behind the others
  pub items_more : (items : List (Option T)) (ns : List ℕ) (n : ℕ) (x : T) → get_or items n None ≡ Some x →
      items_of items (ns ++ n ∷ []) ≡ items_of items ns ++ record { number = n; item = x } ∷ []
  items_more items ns n x h =
      filter_map-append (λ n. numbered_in n (get_or items n None)) ns (n ∷ [])
      ∙ ap (λ o. items_of items ns ++ cons_option (numbered_in n o) []) h

  left_step : (n m : ℕ) (o : Option T) (items : List (Option T)) (ns : List ℕ) (t : Bool) → get_or items m None ≡ o → (m == n) ≡ t → without_number n (items_of items ns) ≡ items_of items (without n ns) →
      without_number n (cons_option (numbered_in m o) (items_of items ns)) ≡ items_of items (cond (not t) (m ∷ without n ns) (without n ns))
  left_step n m None items ns true is e rest = rest
  left_step n m None items ns false is e rest = rest ∙ sym (ap (λ o. cons_option (numbered_in m o) (items_of items (without n ns))) is)
  left_step n m (Some x) items ns true is e rest =
      ap (λ t. cond (not t) (record { number = m; item = x } ∷ without_number n (items_of items ns)) (without_number n (items_of items ns))) e ∙ rest
  left_step n m (Some x) items ns false is e rest =
      ap (λ t. cond (not t) (record { number = m; item = x } ∷ without_number n (items_of items ns)) (without_number n (items_of items ns))) e
      ∙ ap (λ ks. record { number = m; item = x } ∷ ks) rest
      ∙ sym (ap (λ o. cons_option (numbered_in m o) (items_of items (without n ns))) is)

  -- the items of all other numbers
  pub items_left : (n : ℕ) (items : List (Option T)) (ns : List ℕ) → without_number n (items_of items ns) ≡ items_of items (without n ns)
  items_left n items [] = refl
  items_left n items (m ∷ ns) = left_step n m (get_or items m None) items ns (m == n) refl refl (items_left n items ns)
