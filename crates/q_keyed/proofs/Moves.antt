-- The items under numbers, as one is put before another, in the place of another, or behind all.
use Rattle.std.proofs.Common.{◌≡◌, ◌∙◌, ◌∷◌, ◌++◌, ◌<◌, [], ap, Bool, cond, false, get_or, length, List, map, None, Option, refl, set, Some, sym, true, ℕ}
use Rattle.std.proofs.lemmas.Bool.{eqb-false, eqb-true}
use Rattle.std.proofs.lemmas.List.{get_or-set_other, get_or-set_same}
use Rattle.std.specs.List.{cons_option}
use Rattle.std.specs.Option.{is_some}
use Rattle.std.specs.Prelude.{◌==◌, ◌||◌, filter, nat_eq}
use Rattle.q_chains.specs.Lists.{inserted, is_in, without}
use Rattle.q_chains.proofs.Numbers.{AreOnce, flipped, head_in, or_parts, own_test}
use Rattle.q_keyed.proofs.Inserted.{inserted_head, inserted_tail}
use Rattle.q_keyed.proofs.Items.{AreFilled, filled_rest, items_left, items_more}
use Rattle.q_keyed.specs.Numbered.{has_number, inserted_at, moved_last, Numbered, put_at, without_number}
use Rattle.q_keyed.specs.Slots.{items_of, numbered_in}

module _ {T : Type 0} where
  -- the item of one number of these
  cons_of : (n m : ℕ) (o : Option T) (x : T) (ks : List (Numbered T)) → o ≡ Some x → cons_option (numbered_in m o) ks ≡ record { number = m; item = x } ∷ ks
  cons_of n m o x ks h = ap (λ o. cons_option (numbered_in m o) ks) h

  head_step : (m : ℕ) (o : Option T) (new : Numbered T) (ks : List (Numbered T)) → true ≡ is_some o → inserted_at m new (cons_option (numbered_in m o) ks) ≡ new ∷ cons_option (numbered_in m o) ks
  head_step m None new ks h = cc
  head_step m (Some y) new ks h = ap (λ t. cond t (new ∷ record { number = m; item = y } ∷ ks) (record { number = m; item = y } ∷ inserted_at m new ks)) (own_test m)

  tail_step : (at m : ℕ) (o : Option T) (new : Numbered T) (ks : List (Numbered T)) → true ≡ is_some o → (m == at) ≡ false →
      inserted_at at new (cons_option (numbered_in m o) ks) ≡ cons_option (numbered_in m o) (inserted_at at new ks)
  tail_step at m None new ks h e = cc
  tail_step at m (Some y) new ks h e = ap (λ t. cond t (new ∷ record { number = m; item = y } ∷ ks) (record { number = m; item = y } ∷ inserted_at at new ks)) e

  inserted_step : (items : List (Option T)) (n at m : ℕ) (x : T) (ns : List ℕ) (t : Bool) → (m == at) ≡ t → get_or items n None ≡ Some x → is_in m ns ≡ false → true ≡ is_some (get_or items m None) →
      items_of items (inserted n at ns) ≡ inserted_at at (record { number = n; item = x }) (items_of items ns) →
      items_of items (inserted n at (m ∷ ns)) ≡ inserted_at at (record { number = n; item = x }) (items_of items (m ∷ ns))
  inserted_step items n at m x ns true e here none held rest =
      let same : m ≡ at = eqb-true m at e in
      ap (λ k. items_of items (inserted n k (m ∷ ns))) (sym same)
      ∙ ap (items_of items) (inserted_head n m ns none)
      ∙ ap (λ o. cons_option (numbered_in n o) (items_of items (m ∷ ns))) here
      ∙ sym (head_step m (get_or items m None) (record { number = n; item = x }) (items_of items ns) held)
      ∙ ap (λ k. inserted_at k (record { number = n; item = x }) (items_of items (m ∷ ns))) same
  inserted_step items n at m x ns false e here none held rest =
      ap (items_of items) (inserted_tail n at m ns e)
      ∙ ap (cons_option (numbered_in m (get_or items m None))) rest
      ∙ sym (tail_step at m (get_or items m None) (record { number = n; item = x }) (items_of items ns) held e)

  -- one comes before another
  pub items_inserted : (items : List (Option T)) (n at : ℕ) (x : T) (ns : List ℕ) → get_or items n None ≡ Some x → AreOnce ns → AreFilled items ns →
      items_of items (inserted n at ns) ≡ inserted_at at (record { number = n; item = x }) (items_of items ns)
  items_inserted items n at x [] here once held = refl
  items_inserted items n at x (m ∷ ns) here once held =
      inserted_step items n at m x ns (m == at) refl here once.0 (held m (head_in m ns)) (items_inserted items n at x ns here once.1 (filled_rest items m ns held))

  put_step : (items : List (Option T)) (n m : ℕ) (x : T) (o : Option T) (ks ls : List (Numbered T)) (t : Bool) → (m == n) ≡ t → n < length items → get_or items m None ≡ o → true ≡ is_some o → ks ≡ map (put_at n x) ls →
      cons_option (numbered_in m (get_or (set items n (Some x)) m None)) ks ≡ map (put_at n x) (cons_option (numbered_in m o) ls)
  put_step items n m x None ks ls t e few is held rest = cc
  put_step items n m x (Some y) ks ls true e few is held rest =
      let same : m ≡ n = eqb-true m n e in
      ap (λ k. cons_option (numbered_in m (get_or (set items n (Some x)) k None)) ks) same
      ∙ ap (λ o. cons_option (numbered_in m o) ks) (get_or-set_same items n (Some x) None few)
      ∙ ap (λ k. record { number = k; item = x } ∷ ks) same
      ∙ ap (λ l. record { number = n; item = x } ∷ l) rest
      ∙ sym (ap (λ t. cond t (record { number = n; item = x }) (record { number = m; item = y }) ∷ map (put_at n x) ls) e)
  put_step items n m x (Some y) ks ls false e few is held rest =
      ap (λ o. cons_option (numbered_in m o) ks) (get_or-set_other items n m (Some x) None (eqb-false m n e) ∙ is)
      ∙ ap (λ l. record { number = m; item = y } ∷ l) rest
      ∙ sym (ap (λ t. cond t (record { number = n; item = x }) (record { number = m; item = y }) ∷ map (put_at n x) ls) e)

  -- another stands under a number
  pub items_put : (items : List (Option T)) (n : ℕ) (x : T) (ns : List ℕ) → n < length items → AreFilled items ns → items_of (set items n (Some x)) ns ≡ map (put_at n x) (items_of items ns)
  items_put items n x [] few held = refl
  items_put items n x (m ∷ ns) few held =
      put_step items n m x (get_or items m None) (items_of (set items n (Some x)) ns) (items_of items ns) (m == n) refl few refl (held m (head_in m ns)) (items_put items n x ns few (filled_rest items m ns held))

  put_lacking : (n m : ℕ) (x : T) (o : Option T) (ks : List (Numbered T)) → (m == n) ≡ false → map (put_at n x) ks ≡ ks → map (put_at n x) (cons_option (numbered_in m o) ks) ≡ cons_option (numbered_in m o) ks
  put_lacking n m x None ks e rest = rest
  put_lacking n m x (Some y) ks e rest =
      ap (λ t. cond t (record { number = n; item = x }) (record { number = m; item = y }) ∷ map (put_at n x) ks) e
      ∙ ap (λ l. record { number = m; item = y } ∷ l) rest

  -- nothing stands under a number that isn't among these
  pub put_absent : (n : ℕ) (x : T) (items : List (Option T)) (ns : List ℕ) → is_in n ns ≡ false → map (put_at n x) (items_of items ns) ≡ items_of items ns
  put_absent n x items [] h = refl
  put_absent n x items (m ∷ ns) h =
      let parts = or_parts (nat_eq n m) (is_in n ns) h in
      put_lacking n m x (get_or items m None) (items_of items ns) (flipped m n ∙ parts.0) (put_absent n x items ns parts.1)

  lone_step : (n m : ℕ) (o : Option T) (ks : List (Numbered T)) → (m == n) ≡ false → filter (has_number n) (cons_option (numbered_in m o) ks) ≡ filter (has_number n) ks
  lone_step n m None ks e = refl
  lone_step n m (Some y) ks e = ap (λ t. cond t (record { number = m; item = y } ∷ filter (has_number n) ks) (filter (has_number n) ks)) e

  -- a number that isn't among these
  pub lone_absent : (n : ℕ) (items : List (Option T)) (ns : List ℕ) → is_in n ns ≡ false → filter (has_number n) (items_of items ns) ≡ []
  lone_absent n items [] h = refl
  lone_absent n items (m ∷ ns) h =
      let parts = or_parts (nat_eq n m) (is_in n ns) h in
      lone_step n m (get_or items m None) (items_of items ns) (flipped m n ∙ parts.0) ∙ lone_absent n items ns parts.1

  lone_own : (n : ℕ) (x : T) (ks : List (Numbered T)) → filter (has_number n) (record { number = n; item = x } ∷ ks) ≡ record { number = n; item = x } ∷ filter (has_number n) ks
  lone_own n x ks = ap (λ t. cond t (record { number = n; item = x } ∷ filter (has_number n) ks) (filter (has_number n) ks)) (own_test n)

  lone_here : (n m : ℕ) (x : T) (items : List (Option T)) (ns : List ℕ) (t : Bool) → nat_eq n m ≡ t → get_or items n None ≡ Some x → is_in m ns ≡ false → (t || is_in n ns) ≡ true →
      (is_in n ns ≡ true → filter (has_number n) (items_of items ns) ≡ record { number = n; item = x } ∷ []) →
      filter (has_number n) (items_of items (m ∷ ns)) ≡ record { number = n; item = x } ∷ []
  lone_here n m x items ns true e here none h rest =
      let same : n ≡ m = eqb-true n m e in
      ap (λ k. filter (has_number n) (items_of items (k ∷ ns))) (sym same)
      ∙ ap (λ o. filter (has_number n) (cons_option (numbered_in n o) (items_of items ns))) here
      ∙ lone_own n x (items_of items ns)
      ∙ ap (λ ks. record { number = n; item = x } ∷ ks) (lone_absent n items ns (ap (λ k. is_in k ns) same ∙ none))
  lone_here n m x items ns false e here none h rest =
      lone_step n m (get_or items m None) (items_of items ns) (flipped m n ∙ e) ∙ rest h

  -- the item of one of these numbers
  pub lone_item : (n : ℕ) (x : T) (items : List (Option T)) (ns : List ℕ) → AreOnce ns → get_or items n None ≡ Some x → is_in n ns ≡ true →
      filter (has_number n) (items_of items ns) ≡ record { number = n; item = x } ∷ []
  lone_item n x items [] once here h = cc
  lone_item n x items (m ∷ ns) once here h =
      lone_here n m x items ns (nat_eq n m) refl here once.0 h (lone_item n x items ns once.1 here)

  -- one goes behind all others
  pub items_last : (n : ℕ) (x : T) (items : List (Option T)) (ns : List ℕ) → AreOnce ns → get_or items n None ≡ Some x → is_in n ns ≡ true →
      items_of items (without n ns ++ n ∷ []) ≡ moved_last n (items_of items ns)
  items_last n x items ns once here h =
      items_more items (without n ns) n x here
      ∙ ap (λ ks. ks ++ record { number = n; item = x } ∷ []) (sym (items_left n items ns))
      ∙ ap (λ ks. without_number n (items_of items ns) ++ ks) (sym (lone_item n x items ns once here h))
