-- The rows under numbers: which are found, and by what number.
use Rattle.std.proofs.Common.{◌≡◌, ◌∙◌, ◌∷◌, ◌++◌, [], ap, Bool, cond, false, get_or, length, List, None, Option, option_map, refl, Some, suc, sym, true, ℕ}
use Rattle.std.proofs.lemmas.Bool.{eqb-true}
use Rattle.std.proofs.lemmas.List.Elements.{filter_map-append}
use Rattle.std.specs.List.{cons_option, list_any}
use Rattle.std.specs.Option.{is_some}
use Rattle.std.specs.Prelude.{◌==◌, ◌||◌, filter, find, nat_eq, not}
use Rattle.q_chains.specs.Lists.{is_in, without}
use Rattle.q_model.specs.declared.rows.Row.{Row}
use Rattle.q_peers.specs.Numbered.{AreApart, first_such, has_number, next_such, Numbered, row_at, rows_of}
use Rattle.q_chains.specs.Onward.{after}
use Rattle.q_chains.specs.Slots.{passes, passes_in}
use Rattle.q_peers.specs.Slots.{items_of, numbered_in}
use Rattle.q_chains.proofs.Numbers.{AreOnce, flipped, head_in, or_right}

first_found : (p : Row → Bool) (n : ℕ) (r : Row) (ks : List Numbered) (found : Option ℕ) (t : Bool) → first_such p ks ≡ found →
    option_map (λ (k : Numbered). k.number) (cond t (Some (record { number = n; row = r })) (find (λ k. p k.row) ks)) ≡ cond t (Some n) found
first_found p n r ks found true h = refl
first_found p n r ks found false h = h

first_step : (p : Row → Bool) (n : ℕ) (o : Option Row) (ks : List Numbered) (found : Option ℕ) → first_such p ks ≡ found →
    first_such p (cons_option (numbered_in n o) ks) ≡ cond (passes_in p o) (Some n) found
first_step p n None ks found h = h
first_step p n (Some r) ks found h = first_found p n r ks found (p r) h

-- the first row that passes
pub first_item : (p : Row → Bool) (rows : List (Option Row)) (ns : List ℕ) → first_such p (items_of rows ns) ≡ find (passes p rows) ns
first_item p rows [] = refl
first_item p rows (n ∷ ns) = first_step p n (get_or rows n None) (items_of rows ns) (find (passes p rows) ns) (first_item p rows ns)

next_here : (like : Row → Row → Bool) (n m : ℕ) (r : Row) (o : Option Row) (rows : List (Option Row)) (ns : List ℕ) (t : Bool) → (m == n) ≡ t → (t ≡ true → o ≡ Some r) →
    next_such like n (items_of rows ns) ≡ find (passes (like r) rows) (after n ns) →
    next_such like n (cons_option (numbered_in m o) (items_of rows ns)) ≡ find (passes (like r) rows) (cond t ns (after n ns))
next_here like n m r o rows ns true e held rest =
    ap (λ o. next_such like n (cons_option (numbered_in m o) (items_of rows ns))) (held refl)
    ∙ ap (λ t. cond t (first_such (like r) (items_of rows ns)) (next_such like n (items_of rows ns))) e
    ∙ first_item (like r) rows ns
next_here like n m r None rows ns false e held rest = rest
next_here like n m r (Some q) rows ns false e held rest =
    ap (λ t. cond t (first_such (like q) (items_of rows ns)) (next_such like n (items_of rows ns))) e ∙ rest

-- the next row that passes beside this one
pub next_item : (like : Row → Row → Bool) (rows : List (Option Row)) (n : ℕ) (r : Row) (ns : List ℕ) → get_or rows n None ≡ Some r →
    next_such like n (items_of rows ns) ≡ find (passes (like r) rows) (after n ns)
next_item like rows n r [] h = refl
next_item like rows n r (m ∷ ns) h =
    next_here like n m r (get_or rows m None) rows ns (m == n) refl (λ e. ap (λ k. get_or rows k None) (eqb-true m n e) ∙ h) (next_item like rows n r ns h)

none_here : (like : Row → Row → Bool) (n m : ℕ) (o : Option Row) (ks : List Numbered) (t : Bool) → (m == n) ≡ t → (t ≡ true → o ≡ None) → next_such like n ks ≡ None →
    next_such like n (cons_option (numbered_in m o) ks) ≡ None
none_here like n m o ks true e held rest = ap (λ o. next_such like n (cons_option (numbered_in m o) ks)) (held refl) ∙ rest
none_here like n m None ks false e held rest = rest
none_here like n m (Some q) ks false e held rest = ap (λ t. cond t (first_such (like q) ks) (next_such like n ks)) e ∙ rest

-- no row has the number
pub next_none : (like : Row → Row → Bool) (rows : List (Option Row)) (n : ℕ) (ns : List ℕ) → get_or rows n None ≡ None → next_such like n (items_of rows ns) ≡ None
next_none like rows n [] h = refl
next_none like rows n (m ∷ ns) h =
    none_here like n m (get_or rows m None) (items_of rows ns) (m == n) refl (λ e. ap (λ k. get_or rows k None) (eqb-true m n e) ∙ h) (next_none like rows n ns h)

none_either : (t : Bool) (o : Option Row) → o ≡ None → cond t o None ≡ None
none_either true o h = h
none_either false o h = refl

row_step : (n m : ℕ) (o held : Option Row) (ks : List Numbered) (t u : Bool) → (m == n) ≡ t → (t ≡ true → o ≡ held) → row_at n ks ≡ cond u held None →
    row_at n (cons_option (numbered_in m o) ks) ≡ cond (t || u) held None
row_step n m None held ks true u e same rest = rest ∙ none_either u held (sym (same refl)) ∙ sym (sym (same refl))
row_step n m (Some q) held ks true u e same rest =
    ap (λ t. option_map (λ (k : Numbered). k.row) (cond t (Some (record { number = m; row = q })) (find (has_number n) ks))) e ∙ same refl
row_step n m None held ks false u e same rest = rest
row_step n m (Some q) held ks false u e same rest =
    ap (λ t. option_map (λ (k : Numbered). k.row) (cond t (Some (record { number = m; row = q })) (find (has_number n) ks))) e ∙ rest

row_either : (n : ℕ) (rows : List (Option Row)) (ns : List ℕ) → row_at n (items_of rows ns) ≡ cond (is_in n ns) (get_or rows n None) None
row_either n rows [] = refl
row_either n rows (m ∷ ns) =
    row_step n m (get_or rows m None) (get_or rows n None) (items_of rows ns) (m == n) (is_in n ns) refl (λ e. ap (λ k. get_or rows k None) (eqb-true m n e)) (row_either n rows ns)
    ∙ ap (λ t. cond (t || is_in n ns) (get_or rows n None) None) (flipped m n)

held_step : (o : Option Row) (t : Bool) → t ≡ is_some o → cond t o None ≡ o
held_step o true h = refl
held_step None false h = refl
held_step (Some r) false h = cc

-- the row of a number, where just those numbers have one
pub row_item : (n : ℕ) (rows : List (Option Row)) (ns : List ℕ) → is_in n ns ≡ is_some (get_or rows n None) → row_at n (items_of rows ns) ≡ get_or rows n None
row_item n rows ns h = row_either n rows ns ∙ held_step (get_or rows n None) (is_in n ns) h

count_step : (n : ℕ) (o : Option Row) (ks : List Numbered) (ns : List ℕ) → true ≡ is_some o → length ks ≡ length ns → length (cons_option (numbered_in n o) ks) ≡ suc (length ns)
count_step n None ks ns h rest = cc
count_step n (Some r) ks ns h rest = ap suc rest

-- as many rows as numbers
pub count_items : (rows : List (Option Row)) (ns : List ℕ) → ((n : ℕ) → is_in n ns ≡ true → true ≡ is_some (get_or rows n None)) → length (items_of rows ns) ≡ length ns
count_items rows [] h = refl
count_items rows (n ∷ ns) h =
    count_step n (get_or rows n None) (items_of rows ns) ns (h n (head_in n ns)) (count_items rows ns (λ m k. h m (or_right (nat_eq m n) (is_in m ns) k)))

absent_step : (n m : ℕ) (o : Option Row) (ks : List Numbered) → (m == n) ≡ false → find (has_number n) ks ≡ None → find (has_number n) (cons_option (numbered_in m o) ks) ≡ None
absent_step n m None ks e rest = rest
absent_step n m (Some r) ks e rest = ap (λ t. cond t (Some (record { number = m; row = r })) (find (has_number n) ks)) e ∙ rest

absent_parts : (n m : ℕ) (ns : List ℕ) (t : Bool) → nat_eq n m ≡ t → (t || is_in n ns) ≡ false → ((m == n) ≡ false) × (is_in n ns ≡ false)
absent_parts n m ns true e h = cc
absent_parts n m ns false e h = (flipped m n ∙ e, h)

-- a number that isn't among these
pub absent_item : (n : ℕ) (rows : List (Option Row)) (ns : List ℕ) → is_in n ns ≡ false → find (has_number n) (items_of rows ns) ≡ None
absent_item n rows [] h = refl
absent_item n rows (m ∷ ns) h =
    let parts = absent_parts n m ns (nat_eq n m) refl h in
    absent_step n m (get_or rows m None) (items_of rows ns) parts.0 (absent_item n rows ns parts.1)

apart_step : (n : ℕ) (o : Option Row) (ks : List Numbered) → find (has_number n) ks ≡ None → AreApart ks → AreApart (cons_option (numbered_in n o) ks)
apart_step n None ks h rest = rest
apart_step n (Some r) ks h rest = (h, rest)

pub apart_items : (rows : List (Option Row)) (ns : List ℕ) → AreOnce ns → AreApart (items_of rows ns)
apart_items rows [] h = tt
apart_items rows (n ∷ ns) h = apart_step n (get_or rows n None) (items_of rows ns) (absent_item n rows ns h.0) (apart_items rows ns h.1)

-- other rows, but the same under these numbers
pub items_alike : (rows others : List (Option Row)) (ns : List ℕ) → ((n : ℕ) → is_in n ns ≡ true → get_or rows n None ≡ get_or others n None) → items_of rows ns ≡ items_of others ns
items_alike rows others [] h = refl
items_alike rows others (n ∷ ns) h =
    ap (λ o. cons_option (numbered_in n o) (items_of rows ns)) (h n (head_in n ns))
    ∙ ap (cons_option (numbered_in n (get_or others n None))) (items_alike rows others ns (λ m k. h m (or_right (nat_eq m n) (is_in m ns) k)))

-- a row behind the others
pub items_more : (rows : List (Option Row)) (ns : List ℕ) (n : ℕ) (r : Row) → get_or rows n None ≡ Some r →
    items_of rows (ns ++ n ∷ []) ≡ items_of rows ns ++ record { number = n; row = r } ∷ []
items_more rows ns n r h =
    filter_map-append (λ n. numbered_in n (get_or rows n None)) ns (n ∷ [])
    ∙ ap (λ o. items_of rows ns ++ cons_option (numbered_in n o) []) h

left_step : (n m : ℕ) (o : Option Row) (rows : List (Option Row)) (ns : List ℕ) (t : Bool) → get_or rows m None ≡ o → (m == n) ≡ t → filter (λ k. not (has_number n k)) (items_of rows ns) ≡ items_of rows (without n ns) →
    filter (λ k. not (has_number n k)) (cons_option (numbered_in m o) (items_of rows ns)) ≡ items_of rows (cond (not t) (m ∷ without n ns) (without n ns))
left_step n m None rows ns true is e rest = rest
left_step n m None rows ns false is e rest = rest ∙ sym (ap (λ o. cons_option (numbered_in m o) (items_of rows (without n ns))) is)
left_step n m (Some r) rows ns true is e rest =
    ap (λ t. cond (not t) (record { number = m; row = r } ∷ filter (λ k. not (has_number n k)) (items_of rows ns)) (filter (λ k. not (has_number n k)) (items_of rows ns))) e ∙ rest
left_step n m (Some r) rows ns false is e rest =
    ap (λ t. cond (not t) (record { number = m; row = r } ∷ filter (λ k. not (has_number n k)) (items_of rows ns)) (filter (λ k. not (has_number n k)) (items_of rows ns))) e
    ∙ ap (λ ks. record { number = m; row = r } ∷ ks) rest
    ∙ sym (ap (λ o. cons_option (numbered_in m o) (items_of rows (without n ns))) is)

-- the rows of all other numbers
pub items_left : (n : ℕ) (rows : List (Option Row)) (ns : List ℕ) → filter (λ k. not (has_number n k)) (items_of rows ns) ≡ items_of rows (without n ns)
items_left n rows [] = refl
items_left n rows (m ∷ ns) = left_step n m (get_or rows m None) rows ns (m == n) refl refl (items_left n rows ns)

any_step : (p : Row → Bool) (k : Numbered) (ks : List Numbered) (t : Bool) → is_some (first_such p ks) ≡ list_any p (rows_of ks) →
    is_some (option_map (λ (k : Numbered). k.number) (cond t (Some k) (find (λ k. p k.row) ks))) ≡ (t || list_any p (rows_of ks))
any_step p k ks true h = refl
any_step p k ks false h = h

-- whether a row passes
pub any_item : (p : Row → Bool) (ks : List Numbered) → is_some (first_such p ks) ≡ list_any p (rows_of ks)
any_item p [] = refl
any_item p (k ∷ ks) = any_step p k ks (p k.row) (any_item p ks)
