-- The rows of a view as one comes and as one goes.
use Rattle.std.proofs.Common.{◌≡◌, ◌∙◌, ◌∷◌, ◌++◌, ◌<◌, [], ap, Bool, cond, false, get_or, length, List, None, option_map, refl, set, Some, true, ℕ}
use Rattle.std.proofs.lemmas.Bool.{eqb-false}
use Rattle.std.proofs.lemmas.List.{get_or-set_other, get_or-set_same, map-append}
use Rattle.std.specs.Prelude.{◌==◌, filter, find, not}
use Rattle.q_chains.specs.Lists.{without}
use Rattle.q_model.specs.declared.rows.Row.{Row}
use Rattle.q_peers.specs.Numbered.{has_number, Numbered, row_at}
use Rattle.q_held.specs.Held.{numbered}
use Rattle.q_held.specs.Sound.{numbers_of, with_mark, with_marks}

none_step : (n : ℕ) (k : Numbered) (ks : List Numbered) (t : Bool) → cond t (Some k) (find (has_number n) ks) ≡ None → (t ≡ false) × (find (has_number n) ks ≡ None)
none_step n k ks true h = cc
none_step n k ks false h = (refl, h)

-- no row has the number
pub lacks : (n : ℕ) (k : Numbered) (ks : List Numbered) → find (has_number n) (k ∷ ks) ≡ None → ((k.number == n) ≡ false) × (find (has_number n) ks ≡ None)
lacks n k ks h = none_step n k ks (k.number == n) h

-- a row has its mark still where another number is marked or not
pub other_mark : (n : ℕ) (b : Bool) (marks : List Bool) (k : Numbered) → (k.number == n) ≡ false → with_mark (set marks n b) k ≡ with_mark marks k
other_mark n b marks k e =
    ap (λ c. record { number = k.number; row = k.row; held = c }) (get_or-set_other marks n k.number b false (eqb-false k.number n e))

other_marks : (n : ℕ) (b : Bool) (marks : List Bool) (ks : List Numbered) → find (has_number n) ks ≡ None → with_marks (set marks n b) ks ≡ with_marks marks ks
other_marks n b marks [] h = refl
other_marks n b marks (k ∷ ks) h =
    let parts = lacks n k ks h in
    ap (λ x. x ∷ with_marks (set marks n b) ks) (other_mark n b marks k parts.0) ∙ ap (λ l. with_mark marks k ∷ l) (other_marks n b marks ks parts.1)

-- a row comes
pub view_more : (n : ℕ) (b : Bool) (marks : List Bool) (ks : List Numbered) (r : Row) → n < length marks → find (has_number n) ks ≡ None →
    with_marks (set marks n b) (ks ++ record { number = n; row = r } ∷ []) ≡ with_marks marks ks ++ record { number = n; row = r; held = b } ∷ []
view_more n b marks ks r below h =
    map-append (with_mark (set marks n b)) ks (record { number = n; row = r } ∷ [])
    ∙ ap (λ l. l ++ record { number = n; row = r; held = get_or (set marks n b) n false } ∷ []) (other_marks n b marks ks h)
    ∙ ap (λ c. with_marks marks ks ++ record { number = n; row = r; held = c } ∷ []) (get_or-set_same marks n b false below)

less_step : (n : ℕ) (marks left : List Bool) (k : Numbered) (ks : List Numbered) (t : Bool) → (k.number == n) ≡ t → ((j : Numbered) → (j.number == n) ≡ false → with_mark left j ≡ with_mark marks j) →
    with_marks left (filter (λ k. not (has_number n k)) ks) ≡ filter (λ h. not (has_number n (numbered h))) (with_marks marks ks) →
    with_marks left (cond (not t) (k ∷ filter (λ k. not (has_number n k)) ks) (filter (λ k. not (has_number n k)) ks))
    ≡ cond (not t) (with_mark marks k ∷ filter (λ h. not (has_number n (numbered h))) (with_marks marks ks)) (filter (λ h. not (has_number n (numbered h))) (with_marks marks ks))
less_step n marks left k ks true e others rest = rest
less_step n marks left k ks false e others rest =
    ap (λ x. x ∷ with_marks left (filter (λ k. not (has_number n k)) ks)) (others k e) ∙ ap (λ l. with_mark marks k ∷ l) rest

-- a row goes, and the others have the marks that they had
pub view_less : (n : ℕ) (marks left : List Bool) (ks : List Numbered) → ((j : Numbered) → (j.number == n) ≡ false → with_mark left j ≡ with_mark marks j) →
    with_marks left (filter (λ k. not (has_number n k)) ks) ≡ filter (λ h. not (has_number n (numbered h))) (with_marks marks ks)
view_less n marks left [] others = refl
view_less n marks left (k ∷ ks) others = less_step n marks left k ks (k.number == n) refl others (view_less n marks left ks others)

pub view_without : (n : ℕ) (b : Bool) (marks : List Bool) (ks : List Numbered) →
    with_marks (set marks n b) (filter (λ k. not (has_number n k)) ks) ≡ filter (λ h. not (has_number n (numbered h))) (with_marks marks ks)
view_without n b marks ks = view_less n marks (set marks n b) ks (λ j e. other_mark n b marks j e)

numbers_step : (n : ℕ) (k : Numbered) (ks : List Numbered) (t : Bool) → numbers_of (filter (λ k. not (has_number n k)) ks) ≡ without n (numbers_of ks) →
    numbers_of (cond (not t) (k ∷ filter (λ k. not (has_number n k)) ks) (filter (λ k. not (has_number n k)) ks)) ≡ cond (not t) (k.number ∷ without n (numbers_of ks)) (without n (numbers_of ks))
numbers_step n k ks true rest = rest
numbers_step n k ks false rest = ap (λ l. k.number ∷ l) rest

pub numbers_left : (n : ℕ) (ks : List Numbered) → numbers_of (filter (λ k. not (has_number n k)) ks) ≡ without n (numbers_of ks)
numbers_left n [] = refl
numbers_left n (k ∷ ks) = numbers_step n k ks (k.number == n) (numbers_left n ks)

absent_step : (n : ℕ) (k : Numbered) (ks : List Numbered) (t : Bool) → option_map (λ (k : Numbered). k.row) (cond t (Some k) (find (has_number n) ks)) ≡ None →
    (row_at n ks ≡ None → filter (λ k. not (has_number n k)) ks ≡ ks) → cond (not t) (k ∷ filter (λ k. not (has_number n k)) ks) (filter (λ k. not (has_number n k)) ks) ≡ k ∷ ks
absent_step n k ks true h rest = cc
absent_step n k ks false h rest = ap (λ l. k ∷ l) (rest h)

-- no row has the number, and none goes
pub none_left : (n : ℕ) (ks : List Numbered) → row_at n ks ≡ None → filter (λ k. not (has_number n k)) ks ≡ ks
none_left n [] h = refl
none_left n (k ∷ ks) h = absent_step n k ks (k.number == n) h (none_left n ks)
