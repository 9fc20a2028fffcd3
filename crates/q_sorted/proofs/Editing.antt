-- A ticket put into its block and taken out of it.
use Rattle.std.proofs.Common.{◌≡◌, ◌≤◌, ◌<◌, ◌+◌, ◌-◌, ◌++◌, ◌||◌, ap, arith, Bool, cond, false, inl, inr, length, List, [], ◌∷◌, min, refl, set, suc, sym, true, zero, ℕ, ◌∙◌, subst}
use Rattle.std.proofs.lemmas.Bool.{cases_lt}
use Rattle.std.proofs.lemmas.List.{append-nil}
use Rattle.std.proofs.lemmas.List.Sums.{prefix_len-le-length}
use Rattle.std.specs.List.{list_any, position_or_len}
use Rattle.std.specs.Prelude.{not}
use Rattle.q_sorted.specs.declared.ticket.Cut.{Cut}
use Rattle.q_sorted.specs.declared.ticket.Ticket.{Ticket}
use Rattle.q_sorted.specs.Blocks.{block_at, ends_past, is_past, joined, removed}
use Rattle.q_sorted.specs.Tickets.{goes_before, inserted, Rises}
use Rattle.q_sorted.proofs.Cuts.{any_ends}
use Rattle.q_sorted.proofs.Rising.{rises_left, rises_right}

-- the cut right before where the ticket goes
abbrev pub before : Ticket → Cut
before e = record { ticket = e; behind = false }

-- how the ticket stands to one that doesn't go before it
inserted_here : (e x : Ticket) (t : Bool) (xs ys : List Ticket) → cond t (e ∷ x ∷ (xs ++ ys)) (x ∷ (xs ++ ys)) ≡ cond t (e ∷ x ∷ xs) (x ∷ xs) ++ ys
inserted_here e x true xs ys = refl
inserted_here e x false xs ys = refl

removed_here : (x : Ticket) (t : Bool) (xs ys : List Ticket) → cond t (x ∷ (xs ++ ys)) (xs ++ ys) ≡ cond t (x ∷ xs) xs ++ ys
removed_here x true xs ys = refl
removed_here x false xs ys = refl

-- an edit where the ticket goes: past those before it, and of no more than the next one
record IsEdit (e : Ticket) (edit : List Ticket → List Ticket) : Type 0 where
  along : (x : Ticket) (xs : List Ticket) → goes_before x e ≡ true → edit (x ∷ xs) ≡ x ∷ edit xs
  here : (x : Ticket) (xs ys : List Ticket) → goes_before x e ≡ false → edit (x ∷ (xs ++ ys)) ≡ edit (x ∷ xs) ++ ys

insertion : (e : Ticket) → IsEdit e (inserted e)
insertion e = record {
  along = λ x xs h. rw h refl;
  here = λ x xs ys h. rw h (inserted_here e x (goes_before e x) xs ys);
}

removal : (e : Ticket) → IsEdit e (removed e)
removal e = record {
  along = λ x xs h. rw h refl;
  here = λ x xs ys h. rw h (removed_here x (goes_before e x) xs ys);
}

module _ (e : Ticket) (edit : List Ticket → List Ticket) (is : IsEdit e edit) where
  left_step : (x : Ticket) (xs ys : List Ticket) (t : Bool) → goes_before x e ≡ t → (not t || list_any (is_past (before e)) xs) ≡ true → (list_any (is_past (before e)) xs ≡ true → edit (xs ++ ys) ≡ edit xs ++ ys) → edit (x ∷ (xs ++ ys)) ≡ edit (x ∷ xs) ++ ys
  left_step x xs ys true h k rest = is.along x (xs ++ ys) h ∙ ap (λ zs. x ∷ zs) (rest k) ∙ ap (λ zs. zs ++ ys) (sym (is.along x xs h))
  left_step x xs ys false h k rest = is.here x xs ys h

  edit_left : (xs ys : List Ticket) → list_any (is_past (before e)) xs ≡ true → edit (xs ++ ys) ≡ edit xs ++ ys
  edit_left [] ys h = absurd cc
  edit_left (x ∷ xs) ys h = left_step x xs ys (goes_before x e) refl h (λ k. edit_left xs ys k)

  right_step : (x : Ticket) (ws zs : List Ticket) (t u : Bool) → goes_before x e ≡ t → (not t || u) ≡ false → (u ≡ false → edit ws ≡ zs) → edit (x ∷ ws) ≡ x ∷ zs
  right_step x ws zs true u h k rest = is.along x ws h ∙ ap (λ vs. x ∷ vs) (rest k)
  right_step x ws zs false u h k rest = absurd cc

  edit_right : (xs ys : List Ticket) → list_any (is_past (before e)) xs ≡ false → edit (xs ++ ys) ≡ xs ++ edit ys
  edit_right [] ys h = refl
  edit_right (x ∷ xs) ys h = right_step x (xs ++ ys) (xs ++ edit ys) (goes_before x e) (list_any (is_past (before e)) xs) refl h (λ k. edit_right xs ys k)

  -- an edit of all tickets is one of this block
  abbrev EditsAt : ℕ → List (List Ticket) → Type 0
  EditsAt n lists = joined (set lists n (edit (block_at n lists))) ≡ edit (joined lists)

  edits_first : (xs : List Ticket) (lists : List (List Ticket)) → ends_past (before e) xs ≡ true → Rises (joined (xs ∷ lists)) → EditsAt zero (xs ∷ lists)
  edits_first xs lists h r = sym (edit_left xs (joined lists) (any_ends (before e) xs (rises_left xs (joined lists) r) ∙ h))

  edits_next : (n : ℕ) (xs : List Ticket) (lists : List (List Ticket)) → ends_past (before e) xs ≡ false → Rises (joined (xs ∷ lists)) → EditsAt n lists → EditsAt (suc n) (xs ∷ lists)
  edits_next n xs lists h r rest = ap (λ ys. xs ++ ys) rest ∙ sym (edit_right xs (joined lists) (any_ends (before e) xs (rises_left xs (joined lists) r) ∙ h))

  edits_later : (n : ℕ) (xs : List Ticket) (lists : List (List Ticket)) → ends_past (before e) xs ≡ false → Rises (joined (xs ∷ lists)) → EditsAt n lists → EditsAt (1 + n) (xs ∷ lists)
  edits_later n xs lists h r rest = let next : suc n ≡ 1 + n = omega arith in subst (λ (k : ℕ). EditsAt k (xs ∷ lists)) next (edits_next n xs lists h r rest)

  edits_step : (xs : List Ticket) (lists : List (List Ticket)) (t : Bool) → ends_past (before e) xs ≡ t → Rises (joined (xs ∷ lists)) → position_or_len (ends_past (before e)) (xs ∷ lists) < length (xs ∷ lists)
      → (position_or_len (ends_past (before e)) lists < length lists → EditsAt (position_or_len (ends_past (before e)) lists) lists) → EditsAt (position_or_len (ends_past (before e)) (xs ∷ lists)) (xs ∷ lists)
  edits_step xs lists true h r k rest = rw h (edits_first xs lists h r)
  edits_step xs lists false h r k rest =
      let place : position_or_len (ends_past (before e)) (xs ∷ lists) ≡ 1 + position_or_len (ends_past (before e)) lists = rw h refl in
      subst (λ (n : ℕ). EditsAt n (xs ∷ lists)) (sym place) (edits_later (position_or_len (ends_past (before e)) lists) xs lists h r (rest (omega (arith, k, place))))

  edits_at : (lists : List (List Ticket)) → Rises (joined lists) → position_or_len (ends_past (before e)) lists < length lists → EditsAt (position_or_len (ends_past (before e)) lists) lists
  edits_at [] r h = absurd (omega (arith, h))
  edits_at (xs ∷ lists) r h = edits_step xs lists (ends_past (before e) xs) refl r h (λ k. edits_at lists (rises_right xs (joined lists) r) k)

  -- where no block ends past the cut, one of the last block
  all_end : (xs : List Ticket) (lists : List (List Ticket)) (t : Bool) → ends_past (before e) xs ≡ t → position_or_len (ends_past (before e)) (xs ∷ lists) ≡ length (xs ∷ lists) → (t ≡ false) × (position_or_len (ends_past (before e)) lists ≡ length lists)
  all_end xs lists true h k = let place : position_or_len (ends_past (before e)) (xs ∷ lists) ≡ 0 = rw h refl in absurd (omega (arith, k, place))
  all_end xs lists false h k = let place : position_or_len (ends_past (before e)) (xs ∷ lists) ≡ 1 + position_or_len (ends_past (before e)) lists = rw h refl in (refl, omega (arith, k, place))

  edits_last : (n : ℕ) (lists : List (List Ticket)) → length lists ≡ suc n → Rises (joined lists) → position_or_len (ends_past (before e)) lists ≡ length lists → EditsAt n lists
  edits_last n [] l r h = absurd (omega (arith, l))
  edits_last zero (xs ∷ []) l r h = append-nil (edit xs) ∙ ap edit (sym (append-nil xs))
  edits_last (suc n) (xs ∷ []) l r h = absurd (omega (arith, l))
  edits_last zero (xs ∷ ys ∷ lists) l r h = absurd (omega (arith, l))
  edits_last (suc n) (xs ∷ ys ∷ lists) l r h =
      let both = all_end xs (ys ∷ lists) (ends_past (before e) xs) refl h in
      edits_next n xs (ys ∷ lists) both.0 r (edits_last n (ys ∷ lists) (omega (arith, l)) (rises_right xs (joined (ys ∷ lists)) r) both.1)

  -- where no block ends past the cut
  edits_none : (lists : List (List Ticket)) → edit [] ≡ [] → Rises (joined lists) → position_or_len (ends_past (before e)) lists ≡ length lists → edit (joined lists) ≡ joined lists
  edits_none [] none r h = none
  edits_none (xs ∷ lists) none r h =
      let both = all_end xs lists (ends_past (before e) xs) refl h in
      edit_right xs (joined lists) (any_ends (before e) xs (rises_left xs (joined lists) r) ∙ both.0) ∙ ap (λ ys. xs ++ ys) (edits_none lists none (rises_right xs (joined lists) r) both.1)

-- which block a ticket goes into
pub inserted_joined : (e : Ticket) (n : ℕ) (lists : List (List Ticket)) → 1 ≤ length lists → Rises (joined lists) → n ≡ min (position_or_len (ends_past (before e)) lists) (length lists - 1) → joined (set lists n (inserted e (block_at n lists))) ≡ inserted e (joined lists)
inserted_joined e n lists some r is =
    elim (cases_lt (position_or_len (ends_past (before e)) lists) (length lists)) [
      | inl within ↦
          let place : n ≡ position_or_len (ends_past (before e)) lists = omega (arith, is, within) in
          subst (λ (k : ℕ). joined (set lists k (inserted e (block_at k lists))) ≡ inserted e (joined lists)) (sym place) (edits_at e (inserted e) (insertion e) lists r within)
      | inr past ↦
          let all : position_or_len (ends_past (before e)) lists ≡ length lists = omega (arith, past, prefix_len-le-length (λ x. not (ends_past (before e) x)) lists) in
          edits_last e (inserted e) (insertion e) n lists (omega (arith, is, all, some)) r all
    ]

pub removed_joined : (e : Ticket) (n : ℕ) (lists : List (List Ticket)) → Rises (joined lists) → n ≡ position_or_len (ends_past (before e)) lists → n < length lists → joined (set lists n (removed e (block_at n lists))) ≡ removed e (joined lists)
removed_joined e n lists r is within =
    subst (λ (k : ℕ). joined (set lists k (removed e (block_at k lists))) ≡ removed e (joined lists)) (sym is) (edits_at e (removed e) (removal e) lists r (omega (arith, is, within)))

pub removed_nowhere : (e : Ticket) (n : ℕ) (lists : List (List Ticket)) → Rises (joined lists) → n ≡ position_or_len (ends_past (before e)) lists → length lists ≤ n → removed e (joined lists) ≡ joined lists
removed_nowhere e n lists r is past =
    edits_none e (removed e) (removal e) lists refl r (omega (arith, is, past, prefix_len-le-length (λ x. not (ends_past (before e) x)) lists))
