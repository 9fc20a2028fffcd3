-- What an insertion and a removal leave of blocks.
use Rattle.std.proofs.Common.{◌≡◌, ◌≢◌, ◌≤◌, ◌<◌, ◌+◌, ◌-◌, ap, arith, Bool, cond, false, get_or-set_other, get_or-set_same, length, length-append, List, [], ◌∷◌, min, set, suc, sym, true, zero, ℕ, ◌∙◌, subst}
use Rattle.std.proofs.lemmas.List.{length-set}
use Rattle.std.specs.List.{position_or_len}
use Rattle.q_sorted.specs.declared.ticket.Ticket.{Ticket}
use Rattle.q_sorted.specs.Blocks.{AreSound, block_at, block_room, ends_past, joined, least, mended, most, removed, settled}
use Rattle.q_sorted.specs.Tickets.{inserted, Rises}
use Rattle.q_sorted.proofs.Editing.{before, inserted_joined, removed_joined}
use Rattle.q_sorted.proofs.Filling.{block_filled, block_least, filled_mended, filled_settled, joined_mended, joined_settled, some_mended, some_settled}
use Rattle.q_sorted.proofs.Filtering.{rises_inserted, rises_removed}

-- how many came or went
pub one_at_most : (t : Bool) → cond t 1 0 ≤ 1
one_at_most true = omega arith
one_at_most false = omega arith

-- how many tickets there are once a block has others
length_joined : (n : ℕ) (lists : List (List Ticket)) (ys : List Ticket) → n < length lists → length (joined (set lists n ys)) + length (block_at n lists) ≡ length (joined lists) + length ys
length_joined n [] ys h = absurd (omega (arith, h))
length_joined zero (xs ∷ lists) ys h = omega (arith, length-append xs (joined lists), length-append ys (joined lists))
length_joined (suc n) (xs ∷ lists) ys h =
    let rest = length_joined n lists ys (omega (arith, h)) in omega (arith, rest, length-append xs (joined lists), length-append xs (joined (set lists n ys)))

least_at : (n : ℕ) (lists : List (List Ticket)) → AreSound lists → n < length lists → 0 < n → least ≤ length (block_at n lists)
least_at zero lists s h k = absurd (omega (arith, k))
least_at (suc n) lists s h k = block_least 0 n lists s.filled h

-- the block that a ticket goes into, and the place of it
pub record GoesInto (e : Ticket) (n k : ℕ) (lists : List (List Ticket)) : Type 0 where
  pub sound : AreSound lists
  pub place : n ≡ min (position_or_len (ends_past (before e)) lists) (length lists - 1)
  pub count : length (inserted e (block_at n lists)) ≡ length (block_at n lists) + k
  pub few : k ≤ 1

pub goes_into : (e : Ticket) (n at count : ℕ) (came : Bool) (lists : List (List Ticket)) → AreSound lists → at ≡ position_or_len (ends_past (before e)) lists → count ≡ length lists → n ≡ min at (count - 1)
    → length (inserted e (block_at n lists)) ≡ length (block_at n lists) + cond came 1 0 → GoesInto e n (cond came 1 0) lists
goes_into e n at count came lists sound is all place counted = record {
  sound = sound;
  place = place ∙ ap (λ (k : ℕ). min k (count - 1)) is ∙ ap (λ (k : ℕ). min (position_or_len (ends_past (before e)) lists) (k - 1)) all;
  count = counted;
  few = one_at_most came;
}

module _ (e : Ticket) (n k : ℕ) (lists : List (List Ticket)) (into : GoesInto e n k lists) where
  within : n < length lists
  within = omega (arith, into.place, into.sound.some)

  put_room : length (inserted e (block_at n lists)) ≤ block_room
  put_room = omega (arith, into.count, into.few, block_filled 0 n lists into.sound.filled)

  pub put_fits : length (block_at n (set lists n (inserted e (block_at n lists)))) ≤ block_room
  put_fits = rw (get_or-set_same lists n (inserted e (block_at n lists)) [] within) put_room

  pub put_joined : joined (settled n (set lists n (inserted e (block_at n lists)))) ≡ inserted e (joined lists)
  put_joined = joined_settled n (set lists n (inserted e (block_at n lists))) ∙ inserted_joined e n lists into.sound.some into.sound.rising into.place

  pub put_sound : AreSound (settled n (set lists n (inserted e (block_at n lists))))
  put_sound = record {
    rising = subst Rises (sym put_joined) (rises_inserted e (joined lists) into.sound.rising);
    filled = filled_settled n lists (inserted e (block_at n lists)) into.sound.filled within (λ h. omega (arith, into.count, least_at n lists into.sound within h)) put_room;
    some = omega (arith, into.sound.some, length-set lists n (inserted e (block_at n lists)), some_settled n (set lists n (inserted e (block_at n lists))));
  }

  pub put_counted : length (joined (settled n (set lists n (inserted e (block_at n lists))))) ≡ length (joined lists) + k
  put_counted =
      let same = ap length (joined_settled n (set lists n (inserted e (block_at n lists)))) in
      omega (arith, same, into.count, length_joined n lists (inserted e (block_at n lists)) within)

-- the block that a ticket is taken from
pub record GoesFrom (e : Ticket) (n k : ℕ) (lists : List (List Ticket)) : Type 0 where
  pub sound : AreSound lists
  pub place : n ≡ position_or_len (ends_past (before e)) lists
  pub within : n < length lists
  pub count : length (removed e (block_at n lists)) + k ≡ length (block_at n lists)

module _ (e : Ticket) (n k : ℕ) (lists : List (List Ticket)) (from : GoesFrom e n k lists) where
  pub taken_few : length (removed e (block_at n lists)) ≤ most
  taken_few = omega (arith, from.count, block_filled 0 n lists from.sound.filled)

  pub taken_joined : joined (mended n (set lists n (removed e (block_at n lists)))) ≡ removed e (joined lists)
  taken_joined = joined_mended n (set lists n (removed e (block_at n lists))) ∙ removed_joined e n lists from.sound.rising from.place from.within

  pub taken_sound : AreSound (mended n (set lists n (removed e (block_at n lists))))
  taken_sound = record {
    rising = subst Rises (sym taken_joined) (rises_removed e (joined lists) from.sound.rising);
    filled = filled_mended n lists (removed e (block_at n lists)) from.sound.filled from.within taken_few;
    some = some_mended n (set lists n (removed e (block_at n lists))) (omega (arith, from.within, length-set lists n (removed e (block_at n lists))));
  }

  pub taken_counted : length (joined (mended n (set lists n (removed e (block_at n lists))))) + k ≡ length (joined lists)
  taken_counted =
      let same = ap length (joined_mended n (set lists n (removed e (block_at n lists)))) in
      omega (arith, same, from.count, length_joined n lists (removed e (block_at n lists)) from.within)

-- the block before that one
pub before_filled : (n : ℕ) (lists : List (List Ticket)) (ys : List Ticket) → AreSound lists → n < length lists → length ys ≤ most → length (block_at (n - 1) (set lists n ys)) ≤ most
before_filled zero lists ys s h k = rw (get_or-set_same lists zero ys [] h) k
before_filled (suc n) lists ys s h k =
    let ahead : suc n - 1 ≡ n = omega arith in
    let other : n ≢ suc n = omega arith in
    subst (λ (j : ℕ). length (block_at j (set lists (suc n) ys)) ≤ most) (sym ahead) (rw (get_or-set_other lists (suc n) n ys [] other) (block_filled 0 n lists s.filled))
