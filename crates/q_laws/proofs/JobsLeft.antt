-- What a message has left at a transport is no more than its recipients: each row that waits has a position, no position
-- is in memory twice, and each was read.
use Rattle.std.proofs.Common.{◌≡◌, ℕ, zero, suc, ◌+◌, ◌-◌, ◌≤◌, ◌<◌, Bool, true, false, cond, not, List, [], ◌∷◌, ◌++◌, length, filter, Option, Some, None, refl, sym, ap, ◌∙◌, arith, if◌then◌else◌, leb-true, ltb-true, lt-ltb, length-append}
use Rattle.std.proofs.lemmas.Bool.{and_parts, not-true}
use Rattle.std.proofs.lemmas.List.Sums.{sum_by-cons}
use Rattle.std.specs.List.{list_all}
use Rattle.std.specs.Option.{option_map_or}
use Rattle.std.specs.Prelude.{◌==◌, ◌&&◌, count_by, nat_le, nat_lt}
use Rattle.q_laws.proofs.Counts.{once_times, times}
use Rattle.q_laws.proofs.Distinct.{find_named}
use Rattle.q_laws.proofs.Members.{IsIn, all_at, all_from, find_in, in_filtered}
use Rattle.q_laws.specs.Consistency.{IsMemoryConsistent, IsRemembered, flight_positions, is_filled, is_present, is_within, memory_positions, unsettled_positions, waiting_positions}
use Rattle.q_model.specs.Accounts.{job_left}
use Rattle.q_model.specs.Book.{message_of}
use Rattle.q_model.specs.Ids.{id_eq}
use Rattle.q_model.specs.Ledger.{Ledger}
use Rattle.q_model.specs.Memory.{admitted_of, unread_count}
use Rattle.q_model.specs.Message.{Message}
use Rattle.q_model.specs.Places.{is_active}
use Rattle.q_model.specs.Settings.{World}
use Rattle.q_model.specs.declared.id.Id.{Id}
use Rattle.q_model.specs.declared.rows.Admitted.{Admitted}
use Rattle.q_model.specs.declared.rows.Row.{Row}

-- ---- numbers below a number

abbrev others : ℕ → List ℕ → List ℕ
others n ns = filter (λ m. not (m == n)) ns

other_length : (n m : ℕ) (ns : List ℕ) (b : Bool) → length ns ≤ times n ns + length (others n ns) → length (m ∷ ns) ≤ ((if b then 1 else 0) + times n ns) + length (cond (not b) (m ∷ others n ns) (others n ns))
other_length n m ns true h = omega (arith, h)
other_length n m ns false h = omega (arith, h)

-- a list is no longer than what isn't n and the times that n stands in it
others_length : (n : ℕ) (ns : List ℕ) → length ns ≤ times n ns + length (others n ns)
others_length n [] = omega arith
others_length n (m ∷ ns) = other_length n m ns (m == n) (others_length n ns)

other_times : (p m : ℕ) (few ns : List ℕ) (b : Bool) → times p few ≤ times p ns → times p (cond b (m ∷ few) few) ≤ times p (m ∷ ns)
other_times p m few ns true h = omega (arith, h)
other_times p m few ns false h = omega (arith, h)

others_times : (n p : ℕ) (ns : List ℕ) → times p (others n ns) ≤ times p ns
others_times n p [] = omega arith
others_times n p (m ∷ ns) = other_times p m (others n ns) ns (not (m == n)) (others_times n p ns)

not_last : (m n : ℕ) → m < suc n → (m == n) ≡ false → m < n
not_last m n h e = which (nat_lt m n) refl
  where
    which : (b : Bool) → nat_lt m n ≡ b → m < n
    which true k = ltb-true m n k
    which false k = absurd (grind (arith, h, e, k))

-- so many numbers lie below n, each once, as there are numbers below it at most
once_below : (n : ℕ) (ns : List ℕ) → ((p : ℕ) → times p ns ≤ 1) → list_all (λ p. nat_lt p n) ns ≡ true → length ns ≤ n
once_below zero [] once h = omega arith
once_below zero (m ∷ ns) once h = let less : m < 0 = ltb-true m 0 (and_parts (nat_lt m 0) (list_all (λ p. nat_lt p 0) ns) h).0 in absurd (omega (arith, less))
once_below (suc n) ns once h =
    let most = others_length n ns in
    let one = once n in
    let fewer = once_below n (others n ns) (λ p. let a = others_times n p ns in let b = once p in omega (arith, a, b)) (all_from (λ p. nat_lt p n) (others n ns) (λ m inside.
    let two = in_filtered (λ x. not (x == n)) m ns inside in
    lt-ltb m n (not_last m n (ltb-true m (suc n) (all_at (λ p. nat_lt p (suc n)) m ns h two.0)) (not-true (m == n) two.1)))) in
    omega (arith, most, one, fewer)

-- ---- rows

abbrev is_left_at : Id → ℕ → Row → Bool
is_left_at id t r = id_eq r.id id && (r.site.transport == t)

row_here : (id : Id) (t : ℕ) (r : Row) (rs : List Row) (n : ℕ) (a b : Bool) → 1 ≤ length r.positions → n ≤ length (waiting_positions id rs) → cond (a && b) 1 0 + n ≤ length ((if a then r.positions else []) ++ waiting_positions id rs)
row_here id t r rs n true true some h = let a = length-append r.positions (waiting_positions id rs) in omega (arith, a, some, h)
row_here id t r rs n true false some h = let a = length-append r.positions (waiting_positions id rs) in omega (arith, a, some, h)
row_here id t r rs n false b some h = omega (arith, h)

-- each row of a message has one of its positions
rows_few : (id : Id) (t : ℕ) (rs : List Row) → list_all is_filled rs ≡ true → count_by (is_left_at id t) rs ≤ length (waiting_positions id rs)
rows_few id t [] h = omega arith
rows_few id t (r ∷ rs) h =
    let two = and_parts (is_filled r) (list_all is_filled rs) h in
    let more = sum_by-cons (λ (x : Row). cond (is_left_at id t x) 1 0) r rs in
    let here = row_here id t r rs (count_by (is_left_at id t) rs) (id_eq r.id id) (r.site.transport == t) (ltb-true 0 (length r.positions) two.0) (rows_few id t rs two.1) in
    omega (arith, more, here)

-- what a message has left at a transport is no more than its recipients
pub job_left_within : (w : World) (l : Ledger) (a : Admitted) (m : Message) (t : ℕ) → IsMemoryConsistent w l → admitted_of l a.id ≡ Some a → message_of l.book a.id ≡ Some m → job_left l a.id t ≤ length m.recipients
job_left_within w l a m t c found there =
    let h : IsRemembered l a m = c.remembered a m found there in
    let id = a.id in
    let rows = rows_few id t l.waiting c.filled in
    let some = once_below a.unread (memory_positions l id) (once_times (memory_positions l id) h.once) h.read in
    let x = length-append (waiting_positions id l.waiting ++ flight_positions id l.flights) (unsettled_positions id l.unsettled) in
    let y = length-append (waiting_positions id l.waiting) (flight_positions id l.flights) in
    let fits : nat_le a.unread (length m.recipients) ≡ true =
    ap (λ (o : Option Message). option_map_or (λ (z : Message). nat_le a.unread (length z.recipients)) o false) (sym there) ∙ all_at (is_within l) a l.admitted c.within (find_in (λ (z : Admitted). id_eq z.id id) a l.admitted found).0 in
    let read = leb-true a.unread (length m.recipients) fits in
    let unread : unread_count l a ≡ length m.recipients - a.unread = ap (λ (o : Option Message). option_map_or (λ (z : Message). length z.recipients - a.unread) o 0) there in
    let same : job_left l a.id t ≡ count_by (is_left_at id t) l.waiting + (length m.recipients - a.unread) =
    ap (λ (o : Option Admitted). count_by (is_left_at id t) l.waiting + option_map_or (λ z. unread_count l z) o 0) found ∙ ap (λ n. count_by (is_left_at id t) l.waiting + n) unread in
    omega (arith, rows, some, x, y, read, same)

-- the same of a message in memory, by the book
pub job_left_few : (w : World) (l : Ledger) (a : Admitted) (t : ℕ) → IsMemoryConsistent w l → IsIn a l.admitted → job_left l a.id t ≤ option_map_or (λ (m : Message). length m.recipients) (message_of l.book a.id) 0
job_left_few w l a t c inside = on (message_of l.book a.id) refl (all_at (is_present l) a l.admitted c.present inside)
  where
    on : (o : Option Message) → message_of l.book a.id ≡ o → option_map_or (λ (m : Message). is_active m.place) o false ≡ true → job_left l a.id t ≤ option_map_or (λ (m : Message). length m.recipients) o 0
    on None there h = absurd cc
    on (Some m) there h = job_left_within w l a m t c (find_named (λ (x : Admitted). x.id) a l.admitted c.admitted inside) there
