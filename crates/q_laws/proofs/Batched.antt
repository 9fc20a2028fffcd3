-- The positions that a load takes: which they are, how many, and that its rows hold each once.
use Rattle.std.proofs.Common.{◌≡◌, ℕ, zero, suc, ◌+◌, ◌-◌, ◌≤◌, ◌<◌, Bool, true, false, cond, not, List, [], ◌∷◌, ◌++◌, length, filter, Option, Some, None, inl, inr, refl, sym, ap, ◌∙◌, arith, if◌then◌else◌, eqb-true, leb-true, ltb-true, lt-ltb, length-append}
use Rattle.std.proofs.lemmas.Bool.{and_from, and_parts, not-true, or_parts}
use Rattle.std.specs.List.{list_all}
use Rattle.std.specs.Option.{option_map_or}
use Rattle.std.specs.Prelude.{◌==◌, ◌&&◌, ◌||◌, nat_le, nat_lt, slice_get}
use Rattle.q_laws.proofs.Counts.{times, times_append, times_none}
use Rattle.q_laws.proofs.Members.{IsIn, in_filtered}
use Rattle.q_laws.proofs.Places.{got_below, got_in, place_is}
use Rattle.q_laws.proofs.RowCounts.{lengths_more, row_lengths, row_positions}
use Rattle.q_laws.proofs.Unmarked.{unmarked_from}
use Rattle.q_laws.specs.Consistency.{is_filled, waiting_positions}
use Rattle.q_model.specs.Batches.{join_rows, load_end, load_positions, pending_from, rows_from}
use Rattle.q_model.specs.Sites.{site_eq}
use Rattle.q_model.specs.Ids.{id_eq}
use Rattle.q_model.specs.Lists.{places_from}
use Rattle.q_model.specs.Marking.{is_unmarked_at}
use Rattle.q_model.specs.Marks.{is_marked}
use Rattle.q_model.specs.Message.{Message, Recipient, address_at, is_logged, pending}
use Rattle.q_model.specs.Settings.{World}
use Rattle.q_model.specs.Values.{Site}
use Rattle.q_model.specs.declared.id.Id.{Id}
use Rattle.q_model.specs.declared.rows.Row.{Row}

-- ---- rising numbers

abbrev pub IsRising : List ℕ → Type 0
IsRising [] = Unit {0}
IsRising (n ∷ ns) = ((m : ℕ) → IsIn m ns → n < m) × IsRising ns

kept_rising : (n : ℕ) (few : List ℕ) (b : Bool) → ((m : ℕ) → IsIn m few → n < m) → IsRising few → IsRising (cond b (n ∷ few) few)
kept_rising n few true h k = (h, k)
kept_rising n few false h k = k

pub rising_filter : (p : ℕ → Bool) (ns : List ℕ) → IsRising ns → IsRising (filter p ns)
rising_filter p [] h = tt
rising_filter p (n ∷ ns) h = kept_rising n (filter p ns) (p n) (λ m k. h.0 m (in_filtered p m ns k).0) (rising_filter p ns h.1)

place_rising : (n : ℕ) (few : List ℕ) (b : Bool) → ((m : ℕ) → IsIn m few → n < m) → IsRising few → IsRising (if b then n ∷ few else few)
place_rising n few true h k = (h, k)
place_rising n few false h k = k

pub rising_places : {A : Type 0} (n : ℕ) (test : ℕ → A → Bool) (xs : List A) → IsRising (places_from n test xs)
rising_places n test [] = tt
rising_places n test (x ∷ xs) =
    place_rising n (places_from (n + 1) test xs) (test n x) (λ m k. let one = place_is (n + 1) test xs m k in omega (arith, one.is)) (rising_places (n + 1) test xs)

rising_one : (n p : ℕ) (ns : List ℕ) (b : Bool) → (n == p) ≡ b → ((m : ℕ) → IsIn m ns → n < m) → times p ns ≤ 1 → (if b then 1 else 0) + times p ns ≤ 1
rising_one n p ns false e h k = omega (arith, k)
rising_one n p ns true e h k =
    let same : n ≡ p = eqb-true n p e in
    let none : times p ns ≡ 0 = times_none p ns (λ g. let more : n < p = h p g in absurd (omega (arith, more, same))) in
    omega (arith, none)

pub rising_once : (p : ℕ) (ns : List ℕ) → IsRising ns → times p ns ≤ 1
rising_once p [] h = omega arith
rising_once p (n ∷ ns) h = rising_one n p ns (n == p) refl h.0 (rising_once p ns h.1)

below_head : (n p : ℕ) (ns : List ℕ) → n < p → ((m : ℕ) → IsIn m ns → p ≤ m) → filter (λ q. nat_lt q p) ns ≡ []
below_head n p [] h k = refl
below_head n p (m ∷ ns) h k = which (nat_lt m p) refl (below_head n p ns h (λ x g. k x (inr g)))
  where
    which : (b : Bool) → nat_lt m p ≡ b → filter (λ q. nat_lt q p) ns ≡ [] → cond b (m ∷ filter (λ q. nat_lt q p) ns) (filter (λ q. nat_lt q p) ns) ≡ []
    which false e rest = rest
    which true e rest = let less : m < p = ltb-true m p e in let more : p ≤ m = k m (inl refl) in absurd (omega (arith, less, more))

kept_length : (n : ℕ) (few : List ℕ) (b : Bool) (k : ℕ) → length few ≤ k → length (cond b (n ∷ few) few) ≤ suc k
kept_length n few true k h = omega (arith, h)
kept_length n few false k h = omega (arith, h)

-- of rising numbers at most i + 1 lie up to the one at i
pub few_below : (ns : List ℕ) (i p : ℕ) → IsRising ns → slice_get ns i ≡ Some p → length (filter (λ q. nat_lt q (p + 1)) ns) ≤ suc i
few_below [] i p h e = absurd cc
few_below (n ∷ ns) zero p h e =
    let same : n ≡ p = cc in
    let none : filter (λ q. nat_lt q (p + 1)) ns ≡ [] = below_head n (p + 1) ns (omega (arith, same)) (λ m k. let more : n < m = h.0 m k in omega (arith, more, same)) in
    let empty : length (filter (λ q. nat_lt q (p + 1)) ns) ≡ 0 = ap length none in
    kept_length n (filter (λ q. nat_lt q (p + 1)) ns) (nat_lt n (p + 1)) 0 (omega (arith, empty))
few_below (n ∷ ns) (suc i) p h e = kept_length n (filter (λ q. nat_lt q (p + 1)) ns) (nat_lt n (p + 1)) (suc i) (few_below ns i p h.1 e)

pub filter_length : (p : ℕ → Bool) (ns : List ℕ) → length (filter p ns) ≤ length ns
filter_length p [] = omega arith
filter_length p (n ∷ ns) = kept_length n (filter p ns) (p n) (length ns) (filter_length p ns)

-- ---- the positions of a load

-- a position that a load takes
pub record IsLoadedAt (m : Message) (from to p : ℕ) : Type 0 where
  pub late : from ≤ p
  pub early : p < to
  pub within : p < length m.recipients
  pub bare : is_unmarked_at m p ≡ true

pub pending_in : (m : Message) (from p : ℕ) → IsIn p (pending_from m from) → (from ≤ p) × (p < length m.recipients) × (is_unmarked_at m p ≡ true)
pending_in m from p h =
    let two = in_filtered (λ q. nat_le from q) p (pending m) h in
    let one = place_is 0 (λ i (r : Recipient). not (is_marked r.mark || is_logged m i)) m.recipients p two.0 in
    let at : one.index ≡ p = omega (arith, one.is) in
    let there : slice_get m.recipients p ≡ Some one.item = ap (slice_get m.recipients) (sym at) ∙ one.there in
    let neither = or_parts (is_marked one.item.mark) (is_logged m p) (not-true (is_marked one.item.mark || is_logged m p) one.passes) in
    (leb-true from p two.1, got_below one.item m.recipients p there, unmarked_from m p (record { recipient = one.item; there = there; bare = neither.0 }))

pub loaded_at : (m : Message) (from to p : ℕ) → IsIn p (load_positions m from to) → IsLoadedAt m from to p
loaded_at m from to p h =
    let two = in_filtered (λ q. nat_lt q to) p (pending_from m from) h in
    let one = pending_in m from p two.0 in
    record { late = one.0; early = ltb-true p to two.1; within = one.1; bare = one.2 }

pub pending_rising : (m : Message) (from : ℕ) → IsRising (pending_from m from)
pending_rising m from = rising_filter (λ q. nat_le from q) (pending m) (rising_places 0 (λ i (r : Recipient). not (is_marked r.mark || is_logged m i)) m.recipients)

pub loaded_once : (m : Message) (from to p : ℕ) → times p (load_positions m from to) ≤ 1
loaded_once m from to p = rising_once p (load_positions m from to) (rising_filter (λ q. nat_lt q to) (pending_from m from) (pending_rising m from))

-- where a load ends
pub record IsEnd (m : Message) (from room to : ℕ) : Type 0 where
  pub late : from ≤ to
  pub within : to ≤ length m.recipients
  pub few : length (load_positions m from to) ≤ room

got_none : {A : Type 0} (xs : List A) (i : ℕ) → slice_get xs i ≡ None → length xs ≤ i
got_none [] i h = omega arith
got_none (x ∷ xs) zero h = absurd cc
got_none (x ∷ xs) (suc i) h = let rest : length xs ≤ i = got_none xs i h in omega (arith, rest)

end_on : (m : Message) (from room : ℕ) (o : Option ℕ) → 1 ≤ room → from ≤ length m.recipients → slice_get (pending_from m from) (room - 1) ≡ o → IsEnd m from room (option_map_or (λ p. p + 1) o (length m.recipients))
end_on m from room None h k e =
    let n : length (pending_from m from) ≤ room - 1 = got_none (pending_from m from) (room - 1) e in
    let f = filter_length (λ q. nat_lt q (length m.recipients)) (pending_from m from) in
    record { late = k; within = omega arith; few = omega (arith, n, f, h) }
end_on m from room (Some p) h k e =
    let one = pending_in m from p (got_in p (pending_from m from) (room - 1) e) in
    let late : from ≤ p = one.0 in
    let below : p < length m.recipients = one.1 in
    let f = few_below (pending_from m from) (room - 1) p (pending_rising m from) e in
    record { late = omega (arith, late); within = omega (arith, below); few = omega (arith, f, h) }

-- with room for one position at least, a load stays within the message and the room
pub end_is : (m : Message) (from room : ℕ) → 1 ≤ room → from ≤ length m.recipients → IsEnd m from room (load_end m from room)
end_is m from room h k = end_on m from room (slice_get (pending_from m from) (room - 1)) h k refl

-- ---- the rows of a load

-- each row is of this message
abbrev pub AreOf : Id → List Row → Type 0
AreOf id rows = (r : Row) → IsIn r rows → r.id ≡ id

joined_one : (limit : ℕ) (id : Id) (site : Site) (p : ℕ) (r x : Row) (rs few : List Row) (b : Bool) → r.id ≡ id → ((y : Row) → IsIn y rs → y.id ≡ id) → ((y : Row) → IsIn y few → y.id ≡ id) →
    IsIn x (if b then record r { positions = r.positions ++ p ∷ [] } ∷ rs else r ∷ few) → x.id ≡ id
joined_one limit id site p r x rs few true e h k (inl s) = ap (λ (y : Row). y.id) (sym s) ∙ e
joined_one limit id site p r x rs few true e h k (inr g) = h x g
joined_one limit id site p r x rs few false e h k (inl s) = ap (λ (y : Row). y.id) (sym s) ∙ e
joined_one limit id site p r x rs few false e h k (inr g) = k x g

join_of : (limit : ℕ) (id : Id) (site : Site) (p : ℕ) (rs : List Row) → AreOf id rs → AreOf id (join_rows limit id site p rs)
join_of limit id site p [] h x (inl s) = ap (λ (y : Row). y.id) (sym s)
join_of limit id site p [] h x (inr g) = absurd g
join_of limit id site p (r ∷ rs) h x g =
    joined_one limit id site p r x rs (join_rows limit id site p rs) (site_eq r.site site && nat_lt (length r.positions) limit) (h r (inl refl)) (λ y k. h y (inr k)) (join_of limit id site p rs (λ y k. h y (inr k))) g

pub rows_of : (w : World) (m : Message) (rs : List Row) (ps : List ℕ) → AreOf m.id rs → AreOf m.id (rows_from w m rs ps)
rows_of w m rs [] h = h
rows_of w m rs (p ∷ ps) h = rows_of w m (join_rows w.settings.entry_limit m.id (w.table.route (address_at m p)) p rs) ps (join_of w.settings.entry_limit m.id (w.table.route (address_at m p)) p rs h)

abbrev one_position : Id → Id → ℕ → List ℕ
one_position id i p = if id_eq id i then p ∷ [] else []

longer_row : (id i : Id) (r : Row) (p q : ℕ) → r.id ≡ id → times q (if id_eq r.id i then r.positions ++ p ∷ [] else []) ≡ times q (row_positions i r) + times q (one_position id i p)
longer_row id i r p q e = ap (λ (j : Id). times q (if id_eq j i then r.positions ++ p ∷ [] else [])) e ∙ which (id_eq id i) ∙ ap (λ (j : Id). times q (if id_eq j i then r.positions else []) + times q (one_position id i p)) (sym e)
  where
    which : (b : Bool) → times q (if b then r.positions ++ p ∷ [] else []) ≡ times q (if b then r.positions else []) + times q (if b then p ∷ [] else [])
    which true = times_append q r.positions (p ∷ [])
    which false = omega arith

join_count : (limit : ℕ) (id i : Id) (site : Site) (p q : ℕ) (rs : List Row) → AreOf id rs → times q (waiting_positions i (join_rows limit id site p rs)) ≡ times q (waiting_positions i rs) + times q (one_position id i p)
join_count limit id i site p q [] h = let a = times_append q (one_position id i p) [] in omega (arith, a)
join_count limit id i site p q (r ∷ rs) h = which (site_eq r.site site && nat_lt (length r.positions) limit) (join_count limit id i site p q rs (λ y k. h y (inr k)))
  where
    which : (b : Bool) → times q (waiting_positions i (join_rows limit id site p rs)) ≡ times q (waiting_positions i rs) + times q (one_position id i p) →
        times q (waiting_positions i (if b then record r { positions = r.positions ++ p ∷ [] } ∷ rs else r ∷ join_rows limit id site p rs)) ≡ times q (waiting_positions i (r ∷ rs)) + times q (one_position id i p)
    which true k =
        let a = times_append q (if id_eq r.id i then r.positions ++ p ∷ [] else []) (waiting_positions i rs) in
        let b = times_append q (row_positions i r) (waiting_positions i rs) in
        let d = longer_row id i r p q (h r (inl refl)) in
        omega (arith, a, b, d)
    which false k =
        let a = times_append q (row_positions i r) (waiting_positions i (join_rows limit id site p rs)) in
        let b = times_append q (row_positions i r) (waiting_positions i rs) in
        omega (arith, a, b, k)

position_list : (id i : Id) (p q : ℕ) (ps : List ℕ) → times q (if id_eq id i then p ∷ ps else []) ≡ times q (one_position id i p) + times q (if id_eq id i then ps else [])
position_list id i p q ps = which (id_eq id i)
  where
    which : (b : Bool) → times q (if b then p ∷ ps else []) ≡ times q (if b then p ∷ [] else []) + times q (if b then ps else [])
    which true = times_append q (p ∷ []) ps
    which false = omega arith

nothing_more : (i : Id) (m : Message) (q n : ℕ) → n ≡ n + times q (if id_eq m.id i then [] else [])
nothing_more i m q n = which (id_eq m.id i)
  where
    which : (b : Bool) → n ≡ n + times q (if b then [] else [])
    which true = omega arith
    which false = omega arith

-- the rows hold what was joined to them
pub rows_count : (w : World) (m : Message) (i : Id) (q : ℕ) (rs : List Row) (ps : List ℕ) → AreOf m.id rs → times q (waiting_positions i (rows_from w m rs ps)) ≡ times q (waiting_positions i rs) + times q (if id_eq m.id i then ps else [])
rows_count w m i q rs [] h = nothing_more i m q (times q (waiting_positions i rs))
rows_count w m i q rs (p ∷ ps) h =
    let site = w.table.route (address_at m p) in
    let more = join_rows w.settings.entry_limit m.id site p rs in
    let a = rows_count w m i q more ps (join_of w.settings.entry_limit m.id site p rs h) in
    let b = join_count w.settings.entry_limit m.id i site p q rs h in
    let d = position_list m.id i p q ps in
    omega (arith, a, b, d)

join_length : (limit : ℕ) (id : Id) (site : Site) (p : ℕ) (rs : List Row) → row_lengths (join_rows limit id site p rs) ≡ row_lengths rs + 1
join_length limit id site p [] = let a = lengths_more (record { id = id; site = site; positions = p ∷ [] }) [] in omega (arith, a)
join_length limit id site p (r ∷ rs) = which (site_eq r.site site && nat_lt (length r.positions) limit) (join_length limit id site p rs)
  where
    which : (b : Bool) → row_lengths (join_rows limit id site p rs) ≡ row_lengths rs + 1 → row_lengths (if b then record r { positions = r.positions ++ p ∷ [] } ∷ rs else r ∷ join_rows limit id site p rs) ≡ row_lengths (r ∷ rs) + 1
    which true k =
        let a = lengths_more (record r { positions = r.positions ++ p ∷ [] }) rs in
        let b = lengths_more r rs in
        let d = length-append r.positions (p ∷ []) in
        omega (arith, a, b, d)
    which false k = let a = lengths_more r (join_rows limit id site p rs) in let b = lengths_more r rs in omega (arith, a, b, k)

pub rows_length : (w : World) (m : Message) (rs : List Row) (ps : List ℕ) → row_lengths (rows_from w m rs ps) ≡ row_lengths rs + length ps
rows_length w m rs [] = omega arith
rows_length w m rs (p ∷ ps) =
    let site = w.table.route (address_at m p) in
    let a = rows_length w m (join_rows w.settings.entry_limit m.id site p rs) ps in
    let b = join_length w.settings.entry_limit m.id site p rs in
    omega (arith, a, b)

filled_one : (p : ℕ) (r : Row) (rs few : List Row) (b : Bool) → list_all is_filled (r ∷ rs) ≡ true → list_all is_filled few ≡ true → list_all is_filled (if b then record r { positions = r.positions ++ p ∷ [] } ∷ rs else r ∷ few) ≡ true
filled_one p r rs few true h k =
    let a = length-append r.positions (p ∷ []) in
    and_from (is_filled (record r { positions = r.positions ++ p ∷ [] })) (list_all is_filled rs) (lt-ltb 0 (length (r.positions ++ p ∷ [])) (omega (arith, a))) (and_parts (is_filled r) (list_all is_filled rs) h).1
filled_one p r rs few false h k = and_from (is_filled r) (list_all is_filled few) (and_parts (is_filled r) (list_all is_filled rs) h).0 k

join_filled : (limit : ℕ) (id : Id) (site : Site) (p : ℕ) (rs : List Row) → list_all is_filled rs ≡ true → list_all is_filled (join_rows limit id site p rs) ≡ true
join_filled limit id site p [] h = refl
join_filled limit id site p (r ∷ rs) h =
    filled_one p r rs (join_rows limit id site p rs) (site_eq r.site site && nat_lt (length r.positions) limit) h (join_filled limit id site p rs (and_parts (is_filled r) (list_all is_filled rs) h).1)

-- no row of a load is empty
pub rows_filled : (w : World) (m : Message) (rs : List Row) (ps : List ℕ) → list_all is_filled rs ≡ true → list_all is_filled (rows_from w m rs ps) ≡ true
rows_filled w m rs [] h = h
rows_filled w m rs (p ∷ ps) h =
    let site = w.table.route (address_at m p) in
    rows_filled w m (join_rows w.settings.entry_limit m.id site p rs) ps (join_filled w.settings.entry_limit m.id site p rs h)
