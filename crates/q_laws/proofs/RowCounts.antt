-- How often positions stand in rows that wait, deliveries in flight and unsettled outcomes, as rows are removed and added.
use Rattle.std.proofs.Common.{◌≡◌, ℕ, suc, ◌+◌, ◌≤◌, Bool, true, false, cond, List, [], ◌∷◌, ◌++◌, length, filter, sum_by, Option, Some, None, option_map, inl, inr, refl, sym, ap, ◌∙◌, subst, arith, if◌then◌else◌}
use Rattle.std.proofs.lemmas.List.Sums.{sum_by-cons}
use Rattle.std.specs.List.{cons_option, list_any}
use Rattle.std.specs.Prelude.{◌||◌}
use Rattle.q_laws.proofs.Counts.{times, times_append}
use Rattle.q_laws.proofs.Distinct.{id_same}
use Rattle.q_laws.proofs.Members.{IsIn, in_left, in_right}
use Rattle.q_laws.specs.Consistency.{flight_positions, unsettled_positions, waiting_positions}
use Rattle.q_model.specs.Ids.{id_eq}
use Rattle.q_model.specs.Lists.{drop_first}
use Rattle.q_model.specs.Message.{Message}
use Rattle.q_model.specs.Settings.{World}
use Rattle.q_model.specs.Settling.{need_of, needs_of, unsettled_row}
use Rattle.q_model.specs.declared.id.Id.{Id}
use Rattle.q_model.specs.declared.outcome.Outcome.{Outcome}
use Rattle.q_model.specs.declared.rows.Delivery.{Delivery}
use Rattle.q_model.specs.declared.rows.Need.{Need}
use Rattle.q_model.specs.declared.rows.Row.{Row}
use Rattle.q_model.specs.declared.rows.Unsettled.{Unsettled}

-- the positions of a row, where it is of this id
abbrev pub row_positions : Id → Row → List ℕ
row_positions id r = if id_eq r.id id then r.positions else []

abbrev pub row_lengths : List Row → ℕ
row_lengths rs = sum_by (λ (r : Row). length r.positions) rs

abbrev pub flight_lengths : List Delivery → ℕ
flight_lengths fs = sum_by (λ (f : Delivery). length f.row.positions) fs

pub lengths_more : (r : Row) (rs : List Row) → row_lengths (r ∷ rs) ≡ length r.positions + row_lengths rs
lengths_more r rs = sum_by-cons (λ (x : Row). length x.positions) r rs

pub flights_more : (f : Delivery) (fs : List Delivery) → flight_lengths (f ∷ fs) ≡ length f.row.positions + flight_lengths fs
flights_more f fs = sum_by-cons (λ (x : Delivery). length x.row.positions) f fs

-- ---- a row that is removed

-- the first row that passes, and what the others hold
pub record IsRemoved (p : Row → Bool) (rs : List Row) : Type 0 where
  pub row : Row
  pub inside : IsIn row rs
  pub passes : p row ≡ true
  pub count : (id : Id) (q : ℕ) → times q (waiting_positions id rs) ≡ times q (row_positions id row) + times q (waiting_positions id (drop_first p rs))
  pub lengths : row_lengths rs ≡ length row.positions + row_lengths (drop_first p rs)

remove_one : (p : Row → Bool) (r : Row) (rs : List Row) (b : Bool) → p r ≡ b → drop_first p (r ∷ rs) ≡ (if b then rs else r ∷ drop_first p rs) → (b ≡ false → IsRemoved p rs) → IsRemoved p (r ∷ rs)
remove_one p r rs true e drops rest = record {
  row = r;
  inside = inl refl;
  passes = e;
  count = λ id q. let s = times_append q (row_positions id r) (waiting_positions id rs) in s ∙ ap (λ xs. times q (row_positions id r) + times q (waiting_positions id xs)) (sym drops);
  lengths = lengths_more r rs ∙ ap (λ xs. length r.positions + row_lengths xs) (sym drops);
}
remove_one p r rs false e drops rest =
    let t = rest refl in
    record {
      row = t.row;
      inside = inr t.inside;
      passes = t.passes;
      count = λ id q.
          let s = times_append q (row_positions id r) (waiting_positions id rs) in
          let u = times_append q (row_positions id r) (waiting_positions id (drop_first p rs)) in
          let v = t.count id q in
          let d : times q (waiting_positions id (drop_first p (r ∷ rs))) ≡ times q (row_positions id r ++ waiting_positions id (drop_first p rs)) = ap (λ xs. times q (waiting_positions id xs)) drops in
          omega (arith, s, u, v, d);
      lengths =
          let s = lengths_more r rs in
          let u = lengths_more r (drop_first p rs) in
          let v = t.lengths in
          let d : row_lengths (drop_first p (r ∷ rs)) ≡ row_lengths (r ∷ drop_first p rs) = ap row_lengths drops in
          omega (arith, s, u, v, d);
    }

removed_here : (p : Row → Bool) (r : Row) (rs : List Row) → (p r || list_any p rs) ≡ true → (b : Bool) → p r ≡ b → b ≡ false → list_any p rs ≡ true
removed_here p r rs h b e f = ap (λ c. c || list_any p rs) (sym (e ∙ f)) ∙ h

pub removed : (p : Row → Bool) (rs : List Row) → list_any p rs ≡ true → IsRemoved p rs
removed p [] h = absurd cc
removed p (r ∷ rs) h = remove_one p r rs (p r) refl refl (λ e. removed p rs (removed_here p r rs h (p r) refl e))

-- ---- deliveries that leave

kept_flight : (p : Delivery → Bool) (id : Id) (q : ℕ) (f : Delivery) (few fs : List Delivery) (b : Bool) → times q (flight_positions id few) ≤ times q (flight_positions id fs) → times q (flight_positions id (cond b (f ∷ few) few)) ≤ times q (flight_positions id (f ∷ fs))
kept_flight p id q f few fs true h =
    let s = times_append q (row_positions id f.row) (flight_positions id few) in
    let t = times_append q (row_positions id f.row) (flight_positions id fs) in
    omega (arith, s, t, h)
kept_flight p id q f few fs false h = let t = times_append q (row_positions id f.row) (flight_positions id fs) in omega (arith, t, h)

fewer_flights : (p : Delivery → Bool) (id : Id) (q : ℕ) (fs : List Delivery) → times q (flight_positions id (filter p fs)) ≤ times q (flight_positions id fs)
fewer_flights p id q [] = omega arith
fewer_flights p id q (f ∷ fs) = kept_flight p id q f (filter p fs) fs (p f) (fewer_flights p id q fs)

left_flight : (id : Id) (q n : ℕ) (g : Delivery) (few fs : List Delivery) (b : Bool) → n + times q (flight_positions id few) ≤ times q (flight_positions id fs) → n + times q (flight_positions id (cond b (g ∷ few) few)) ≤ times q (flight_positions id (g ∷ fs))
left_flight id q n g few fs true h =
    let s = times_append q (row_positions id g.row) (flight_positions id few) in
    let t = times_append q (row_positions id g.row) (flight_positions id fs) in
    omega (arith, s, t, h)
left_flight id q n g few fs false h = let t = times_append q (row_positions id g.row) (flight_positions id fs) in omega (arith, t, h)

-- what one that leaves had, the others don't
pub left_flights : (p : Delivery → Bool) (id : Id) (q : ℕ) (f : Delivery) (fs : List Delivery) → IsIn f fs → p f ≡ false → times q (row_positions id f.row) + times q (flight_positions id (filter p fs)) ≤ times q (flight_positions id fs)
left_flights p id q f [] h e = absurd h
left_flights p id q f (g ∷ fs) (inl same) e =
    let gone : filter p (g ∷ fs) ≡ filter p fs = ap (λ b. cond b (g ∷ filter p fs) (filter p fs)) (ap p same ∙ e) in
    let s : times q (flight_positions id (filter p (g ∷ fs))) ≡ times q (flight_positions id (filter p fs)) = ap (λ xs. times q (flight_positions id xs)) gone in
    let t = times_append q (row_positions id g.row) (flight_positions id fs) in
    let u : times q (row_positions id g.row) ≡ times q (row_positions id f.row) = ap (λ (x : Delivery). times q (row_positions id x.row)) same in
    let v = fewer_flights p id q fs in
    omega (arith, s, t, u, v)
left_flights p id q f (g ∷ fs) (inr h) e = left_flight id q (times q (row_positions id f.row)) g (filter p fs) fs (p g) (left_flights p id q f fs h e)

kept_length : (f : Delivery) (few fs : List Delivery) (b : Bool) → flight_lengths few ≤ flight_lengths fs → flight_lengths (cond b (f ∷ few) few) ≤ flight_lengths (f ∷ fs)
kept_length f few fs true h = let s = flights_more f few in let t = flights_more f fs in omega (arith, s, t, h)
kept_length f few fs false h = let t = flights_more f fs in omega (arith, t, h)

fewer_lengths : (p : Delivery → Bool) (fs : List Delivery) → flight_lengths (filter p fs) ≤ flight_lengths fs
fewer_lengths p [] = omega arith
fewer_lengths p (f ∷ fs) = kept_length f (filter p fs) fs (p f) (fewer_lengths p fs)

left_length : (n : ℕ) (g : Delivery) (few fs : List Delivery) (b : Bool) → n + flight_lengths few ≤ flight_lengths fs → n + flight_lengths (cond b (g ∷ few) few) ≤ flight_lengths (g ∷ fs)
left_length n g few fs true h = let s = flights_more g few in let t = flights_more g fs in omega (arith, s, t, h)
left_length n g few fs false h = let t = flights_more g fs in omega (arith, t, h)

pub left_lengths : (p : Delivery → Bool) (f : Delivery) (fs : List Delivery) → IsIn f fs → p f ≡ false → length f.row.positions + flight_lengths (filter p fs) ≤ flight_lengths fs
left_lengths p f [] h e = absurd h
left_lengths p f (g ∷ fs) (inl same) e =
    let gone : flight_lengths (filter p (g ∷ fs)) ≡ flight_lengths (filter p fs) = ap (λ b. flight_lengths (cond b (g ∷ filter p fs) (filter p fs))) (ap p same ∙ e) in
    let t = flights_more g fs in
    let u : length g.row.positions ≡ length f.row.positions = ap (λ (x : Delivery). length x.row.positions) same in
    let v = fewer_lengths p fs in
    omega (arith, gone, t, u, v)
left_lengths p f (g ∷ fs) (inr h) e = left_length (length f.row.positions) g (filter p fs) fs (p g) (left_lengths p f fs h e)

-- ---- what outcomes need

need_count : (id : Id) (q p : ℕ) (m : Message) (o : Option Need) (us : List Unsettled) (ps : List ℕ) (b : Bool) → id_eq m.id id ≡ b → times q (unsettled_positions id us) ≤ times q (if b then ps else []) →
    times q (unsettled_positions id (cons_option (option_map (unsettled_row m.id p) o) us)) ≤ times q (if b then p ∷ ps else [])
need_count id q p m None us ps true e h = omega (arith, h)
need_count id q p m None us ps false e h = h
need_count id q p m (Some n) us ps b e h =
    let s = times_append q (if id_eq m.id id then p ∷ [] else []) (unsettled_positions id us) in
    let t : times q (if id_eq m.id id then p ∷ [] else []) ≡ times q (if b then p ∷ [] else []) = ap (λ c. times q (if c then p ∷ [] else [])) e in
    one b (s ∙ ap (λ k. k + times q (unsettled_positions id us)) t) h
  where
    one : (b : Bool) → times q (unsettled_positions id (unsettled_row m.id p n ∷ us)) ≡ times q (if b then p ∷ [] else []) + times q (unsettled_positions id us) → times q (unsettled_positions id us) ≤ times q (if b then ps else []) →
        times q (unsettled_positions id (unsettled_row m.id p n ∷ us)) ≤ times q (if b then p ∷ ps else [])
    one true s h = omega (arith, s, h)
    one false s h = omega (arith, s, h)

none_least : (q : ℕ) (ps : List ℕ) (b : Bool) → 0 ≤ times q (if b then ps else [])
none_least q ps b = omega arith

-- outcomes need no position that the row didn't have
pub needs_count : (w : World) (now : ℕ) (m : Message) (ps : List ℕ) (os : List Outcome) (id : Id) (q : ℕ) (b : Bool) → id_eq m.id id ≡ b → times q (unsettled_positions id (needs_of w now m ps os)) ≤ times q (if b then ps else [])
needs_count w now m [] os id q b e = none_least q [] b
needs_count w now m (p ∷ ps) [] id q b e = none_least q (p ∷ ps) b
needs_count w now m (p ∷ ps) (o ∷ os) id q b e = need_count id q p m (need_of w now m o) (needs_of w now m ps os) ps b e (needs_count w now m ps os id q b e)

need_length : (id : Id) (p n : ℕ) (o : Option Need) (us : List Unsettled) → length us ≤ n → length (cons_option (option_map (unsettled_row id p) o) us) ≤ suc n
need_length id p n None us h = omega (arith, h)
need_length id p n (Some x) us h = omega (arith, h)

pub needs_length : (w : World) (now : ℕ) (m : Message) (ps : List ℕ) (os : List Outcome) → length (needs_of w now m ps os) ≤ length ps
needs_length w now m [] os = omega arith
needs_length w now m (p ∷ ps) [] = omega arith
needs_length w now m (p ∷ ps) (o ∷ os) = need_length m.id p (length ps) (need_of w now m o) (needs_of w now m ps os) (needs_length w now m ps os)

need_owner : (p : ℕ) (m : Message) (o : Option Need) (us : List Unsettled) (u : Unsettled) → (IsIn u us → u.id ≡ m.id) → IsIn u (cons_option (option_map (unsettled_row m.id p) o) us) → u.id ≡ m.id
need_owner p m None us u rest h = rest h
need_owner p m (Some n) us u rest (inl same) = ap (λ (x : Unsettled). x.id) (sym same)
need_owner p m (Some n) us u rest (inr h) = rest h

pub needs_owner : (w : World) (now : ℕ) (m : Message) (ps : List ℕ) (os : List Outcome) (u : Unsettled) → IsIn u (needs_of w now m ps os) → u.id ≡ m.id
needs_owner w now m [] os u h = absurd h
needs_owner w now m (p ∷ ps) [] u h = absurd h
needs_owner w now m (p ∷ ps) (o ∷ os) u h = need_owner p m (need_of w now m o) (needs_of w now m ps os) u (needs_owner w now m ps os u) h

-- the position of an unsettled outcome is in memory
pub unsettled_remembered : (id : Id) (u : Unsettled) (us : List Unsettled) → IsIn u us → u.id ≡ id → IsIn u.position (unsettled_positions id us)
unsettled_remembered id u [] k s = absurd k
unsettled_remembered id u (x ∷ us) (inl k) s =
    in_left u.position (if id_eq x.id id then x.position ∷ [] else []) (unsettled_positions id us)
    (subst (λ b. IsIn u.position (if b then x.position ∷ [] else [])) (sym (id_same x.id id (ap (λ (y : Unsettled). y.id) k ∙ s))) (inl (ap (λ (y : Unsettled). y.position) k)))
unsettled_remembered id u (x ∷ us) (inr k) s = in_right u.position (if id_eq x.id id then x.position ∷ [] else []) (unsettled_positions id us) (unsettled_remembered id u us k s)
