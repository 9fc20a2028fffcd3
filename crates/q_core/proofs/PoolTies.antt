-- The messages in memory as a pool keeps them, and as the core's state has them.
use Rattle.std.proofs.Common.{◌≡◌, ◌∙◌, ◌+◌, ap, arith, Bool, cond, false, List, [], ◌∷◌, ◌++◌, map, None, Option, option_map, refl, Some, sym, true, ℕ}
use Rattle.std.proofs.lemmas.Grind.{common_steps}
use Rattle.std.specs.List.{list_any}
use Rattle.std.specs.Option.{option_map_or}
use Rattle.std.specs.Prelude.{◌&&◌, ◌||◌, ◌==◌, ◌-◌, count_by, filter, find, min, nat_le, nat_lt, not}
use Rattle.q_core.specs.Changes.{slots_without}
use Rattle.q_core.specs.Counting.{recounted}
use Rattle.q_core.specs.Held.{free_in, has_rows_in, is_damaged_in, has_waiting_in, is_admitted_in, is_idle_in, may_read_in, slot_in, unread_in, wants_sync_in}
use Rattle.q_core.specs.KeptRows.{has_rows}
use Rattle.q_core.specs.Ties.{AreCounted, kept_of}
use Rattle.q_core.specs.declared.state.Core.{Core}
use Rattle.q_core.proofs.ListLaws.{find-any, find-map}
use Rattle.q_core.proofs.NameLaws.{id_eq-same, id_eq-true}
use Rattle.q_model.specs.declared.id.Id.{Id}
use Rattle.q_model.specs.declared.rows.Delivery.{Delivery}
use Rattle.q_model.specs.declared.rows.Row.{Row}
use Rattle.q_model.specs.declared.rows.Unsettled.{Unsettled}
use Rattle.q_model.specs.Ids.{id_eq}
use Rattle.q_pool.specs.Kept.{counted_at, heads, is_idle, is_of, kept_at, may_read, unread_of, wants_sync}
use Rattle.q_pool.specs.Pooled.{AreApart}
use Rattle.q_pool.specs.Slots.{changed_at}
use Rattle.q_pool.specs.declared.kept.Kept.{Kept}
use Rattle.q_pool.specs.declared.slot.Slot.{Slot}

-- slots of messages

pub heads_kept : (id : Id) (f : Slot → Slot) (ks : List Kept) → heads (map (kept_at id f) ks) ≡ map (changed_at id f) (heads ks)
heads_kept id f [] = refl
heads_kept id f (k ∷ ks) = ap (λ (ss : List Slot). changed_at id f k.slot ∷ ss) (heads_kept id f ks)

left_step : (b : Bool) (k : Kept) (ks : List Kept) → heads (cond b (k ∷ ks) ks) ≡ cond b (k.slot ∷ heads ks) (heads ks)
left_step true k ks = refl
left_step false k ks = refl

pub heads_left : (id : Id) (ks : List Kept) → heads (filter (λ k. not (is_of id k)) ks) ≡ slots_without id (heads ks)
heads_left id [] = refl
heads_left id (k ∷ ks) = left_step (not (is_of id k)) k (filter (λ k. not (is_of id k)) ks) ∙ ap (λ (ss : List Slot). cond (not (is_of id k)) (k.slot ∷ ss) ss) (heads_left id ks)

counted_step : (b : Bool) (k : Kept) (w f u : ℕ) → (cond b (record k { waiting = w; flying = f; unsettled = u }) k).slot ≡ k.slot
counted_step true k w f u = refl
counted_step false k w f u = refl

pub heads_counted : (id : Id) (w f u : ℕ) (ks : List Kept) → heads (map (counted_at id w f u) ks) ≡ heads ks
heads_counted id w f u [] = refl
heads_counted id w f u (k ∷ ks) = ap (λ s. s ∷ heads (map (counted_at id w f u) ks)) (counted_step (is_of id k) k w f u) ∙ ap (λ (ss : List Slot). k.slot ∷ ss) (heads_counted id w f u ks)

recounted_step : (g : Kept → Kept) (id : Id) (ks : List Kept) (o : Option Kept) → heads (option_map_or (λ k. map (counted_at id (g k).waiting (g k).flying (g k).unsettled) ks) o ks) ≡ heads ks
recounted_step g id ks None = refl
recounted_step g id ks (Some k) = heads_counted id (g k).waiting (g k).flying (g k).unsettled ks

pub heads_recounted : (g : Kept → Kept) (id : Id) (ks : List Kept) → heads (recounted g id ks) ≡ heads ks
heads_recounted g id ks = recounted_step g id ks (find (is_of id) ks)

pub heads_more : (ks : List Kept) (k : Kept) → heads (ks ++ k ∷ []) ≡ heads ks ++ k.slot ∷ []
heads_more [] k = refl
heads_more (x ∷ xs) k = ap (λ (ss : List Slot). x.slot ∷ ss) (heads_more xs k)

-- the slot of an id
pub slot_found : (id : Id) (ks : List Kept) → option_map (λ k. k.slot) (find (is_of id) ks) ≡ find (λ s. id_eq s.id id) (heads ks)
slot_found id ks = sym (find-map (λ s. id_eq s.id id) (λ k. k.slot) ks)

-- counts

any_step : (b : Bool) (n : ℕ) (rest : Bool) → rest ≡ not (n == 0) → (b || rest) ≡ not (cond b 1 0 + n == 0)
any_step true n rest h = grind arith
any_step false n rest h = let e : n ≡ 0 + n = omega arith in h ∙ ap (λ (m : ℕ). not (m == 0)) e

counted_first : {X : Type 0} (p : X → Bool) (x : X) (xs : List X) → count_by p (x ∷ xs) ≡ cond (p x) 1 0 + count_by p xs
counted_first p x xs = grind (arith, common_steps)

pub any_count : {X : Type 0} (p : X → Bool) (xs : List X) → list_any p xs ≡ not (count_by p xs == 0)
any_count p [] = refl
any_count p (x ∷ xs) = any_step (p x) (count_by p xs) (list_any p xs) (any_count p xs) ∙ ap (λ n. not (n == 0)) (sym (counted_first p x xs))

-- what stands apart is found

abbrev pub AreFound : List Kept → List Kept → Type 0
AreFound all [] = Unit {0}
AreFound all (k ∷ ks) = (find (is_of k.slot.id) all ≡ Some k) × AreFound all ks

other_way : (a b : Id) → id_eq a b ≡ false → (t : Bool) → id_eq b a ≡ t → t ≡ false
other_way a b h false t = refl
other_way a b h true t = let same : b ≡ a = id_eq-true b a t in let bad : true ≡ false = sym (id_eq-same a) ∙ ap (id_eq a) (sym same) ∙ h in cc

none_parts : (b : Bool) (k : Kept) (o : Option Kept) → cond b (Some k) o ≡ None → (b ≡ false) × (o ≡ None)
none_parts true k o h = cc
none_parts false k o h = (refl, h)

later : (k : Kept) (all ks : List Kept) → find (is_of k.slot.id) ks ≡ None → AreFound all ks → AreFound (k ∷ all) ks
later k all [] none h = tt
later k all (j ∷ js) none h =
    let parts = none_parts (is_of k.slot.id j) j (find (is_of k.slot.id) js) none in
    (ap (λ b. cond b (Some k) (find (is_of j.slot.id) all)) (other_way j.slot.id k.slot.id parts.0 (id_eq k.slot.id j.slot.id) refl) ∙ h.0, later k all js parts.1 h.1)

pub apart_found : (ks : List Kept) → AreApart ks → AreFound ks ks
apart_found [] h = tt
apart_found (k ∷ ks) h = (ap (λ b. cond b (Some k) (find (is_of k.slot.id) ks)) (id_eq-same k.slot.id), later k ks ks h.0 (apart_found ks h.1))

find_step : (b c : Bool) (k : Kept) (o o' : Option Kept) → b ≡ c → o ≡ o' → cond b (Some k) o ≡ cond c (Some k) o'
find_step true true k o o' h e = refl
find_step false false k o o' h e = e
find_step true false k o o' h e = cc
find_step false true k o o' h e = cc

-- tests that answer alike of what is found
pub find_alike : (p q : Kept → Bool) (all ks : List Kept) → ((k : Kept) → find (is_of k.slot.id) all ≡ Some k → p k ≡ q k) → AreFound all ks → find p ks ≡ find q ks
find_alike p q all [] h found = refl
find_alike p q all (k ∷ ks) h found = find_step (p k) (q k) k (find p ks) (find q ks) (h k found.0) (find_alike p q all ks h found.1)

-- the parts of a core, and the counts of its messages
pub record IsHeld (c : Core) (ks : List Kept) : Type 0 where
  pub admitted : c.admitted ≡ heads ks
  pub apart : AreApart ks
  pub waiting : AreCounted (λ k. k.waiting) (λ (r : Row). r.id) ks c.waiting
  pub flights : AreCounted (λ k. k.flying) (λ (f : Delivery). f.row.id) ks c.flights
  pub unsettled : AreCounted (λ k. k.unsettled) (λ (u : Unsettled). u.id) ks c.unsettled

pub slot_held : (c : Core) (ks : List Kept) → c.admitted ≡ heads ks → (id : Id) → slot_in c id ≡ option_map (λ k. k.slot) (find (is_of id) ks)
slot_held c ks h id = ap (find (λ s. id_eq s.id id)) h ∙ sym (slot_found id ks)

found_any : {X : Type 0} (p : X → Bool) (x : X) (o : Option X) (rest b : Bool) → rest ≡ option_map_or (λ y. true) o false → (b || rest) ≡ option_map_or (λ y. true) (cond b (Some x) o) false
found_any p x o rest true h = refl
found_any p x o rest false h = h

pub any_found : {X : Type 0} (p : X → Bool) (xs : List X) → list_any p xs ≡ option_map_or (λ x. true) (find p xs) false
any_found p [] = refl
any_found p (x ∷ xs) = found_any p x (find p xs) (list_any p xs) (p x) (any_found p xs)

-- whether rows of a message are left
abbrev pub rows_left : Option Kept → Bool
rows_left o = option_map_or has_rows o false

no_zero : (o : Option Kept) → (not (option_map_or (λ k. k.waiting) o 0 == 0) || not (option_map_or (λ k. k.flying) o 0 == 0) || not (option_map_or (λ k. k.unsettled) o 0 == 0)) ≡ rows_left o
no_zero None = refl
no_zero (Some k) = refl

pub rows_held : (c : Core) (ks : List Kept) → AreCounted (λ k. k.waiting) (λ (r : Row). r.id) ks c.waiting → AreCounted (λ k. k.flying) (λ (f : Delivery). f.row.id) ks c.flights → AreCounted (λ k. k.unsettled) (λ (u : Unsettled). u.id) ks c.unsettled →
    (id : Id) → has_rows_in c id ≡ rows_left (find (is_of id) ks)
rows_held c ks w f u id =
    ap (λ b. b || list_any (λ (f : Delivery). id_eq f.row.id id) c.flights || list_any (λ (u : Unsettled). id_eq u.id id) c.unsettled) (any_count (λ (r : Row). id_eq r.id id) c.waiting ∙ ap (λ n. not (n == 0)) (sym (w id)))
    ∙ ap (λ b. not (kept_of (λ k. k.waiting) ks id == 0) || b || list_any (λ (u : Unsettled). id_eq u.id id) c.unsettled) (any_count (λ (f : Delivery). id_eq f.row.id id) c.flights ∙ ap (λ n. not (n == 0)) (sym (f id)))
    ∙ ap (λ b. not (kept_of (λ k. k.waiting) ks id == 0) || not (kept_of (λ k. k.flying) ks id == 0) || b) (any_count (λ (u : Unsettled). id_eq u.id id) c.unsettled ∙ ap (λ n. not (n == 0)) (sym (u id)))
    ∙ no_zero (find (is_of id) ks)

idle_bools : (a w f u : Bool) → (true && a && not (not w || not f || not u)) ≡ (a && w && f && u)
idle_bools true true true true = refl
idle_bools true true true false = refl
idle_bools true true false u = refl
idle_bools true false f u = refl
idle_bools false w f u = refl

pub idle_held : (c : Core) (ks : List Kept) → IsHeld c ks → (k : Kept) → find (is_of k.slot.id) ks ≡ Some k → is_idle_in c k.slot.id ≡ is_idle k
idle_held c ks h k found =
    let id = k.slot.id in
    let slot : slot_in c id ≡ Some k.slot = slot_held c ks h.admitted id ∙ ap (option_map (λ k. k.slot)) found in
    ap (λ b. b && (unread_in c id == 0) && not (has_rows_in c id)) (any_found (λ s. id_eq s.id id) c.admitted ∙ ap (λ o. option_map_or (λ x. true) o false) slot)
    ∙ ap (λ (o : Option Slot). true && (option_map_or (λ s. s.recipients - s.unread) o 0 == 0) && not (has_rows_in c id)) slot
    ∙ ap (λ b. true && (unread_of k.slot == 0) && not b) (rows_held c ks h.waiting h.flights h.unsettled id ∙ ap rows_left found)
    ∙ idle_bools (unread_of k.slot == 0) (k.waiting == 0) (k.flying == 0) (k.unsettled == 0)

-- the first idle message
pub first_idle_held : (c : Core) (ks : List Kept) → IsHeld c ks → find (λ s. is_idle_in c s.id) c.admitted ≡ option_map (λ k. k.slot) (find is_idle ks)
first_idle_held c ks h =
    ap (find (λ s. is_idle_in c s.id)) h.admitted ∙ find-map (λ s. is_idle_in c s.id) (λ k. k.slot) ks
    ∙ ap (option_map (λ k. k.slot)) (find_alike (λ k. is_idle_in c k.slot.id) is_idle ks ks (idle_held c ks h) (apart_found ks h.apart))

-- the first to sync
pub first_sync_held : (c : Core) (ks : List Kept) → IsHeld c ks → find (wants_sync_in c) c.admitted ≡ option_map (λ k. k.slot) (find (wants_sync c.params.mark_sync_limit) ks)
first_sync_held c ks h =
    ap (find (wants_sync_in c)) h.admitted ∙ find-map (wants_sync_in c) (λ k. k.slot) ks
    ∙ ap (option_map (λ k. k.slot)) (find_alike (λ k. wants_sync_in c k.slot) (wants_sync c.params.mark_sync_limit) ks ks
    (λ k found. ap (λ b. nat_le c.params.mark_sync_limit k.slot.marks || (nat_lt 0 k.slot.marks && b)) (idle_held c ks h k found)) (apart_found ks h.apart))

not_not : (b : Bool) → not (not b) ≡ b
not_not true = refl
not_not false = refl

waits_held : (c : Core) (ks : List Kept) → IsHeld c ks → (k : Kept) → find (is_of k.slot.id) ks ≡ Some k → not (has_waiting_in c k.slot.id) ≡ (k.waiting == 0)
waits_held c ks h k found =
    ap not (any_count (λ (r : Row). id_eq r.id k.slot.id) c.waiting ∙ ap (λ n. not (n == 0)) (sym (h.waiting k.slot.id) ∙ ap (λ o. option_map_or (λ k. k.waiting) o 0) found))
    ∙ not_not (k.waiting == 0)

-- the first that may read
pub first_read_held : (c : Core) (ks : List Kept) → IsHeld c ks → find (may_read_in c) c.admitted ≡ option_map (λ k. k.slot) (find (may_read c.params.recipient_minimum (free_in c)) ks)
first_read_held c ks h =
    ap (find (may_read_in c)) h.admitted ∙ find-map (may_read_in c) (λ k. k.slot) ks
    ∙ ap (option_map (λ k. k.slot)) (find_alike (λ k. may_read_in c k.slot) (may_read c.params.recipient_minimum (free_in c)) ks ks
    (λ k found. ap (λ b. nat_lt 0 (unread_of k.slot) && b && nat_le (min c.params.recipient_minimum (unread_of k.slot)) (free_in c)) (waits_held c ks h k found)) (apart_found ks h.apart))

not_false : (b : Bool) → not b ≡ false → b ≡ true
not_false true h = refl
not_false false h = sym h

is_zero : (n : ℕ) → (n == 0) ≡ true → n ≡ 0
is_zero n h = grind (arith, common_steps)

three_false : (a b c : Bool) → (a || b || c) ≡ false → (a ≡ false) × (b ≡ false) × (c ≡ false)
three_false false b c h = two b c h
  where
    two : (b c : Bool) → (b || c) ≡ false → (false ≡ false) × (b ≡ false) × (c ≡ false)
    two false c h = (refl, refl, h)
    two true c h = cc
three_false true b c h = cc

none_counted : {X : Type 0} (p : X → Bool) (xs : List X) → list_any p xs ≡ false → count_by p xs ≡ 0
none_counted p xs h = is_zero (count_by p xs) (not_false (count_by p xs == 0) (sym (any_count p xs) ∙ h))

-- of a message without rows none is kept
pub no_rows_kept : (c : Core) (ks : List Kept) (id : Id) → has_rows_in c id ≡ false → AreCounted (λ k. k.waiting) (λ (r : Row). r.id) ks c.waiting → AreCounted (λ k. k.flying) (λ (f : Delivery). f.row.id) ks c.flights →
    AreCounted (λ k. k.unsettled) (λ (u : Unsettled). u.id) ks c.unsettled → (kept_of (λ k. k.waiting) ks id ≡ 0) × (kept_of (λ k. k.flying) ks id ≡ 0) × (kept_of (λ k. k.unsettled) ks id ≡ 0)
no_rows_kept c ks id none w f u =
    let parts = three_false (list_any (λ (r : Row). id_eq r.id id) c.waiting) (list_any (λ (f : Delivery). id_eq f.row.id id) c.flights) (list_any (λ (u : Unsettled). id_eq u.id id) c.unsettled) none in (
      w id ∙ none_counted (λ (r : Row). id_eq r.id id) c.waiting parts.0,
      f id ∙ none_counted (λ (f : Delivery). id_eq f.row.id id) c.flights parts.1,
      u id ∙ none_counted (λ (u : Unsettled). id_eq u.id id) c.unsettled parts.2,
    )

-- a message isn't there where its slot isn't
absent_step : (o : Option Kept) → option_map_or (λ x. true) (option_map (λ k. k.slot) o) false ≡ false → o ≡ None
absent_step None h = refl
absent_step (Some k) h = cc

pub absent_held : (c : Core) (ks : List Kept) → c.admitted ≡ heads ks → (id : Id) → is_admitted_in c id ≡ false → find (is_of id) ks ≡ None
absent_held c ks h id none = absent_step (find (is_of id) ks) (ap (λ o. option_map_or (λ x. true) o false) (sym (slot_held c ks h id)) ∙ sym (any_found (λ s. id_eq s.id id) c.admitted) ∙ none)

present_step : (o : Option Kept) → option_map_or (λ x. true) (option_map (λ k. k.slot) o) false ≡ true → (k : Kept) × (o ≡ Some k)
present_step None h = absurd cc
present_step (Some k) h = (k, refl)

pub present_held : (c : Core) (ks : List Kept) → c.admitted ≡ heads ks → (id : Id) → is_admitted_in c id ≡ true → (k : Kept) × (find (is_of id) ks ≡ Some k)
present_held c ks h id there = present_step (find (is_of id) ks) (ap (λ o. option_map_or (λ x. true) o false) (sym (slot_held c ks h id)) ∙ sym (any_found (λ s. id_eq s.id id) c.admitted) ∙ there)

-- whether a record can't be read

none_damaged : (id : Id) (ks : List Kept) → find (is_of id) ks ≡ None → list_any (λ s. id_eq s.id id && s.damaged) (heads ks) ≡ false
none_damaged id [] h = refl
none_damaged id (k ∷ ks) h =
    let parts = none_parts (is_of id k) k (find (is_of id) ks) h in
    ap (λ b. (b && k.slot.damaged) || list_any (λ s. id_eq s.id id && s.damaged) (heads ks)) parts.0 ∙ none_damaged id ks parts.1

damaged_step : (id : Id) (k : Kept) (ks : List Kept) → AreApart (k ∷ ks) → list_any (λ s. id_eq s.id id && s.damaged) (heads ks) ≡ option_map_or (λ s. s.damaged) (find (λ s. id_eq s.id id) (heads ks)) false → (b : Bool) → id_eq k.slot.id id ≡ b →
    ((b && k.slot.damaged) || list_any (λ s. id_eq s.id id && s.damaged) (heads ks)) ≡ option_map_or (λ s. s.damaged) (cond b (Some k.slot) (find (λ s. id_eq s.id id) (heads ks))) false
damaged_step id k ks apart h true t =
    let same : k.slot.id ≡ id = id_eq-true k.slot.id id t in
    ap (λ b. k.slot.damaged || b) (none_damaged id ks (ap (λ i. find (is_of i) ks) (sym same) ∙ apart.0)) ∙ or_false k.slot.damaged
  where
    or_false : (b : Bool) → (b || false) ≡ b
    or_false true = refl
    or_false false = refl
damaged_step id k ks apart h false t = h

damaged_heads : (id : Id) (ks : List Kept) → AreApart ks → list_any (λ s. id_eq s.id id && s.damaged) (heads ks) ≡ option_map_or (λ s. s.damaged) (find (λ s. id_eq s.id id) (heads ks)) false
damaged_heads id [] apart = refl
damaged_heads id (k ∷ ks) apart = damaged_step id k ks apart (damaged_heads id ks apart.1) (id_eq k.slot.id id) refl

pub damaged_held : (c : Core) (ks : List Kept) → c.admitted ≡ heads ks → AreApart ks → (id : Id) → is_damaged_in c id ≡ option_map_or (λ s. s.damaged) (slot_in c id) false
damaged_held c ks h apart id =
    ap (list_any (λ s. id_eq s.id id && s.damaged)) h ∙ damaged_heads id ks apart ∙ ap (λ ss. option_map_or (λ s. s.damaged) (find (λ s. id_eq s.id id) ss) false) (sym h)

there_step : (g : Kept → ℕ) (o : Option Kept) → not (option_map_or g o 0 == 0) ≡ true → (k : Kept) × (o ≡ Some k)
there_step g None h = absurd cc
there_step g (Some k) h = (k, refl)

-- a message of which something is there is in memory
pub some_there : {X : Type 0} (g : Kept → ℕ) (name : X → Id) (ks : List Kept) (xs : List X) (p : X → Bool) (x : X) → AreCounted g name ks xs → find p xs ≡ Some x → (k : Kept) × (find (is_of (name x)) ks ≡ Some k)
some_there g name ks xs p x tie found =
    there_step g (find (is_of (name x)) ks)
    (ap (λ n. not (n == 0)) (tie (name x)) ∙ sym (any_count (λ y. id_eq (name y) (name x)) xs) ∙ find-any p (λ y. id_eq (name y) (name x)) xs x found (id_eq-same (name x)))

-- messages at places, from the end
