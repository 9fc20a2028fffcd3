-- How rows change with their heads and the lists of their positions.
use Rattle.std.proofs.Common.{◌≡◌, ◌∙◌, ◌∷◌, ◌++◌, ◌+◌, ◌<◌, ◌≤◌, [], ap, arith, get_or, length, List, None, Option, option_map, refl, replicate, set, slice_get, Some, subst, suc, sym, true, zero, ℕ}
use Rattle.std.specs.Option.{is_some, option_map_or}
use Rattle.std.specs.Prelude.{IfSome}
use Rattle.q_model.specs.declared.rows.Row.{Row}
use Rattle.q_positions.specs.declared.head.Head.{Head}
use Rattle.q_positions.specs.Heads.{row_of, rows_of, slot_of, slots_of}
use Rattle.q_positions.specs.Rows.{joined_at, with_position}

pub length_slots : (hs : List (Option Head)) (lists : List (List ℕ)) → length (slots_of hs lists) ≡ length hs
length_slots [] lists = refl
length_slots (h ∷ hs) [] = ap suc (length_slots hs [])
length_slots (h ∷ hs) (xs ∷ lists) = ap suc (length_slots hs lists)

pub none_fresh : (count : ℕ) (lists : List (List ℕ)) → slots_of (replicate count None) lists ≡ replicate count None
none_fresh zero lists = refl
none_fresh (suc count) [] = ap (λ rs. None ∷ rs) (none_fresh count [])
none_fresh (suc count) (xs ∷ lists) = ap (λ rs. None ∷ rs) (none_fresh count lists)

pub at_slot : (k : ℕ) (hs : List (Option Head)) (lists : List (List ℕ)) → get_or (slots_of hs lists) k None ≡ slot_of (get_or hs k None) (get_or lists k [])
at_slot k [] lists = refl
at_slot zero (h ∷ hs) lists = refl
at_slot (suc k) (h ∷ hs) [] = at_slot k hs []
at_slot (suc k) (h ∷ hs) (xs ∷ lists) = at_slot k hs lists

-- a row comes
pub slots_put : (k : ℕ) (h : Option Head) (xs : List ℕ) (hs : List (Option Head)) (lists : List (List ℕ)) → length lists ≡ length hs →
    slots_of (set hs k h) (set lists k xs) ≡ set (slots_of hs lists) k (slot_of h xs)
slots_put k h xs [] lists same = refl
slots_put k h xs (g ∷ hs) [] same = absurd (omega (arith, same))
slots_put zero h xs (g ∷ hs) (ys ∷ lists) same = refl
slots_put (suc k) h xs (g ∷ hs) (ys ∷ lists) same = ap (λ rs. slot_of g ys ∷ rs) (slots_put k h xs hs lists (omega (arith, same)))

-- a row goes, and leaves its positions
pub slots_cleared : (k : ℕ) (hs : List (Option Head)) (lists : List (List ℕ)) → slots_of (set hs k None) lists ≡ set (slots_of hs lists) k None
slots_cleared k [] lists = refl
slots_cleared zero (g ∷ hs) lists = refl
slots_cleared (suc k) (g ∷ hs) [] = ap (λ rs. slot_of g [] ∷ rs) (slots_cleared k hs [])
slots_cleared (suc k) (g ∷ hs) (ys ∷ lists) = ap (λ rs. slot_of g ys ∷ rs) (slots_cleared k hs lists)

pub length_rows : (hs : List Head) (lists : List (List ℕ)) → length (rows_of hs lists) ≡ length hs
length_rows [] lists = refl
length_rows (h ∷ hs) [] = ap suc (length_rows hs [])
length_rows (h ∷ hs) (xs ∷ lists) = ap suc (length_rows hs lists)

pub at_row : (k : ℕ) (hs : List Head) (lists : List (List ℕ)) → slice_get (rows_of hs lists) k ≡ option_map (λ h. row_of h (get_or lists k [])) (slice_get hs k)
at_row k [] lists = refl
at_row zero (h ∷ hs) lists = refl
at_row (suc k) (h ∷ hs) [] = at_row k hs []
at_row (suc k) (h ∷ hs) (xs ∷ lists) = at_row k hs lists

-- a row begins
pub rows_begun : (h : Head) (xs : List ℕ) (hs : List Head) (lists : List (List ℕ)) → length hs < length lists →
    rows_of (hs ++ h ∷ []) (set lists (length hs) xs) ≡ rows_of hs lists ++ row_of h xs ∷ []
rows_begun h xs hs [] room = absurd (omega (arith, room))
rows_begun h xs [] (ys ∷ lists) room = refl
rows_begun h xs (g ∷ hs) (ys ∷ lists) room = ap (λ rs. row_of g ys ∷ rs) (rows_begun h xs hs lists (omega (arith, room)))

joined_step : (k p : ℕ) (x : Row) (rs : List Row) (o : Option Row) → x ∷ option_map_or (λ (r : Row). set rs k (with_position p r)) o rs ≡ option_map_or (λ (r : Row). x ∷ set rs k (with_position p r)) o (x ∷ rs)
joined_step k p x rs None = refl
joined_step k p x rs (Some r) = refl

-- a position joins a row
pub rows_joined : (k p : ℕ) (hs : List Head) (lists : List (List ℕ)) → k < length hs → length hs ≤ length lists →
    rows_of hs (set lists k (get_or lists k [] ++ p ∷ [])) ≡ joined_at k p (rows_of hs lists)
rows_joined k p [] lists known few = absurd (omega (arith, known))
rows_joined k p (h ∷ hs) [] known few = absurd (omega (arith, few))
rows_joined zero p (h ∷ hs) (ys ∷ lists) known few = refl
rows_joined (suc k) p (h ∷ hs) (ys ∷ lists) known few =
    ap (λ rs. row_of h ys ∷ rs) (rows_joined k p hs lists (omega (arith, known)) (omega (arith, few)))
    ∙ joined_step k p (row_of h ys) (rows_of hs lists) (slice_get (rows_of hs lists) k)

pub below_found : {X : Type 0} (k : ℕ) (xs : List X) (x : X) → slice_get xs k ≡ Some x → k < length xs
below_found k [] x h = cc
below_found zero (y ∷ ys) x h = omega arith
below_found (suc k) (y ∷ ys) x h = let more = below_found k ys x h in omega (arith, more)

-- a row that is there has its positions
room_in : (most : ℕ) (h : Option Head) (xs : List ℕ) → is_some h ≡ true → IfSome (option_map (λ h. row_of h xs) h) (λ r. length r.positions < most) → length xs < most
room_in most None xs there room = cc
room_in most (Some h) xs there room = room

there_at : (k : ℕ) (hs : List Head) → k < length hs → is_some (slice_get hs k) ≡ true
there_at k [] known = absurd (omega (arith, known))
there_at zero (h ∷ hs) known = refl
there_at (suc k) (h ∷ hs) known = there_at k hs (omega (arith, known))

pub has_room : (k most : ℕ) (hs : List Head) (lists : List (List ℕ)) → k < length hs → IfSome (slice_get (rows_of hs lists) k) (λ r. length r.positions < most) → length (get_or lists k []) < most
has_room k most hs lists known room =
    room_in most (slice_get hs k) (get_or lists k []) (there_at k hs known) (subst (λ (o : Option Row). IfSome o (λ r. length r.positions < most)) (at_row k hs lists) room)
