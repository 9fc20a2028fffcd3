-- Where a cut goes through tickets and through blocks.
use Rattle.std.proofs.Common.{◌≡◌, ◌≤◌, ◌<◌, ◌++◌, ◌||◌, ap, arith, Bool, false, get_or, inl, inr, length, List, [], ◌∷◌, refl, suc, sym, true, zero, ℕ, ◌∙◌, subst}
use Rattle.std.proofs.lemmas.Bool.{cases_eq, false_from_ne_true, not-false, not-true, not_from_false}
use Rattle.std.proofs.lemmas.List.Sums.{position_or_len_is}
use Rattle.std.proofs.Math.Bool.{or-false}
use Rattle.std.specs.List.{list_any, position_or_len}
use Rattle.std.specs.List.Sorted.{IsPartitionedBy, IsPartitionPoint}
use Rattle.std.specs.Prelude.{not}
use Rattle.q_sorted.specs.declared.ticket.Cut.{Cut}
use Rattle.q_sorted.specs.declared.ticket.Ticket.{Ticket}
use Rattle.q_sorted.specs.Blocks.{AreFilled, ends_past, is_past, joined, least}
use Rattle.q_sorted.specs.Tickets.{goes_before, Rises}
use Rattle.q_sorted.proofs.Order.{past_along}
use Rattle.q_sorted.proofs.Rising.{AreBehind, rises_around, rises_at, rises_first, rises_right}

pub nothing : Ticket
nothing = record { group = 0; key = 0; item = 0 }

-- what goes before a ticket that isn't past the cut isn't either
pub fails_before : (c : Cut) (x y : Ticket) → goes_before x y ≡ true → is_past c y ≡ false → is_past c x ≡ false
fails_before c x y h k = false_from_ne_true (is_past c x) (λ p. let q = past_along c x y h p in absurd cc)

-- the place where a test turns, of tickets or of blocks
pub turns_at : {X : Type 0} (p : X → Bool) (xs : List X) (i : ℕ) (d : X) → i ≤ length xs → IsPartitionPoint (λ y. not (p y) ≡ true) (λ y. not (p y) ≡ false) xs i → position_or_len p xs ≡ i
turns_at p xs i d bound point =
    position_or_len_is p xs i d bound (λ k h. not-true (p (get_or xs k d)) (point.0 k d (omega arith) h)) (λ h. not-false (p (get_or xs i d)) (point.1 i d (omega arith) h))

-- a test that fails before each place where it fails
pub turns : {X : Type 0} (p : X → Bool) (xs : List X) → ((i j : ℕ) (d : X) → i < j → j < length xs → p (get_or xs j d) ≡ false → p (get_or xs i d) ≡ false) → IsPartitionedBy (λ y. not (p y)) xs
turns p xs down = λ i j d h k q. elim (cases_eq i j) [
  | inl same ↦ subst (λ (n : ℕ). not (p (get_or xs n d)) ≡ true) (sym same) q
  | inr differ ↦ not_from_false (p (get_or xs i d)) (down i j d (omega (arith, h, differ)) k (not-true (p (get_or xs j d)) q))
]

pub tickets_turn : (c : Cut) (xs : List Ticket) → Rises xs → IsPartitionedBy (λ y. not (is_past c y)) xs
tickets_turn c xs rising = turns (is_past c) xs (λ i j d h k q. fails_before c (get_or xs i d) (get_or xs j d) (rises_at xs i j d rising h k) q)

-- Blocks: the last ticket tells of all.
fails_ahead : (c : Cut) (x : Ticket) (ys : List Ticket) → 1 ≤ length ys → ends_past c ys ≡ false → AreBehind x ys → is_past c x ≡ false
fails_ahead c x [] h k b = absurd (omega (arith, h))
fails_ahead c x (y ∷ []) h k b = fails_before c x y b.0 k
fails_ahead c x (y ∷ z ∷ zs) h k b = fails_ahead c x (z ∷ zs) (omega arith) k b.1

ends_ahead : (c : Cut) (xs ys : List Ticket) → 1 ≤ length ys → ends_past c ys ≡ false → Rises (xs ++ ys) → ends_past c xs ≡ false
ends_ahead c [] ys h k r = refl
ends_ahead c (x ∷ []) ys h k r = fails_ahead c x ys h k r.0
ends_ahead c (x ∷ z ∷ zs) ys h k r = ends_ahead c (z ∷ zs) ys h k r.1

ends_first : (c : Cut) (xs : List Ticket) (lists : List (List Ticket)) (j : ℕ) (d : List Ticket) → Rises (xs ++ joined lists) → AreFilled least lists → j < length lists → ends_past c (get_or lists j d) ≡ false → ends_past c xs ≡ false
ends_first c xs [] j d r f h k = absurd (omega (arith, h))
ends_first c xs (ys ∷ lists) zero d r f h k = ends_ahead c xs ys (omega (arith, f.0)) k (rises_first xs ys (joined lists) r)
ends_first c xs (ys ∷ lists) (suc j) d r f h k = ends_first c xs lists j d (rises_around xs ys (joined lists) r) f.2 (omega (arith, h)) k

ends_down : (low : ℕ) (c : Cut) (lists : List (List Ticket)) (i j : ℕ) (d : List Ticket) → Rises (joined lists) → AreFilled low lists → i < j → j < length lists → ends_past c (get_or lists j d) ≡ false → ends_past c (get_or lists i d) ≡ false
ends_down low c [] i j d r f h k q = absurd (omega (arith, k))
ends_down low c (xs ∷ lists) i zero d r f h k q = absurd (omega (arith, h))
ends_down low c (xs ∷ lists) zero (suc j) d r f h k q = ends_first c xs lists j d r f.2 (omega (arith, k)) q
ends_down low c (xs ∷ lists) (suc i) (suc j) d r f h k q = ends_down least c lists i j d (rises_right xs (joined lists) r) f.2 (omega (arith, h)) (omega (arith, k)) q

pub blocks_turn : (low : ℕ) (c : Cut) (lists : List (List Ticket)) → Rises (joined lists) → AreFilled low lists → IsPartitionedBy (λ y. not (ends_past c y)) lists
blocks_turn low c lists rising filled = turns (ends_past c) lists (λ i j d h k q. ends_down low c lists i j d rising filled h k q)

any_step : (t u : Bool) → (u ≡ false → t ≡ false) → (t || u) ≡ u
any_step true true h = refl
any_step true false h = h refl
any_step false u h = refl

-- a ticket is past the cut where the last one is
pub any_ends : (c : Cut) (xs : List Ticket) → Rises xs → list_any (is_past c) xs ≡ ends_past c xs
any_ends c [] r = refl
any_ends c (x ∷ []) r = or-false (is_past c x)
any_ends c (x ∷ y ∷ ys) r =
    ap (λ (t : Bool). is_past c x || t) (any_ends c (y ∷ ys) r.1) ∙ any_step (is_past c x) (ends_past c (y ∷ ys)) (λ k. fails_ahead c x (y ∷ ys) (omega arith) k r.0)
