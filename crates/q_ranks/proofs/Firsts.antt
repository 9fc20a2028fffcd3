-- What callers conclude of ranks that rise along an order.
use Rattle.std.proofs.Common.{◌≡◌, ◌∙◌, ◌||◌, ◌<◌, ◌≤◌, ◌∷◌, ◌++◌, [], ap, arith, Bool, cond, false, get_or, inl, inr, List, refl, Some, sym, true, ℕ}
use Rattle.std.proofs.lemmas.Bool.{eq-eqb}
use Rattle.std.specs.Prelude.{find, nat_eq}
use Rattle.q_chains.specs.Lists.{is_in}
use Rattle.q_chains.proofs.Places.{among_from, IsAmong}
use Rattle.q_ranks.specs.Ranking.{RiseAbove, Rises}

in_behind : (t u : Bool) → u ≡ true → (t || u) ≡ true
in_behind true u h = refl
in_behind false u h = h

in_from : (n : ℕ) (ns : List ℕ) → IsAmong n ns → is_in n ns ≡ true
in_from n [] i = absurd i
in_from n (m ∷ ns) (inl e) = ap (λ t. t || is_in n ns) (eq-eqb n m e)
in_from n (m ∷ ns) (inr i) = in_behind (nat_eq n m) (is_in n ns) (in_from n ns i)

same_rank : (ranks : List ℕ) (a b : ℕ) → a ≡ b → get_or ranks a 0 ≡ get_or ranks b 0
same_rank ranks a b e = ap (λ m. get_or ranks m 0) e

above : (low b : ℕ) (ranks ns : List ℕ) → RiseAbove low ranks ns → IsAmong b ns → low < get_or ranks b 0
above low b ranks [] rise i = absurd i
above low b ranks (n ∷ ns) rise (inl e) = omega (arith, rise.0, same_rank ranks b n e)
above low b ranks (n ∷ ns) rise (inr i) = omega (arith, rise.0, above (get_or ranks n 0) b ranks ns rise.1 i)

rise_behind : (low a : ℕ) (ranks ahead ns : List ℕ) → RiseAbove low ranks (ahead ++ a ∷ ns) → RiseAbove (get_or ranks a 0) ranks ns
rise_behind low a ranks [] ns rise = rise.1
rise_behind low a ranks (n ∷ ahead) ns rise = rise_behind (get_or ranks n 0) a ranks ahead ns rise.1

-- of two numbers the one that stands first has the lower rank
pub rank_lower : (ranks ahead : List ℕ) (a : ℕ) (ns : List ℕ) (b : ℕ) → Rises ranks (ahead ++ a ∷ ns) → is_in b ns ≡ true → get_or ranks a 0 < get_or ranks b 0
rank_lower ranks ahead a ns b rise h = above (get_or ranks a 0) b ranks ns (rise_behind 0 a ranks ahead ns rise) (among_from b ns h)

-- the first number stands somewhere before the second
pub record StandsAhead (a b : ℕ) (order : List ℕ) : Type 0 where
  pub ahead : List ℕ
  pub behind : List ℕ
  pub is : order ≡ ahead ++ a ∷ behind
  pub later : is_in b behind ≡ true

more_ahead : (a b n : ℕ) (ns : List ℕ) → StandsAhead a b ns → StandsAhead a b (n ∷ ns)
more_ahead a b n ns s = record { ahead = n ∷ s.ahead; behind = s.behind; is = ap (λ ms. n ∷ ms) s.is; later = s.later }

by_rank : (low a b : ℕ) (ranks ns : List ℕ) → RiseAbove low ranks ns → IsAmong a ns → IsAmong b ns → get_or ranks a 0 < get_or ranks b 0 → StandsAhead a b ns
by_rank low a b ranks [] rise i j h = absurd i
by_rank low a b ranks (n ∷ ns) rise (inl e) (inl f) h = absurd (omega (arith, h, same_rank ranks a n e, same_rank ranks b n f))
by_rank low a b ranks (n ∷ ns) rise (inl e) (inr j) h = record { ahead = []; behind = ns; is = ap (λ m. m ∷ ns) (sym e); later = in_from b ns j }
by_rank low a b ranks (n ∷ ns) rise (inr i) (inl f) h = absurd (omega (arith, h, above (get_or ranks n 0) a ranks ns rise.1 i, same_rank ranks b n f))
by_rank low a b ranks (n ∷ ns) rise (inr i) (inr j) h = more_ahead a b n ns (by_rank (get_or ranks n 0) a b ranks ns rise.1 i j h)

-- and the other way round: the one with the lower rank stands first
pub ahead_by_rank : (a b : ℕ) (ranks order : List ℕ) → Rises ranks order → is_in a order ≡ true → is_in b order ≡ true → get_or ranks a 0 < get_or ranks b 0 → StandsAhead a b order
ahead_by_rank a b ranks order rise i j h = by_rank 0 a b ranks order rise (among_from a order i) (among_from b order j) h

one_rank : (low a b : ℕ) (ranks ns : List ℕ) → RiseAbove low ranks ns → IsAmong a ns → IsAmong b ns → get_or ranks a 0 ≡ get_or ranks b 0 → a ≡ b
one_rank low a b ranks [] rise i j h = absurd i
one_rank low a b ranks (n ∷ ns) rise (inl e) (inl f) h = e ∙ sym f
one_rank low a b ranks (n ∷ ns) rise (inl e) (inr j) h = absurd (omega (arith, h, above (get_or ranks n 0) b ranks ns rise.1 j, same_rank ranks a n e))
one_rank low a b ranks (n ∷ ns) rise (inr i) (inl f) h = absurd (omega (arith, h, above (get_or ranks n 0) a ranks ns rise.1 i, same_rank ranks b n f))
one_rank low a b ranks (n ∷ ns) rise (inr i) (inr j) h = one_rank (get_or ranks n 0) a b ranks ns rise.1 i j h

-- no two have one rank
pub rank_names : (a b : ℕ) (ranks order : List ℕ) → Rises ranks order → is_in a order ≡ true → is_in b order ≡ true → get_or ranks a 0 ≡ get_or ranks b 0 → a ≡ b
rank_names a b ranks order rise i j h = one_rank 0 a b ranks order rise (among_from a order i) (among_from b order j) h

-- Of those that pass a test the first is the one with the lowest rank.
lowest_step : (p : ℕ → Bool) (n x : ℕ) (ranks ns : List ℕ) (t : Bool) → p x ≡ t → RiseAbove (get_or ranks x 0) ranks ns → IsAmong n (x ∷ ns) → p n ≡ true → (p x ≡ true → get_or ranks n 0 ≤ get_or ranks x 0) →
    (IsAmong n ns → find p ns ≡ Some n) → cond t (Some x) (find p ns) ≡ Some n
lowest_step p n x ranks ns true e rise (inl same) passes least rest = ap Some (sym same)
lowest_step p n x ranks ns true e rise (inr i) passes least rest = absurd (omega (arith, least e, above (get_or ranks x 0) n ranks ns rise i))
lowest_step p n x ranks ns false e rise (inl same) passes least rest = let fails : p n ≡ false = ap p same ∙ e in cc
lowest_step p n x ranks ns false e rise (inr i) passes least rest = rest i

lowest_from : (p : ℕ → Bool) (low n : ℕ) (ranks ns : List ℕ) → RiseAbove low ranks ns → IsAmong n ns → p n ≡ true → ((m : ℕ) → IsAmong m ns → p m ≡ true → get_or ranks n 0 ≤ get_or ranks m 0) → find p ns ≡ Some n
lowest_from p low n ranks [] rise i passes least = absurd i
lowest_from p low n ranks (x ∷ ns) rise i passes least =
    lowest_step p n x ranks ns (p x) refl rise.1 i passes (least x (inl refl)) (λ j. lowest_from p (get_or ranks x 0) n ranks ns rise.1 j passes (λ m k. least m (inr k)))

pub lowest_is_first : (p : ℕ → Bool) (n : ℕ) (ranks order : List ℕ) → Rises ranks order → is_in n order ≡ true → p n ≡ true → ((m : ℕ) → is_in m order ≡ true → p m ≡ true → get_or ranks n 0 ≤ get_or ranks m 0) → find p order ≡ Some n
lowest_is_first p n ranks order rise i passes least =
    lowest_from p 0 n ranks order rise (among_from n order i) passes (λ m k. least m (in_from m order k))

first_step : (p : ℕ → Bool) (n m x : ℕ) (ranks ns : List ℕ) (t : Bool) → p x ≡ t → RiseAbove (get_or ranks x 0) ranks ns → cond t (Some x) (find p ns) ≡ Some n → IsAmong m (x ∷ ns) → p m ≡ true →
    (find p ns ≡ Some n → IsAmong m ns → get_or ranks n 0 ≤ get_or ranks m 0) → get_or ranks n 0 ≤ get_or ranks m 0
first_step p n m x ranks ns true e rise found (inl same) passes rest =
    let here : x ≡ n = cc in omega (arith, same_rank ranks x n here, same_rank ranks m x same)
first_step p n m x ranks ns true e rise found (inr i) passes rest =
    let here : x ≡ n = cc in omega (arith, same_rank ranks x n here, above (get_or ranks x 0) m ranks ns rise i)
first_step p n m x ranks ns false e rise found (inl same) passes rest = let fails : p m ≡ false = ap p same ∙ e in cc
first_step p n m x ranks ns false e rise found (inr i) passes rest = rest found i

first_from : (p : ℕ → Bool) (low n m : ℕ) (ranks ns : List ℕ) → RiseAbove low ranks ns → find p ns ≡ Some n → IsAmong m ns → p m ≡ true → get_or ranks n 0 ≤ get_or ranks m 0
first_from p low n m ranks [] rise found i passes = absurd i
first_from p low n m ranks (x ∷ ns) rise found i passes =
    first_step p n m x ranks ns (p x) refl rise.1 found i passes (λ h j. first_from p (get_or ranks x 0) n m ranks ns rise.1 h j passes)

pub first_is_lowest : (p : ℕ → Bool) (n m : ℕ) (ranks order : List ℕ) → Rises ranks order → find p order ≡ Some n → is_in m order ≡ true → p m ≡ true → get_or ranks n 0 ≤ get_or ranks m 0
first_is_lowest p n m ranks order rise found i passes = first_from p 0 n m ranks order rise found (among_from m order i) passes
