-- Each name that is listed leaves fewer names behind it.
use Rattle.std.proofs.Common.{◌≡◌, ◌==◌, ◌<◌, ◌≤◌, ◌+◌, ◌*◌, ◌&&◌, ◌||◌, arith, ap, List, [], ◌∷◌, length, min, None, Option, Some, suc, subst, true, ℕ, zero, ⊎_elim}
use Rattle.std.specs.List.{list_all}
use Rattle.std.specs.Prelude.{IfSome, nat_le, slice_get}
use Rattle.std.specs.Ordering.{MatchOrdering, nat_cmp, ordering_then}
use Rattle.std.specs.declared.cmp.Ordering.{Ordering}
use Rattle.std.specs.declared.cmp.Ordering.TheVariants.{Equal, Greater, Less}
use Rattle.std.specs.Cmp.{ranks}
use Rattle.std.specs.Cmp.Lexicographic.{slice_cmp}
use Rattle.std.proofs.Math.Nat.{suc-mul}
use Rattle.std.proofs.lemmas.Bool.{and_parts, eqb-true, leb-true, or_cases}
use Rattle.std.proofs.lemmas.Nat.{mul-le}
use Rattle.q_model.specs.Texts.{is_name, is_name_byte}
use Rattle.q_host.specs.NamesLeft.{names_left, texts, texts_before}
use Rattle.q_host.specs.Reads.{IsAfter, Rise}
use Rattle.q_host.proofs.NamesInOrder.{after_on}

byte_small : (b : ℕ) → is_name_byte b ≡ true → b ≤ 255
byte_small b h = ⊎_elim (λ low. ⊎_elim (λ letter. omega (arith, leb-true b 122 (and_parts (nat_le 97 b) (nat_le b 122) letter).1)) (λ digit. omega (arith, leb-true b 57 (and_parts (nat_le 48 b) (nat_le b 57) digit).1)) (or_cases (nat_le 97 b && nat_le b 122) (nat_le 48 b && nat_le b 57) low)) (λ dash. omega (arith, eqb-true b 45 dash)) (or_cases ((nat_le 97 b && nat_le b 122) || (nat_le 48 b && nat_le b 57)) (b == 45) h)

-- a text is one of those that there are
before_all : (k : ℕ) (n : List ℕ) → texts_before k n < texts k
before_all zero n = omega arith
before_all (suc k) [] = omega arith
before_all (suc k) (b ∷ bs) =
    let first : min b 255 * texts k ≤ 255 * texts k = mul-le (min b 255) (texts k) 255 (texts k) (omega arith) (omega arith) in
    let rest = before_all k bs in
    omega (arith, first, rest)

-- more texts begin with a lower byte
lower_byte : (a b t x y : ℕ) → a < b → b ≤ 255 → x < t → 1 + min a 255 * t + x < 1 + min b 255 * t + y
lower_byte a b t x y lt small within =
    let more : suc (min a 255) * t ≤ min b 255 * t = mul-le (suc (min a 255)) t (min b 255) t (omega (arith, lt, small)) (omega arith) in
    omega (arith, more, suc-mul (min a 255) t, within)

before_less : (k : ℕ) (m n : List ℕ) → length n ≤ k → list_all is_name_byte n ≡ true → slice_cmp nat_cmp m n ≡ Less → texts_before k m < texts_before k n
before_less k [] [] long form less = absurd cc
before_less k (a ∷ m) [] long form less = absurd cc
before_less zero m (b ∷ n) long form less = absurd (omega (arith, long))
before_less (suc k) [] (b ∷ n) long form less = omega arith
before_less (suc k) (a ∷ m) (b ∷ n) long form less = by (nat_cmp a b) (ranks a b) less (before_less k m n (omega (arith, long)) two.1)
  where
    two : (is_name_byte b ≡ true) × (list_all is_name_byte n ≡ true)
    two = and_parts (is_name_byte b) (list_all is_name_byte n) form

    by : (o : Ordering) → MatchOrdering o (a < b) (a ≡ b) (b < a) → ordering_then o (slice_cmp nat_cmp m n) ≡ Less → (slice_cmp nat_cmp m n ≡ Less → texts_before k m < texts_before k n) → texts_before (suc k) (a ∷ m) < texts_before (suc k) (b ∷ n)
    by Less lt e behind = lower_byte a b (texts k) (texts_before k m) (texts_before k n) lt (byte_small b two.0) (before_all k m)
    by Equal same e behind = omega (arith, behind e, ap (λ (x : ℕ). min x 255 * texts k) same)
    by Greater gt e behind = absurd cc

-- fewer names stand behind a name than behind one that it stands after
pub fewer_left : (after : Option (List ℕ)) (n : List ℕ) → is_name n ≡ true → IsAfter after n → names_left (Some n) < names_left after
fewer_left None n form h = omega (arith, before_all 40 n)
fewer_left (Some m) n form h =
    let parts = and_parts (nat_le 1 (length n) && nat_le (length n) 40) (list_all is_name_byte n) form in
    let long = leb-true (length n) 40 (and_parts (nat_le 1 (length n)) (nat_le (length n) 40) parts.0).1 in
    let less = before_less 40 m n long parts.1 h in
    let all = before_all 40 n in
    omega (arith, less, all)

-- and so behind each name of a listing
pub fewer_listed : (after : Option (List ℕ)) (names : List (List ℕ)) (k : ℕ) (n : List ℕ) → Rise after names → slice_get names k ≡ Some n → is_name n ≡ true → names_left (Some n) < names_left after
fewer_listed after names k n rise there form = fewer_left after n form (rise_at after names k n rise there)
  where
    rise_at : (o : Option (List ℕ)) (xs : List (List ℕ)) (i : ℕ) (x : List ℕ) → Rise o xs → slice_get xs i ≡ Some x → IsAfter o x
    rise_at o [] zero x h e = absurd cc
    rise_at o [] (suc i) x h e = absurd cc
    rise_at o (z ∷ zs) zero x h e = subst (λ (y : Option (List ℕ)). IfSome y (IsAfter o)) e h.0
    rise_at o (z ∷ zs) (suc i) x h e = after_on o z x h.0 (rise_at (Some z) zs i x h.1 e)
