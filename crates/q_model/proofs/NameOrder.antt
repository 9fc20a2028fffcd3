-- Names of files are in the order of ids, and in deferred in that of due times and ids.
use Rattle.std.proofs.Common.{◌≡◌, ◌<◌, ◌+◌, ◌/◌, ◌%◌, ◌^◌, ◌&&◌, ◌||◌, ◌++◌, ℕ, zero, suc, Bool, true, false, not, nat_lt, List, [], ◌∷◌, length, if◌then◌else◌, refl, sym, ap, ◌∙◌, arith, append_assoc}
use Rattle.std.specs.Prelude.{◌==◌}
use Rattle.std.proofs.Math.Nat.{pow-suc, pow-zero}
use Rattle.std.proofs.lemmas.Bool.Decides.{nat_tests}
use Rattle.std.proofs.lemmas.Nat.{div_below, mod_below}
use Rattle.std.specs.Ordering.{MatchOrdering, nat_cmp, ordering_then}
use Rattle.std.specs.declared.cmp.Ordering.{Ordering}
use Rattle.std.specs.declared.cmp.Ordering.TheVariants.{Equal, Greater, Less}
use Rattle.std.specs.Cmp.{nat_cmp_is, ranks}
use Rattle.std.specs.Cmp.Lexicographic.{slice_cmp}
use Rattle.q_model.specs.declared.id.Id.{Id}
use Rattle.q_model.specs.declared.rows.DeferredName.{DeferredName}
use Rattle.q_model.specs.Ids.{id_before}
use Rattle.q_model.specs.IdTexts.{decimals, due_text, hex, hex_digit, id_text, IsId}
use Rattle.q_model.specs.Scans.{name_before}
use Rattle.q_model.proofs.IdLaws.{tail_of}
use Rattle.q_model.proofs.NumberTexts.{decimals-Spells, hex-Spells, length-spell, Spells}

then-assoc : (o p q : Ordering) → ordering_then o (ordering_then p q) ≡ ordering_then (ordering_then o p) q
then-assoc Less p q = refl
then-assoc Equal p q = refl
then-assoc Greater p q = refl

then-equal : (o : Ordering) → ordering_then o Equal ≡ o
then-equal Less = refl
then-equal Equal = refl
then-equal Greater = refl

-- lists that begin with lists of one length
cmp-append : (ks cs us vs : List ℕ) → length ks ≡ length cs → slice_cmp nat_cmp (ks ++ us) (cs ++ vs) ≡ ordering_then (slice_cmp nat_cmp ks cs) (slice_cmp nat_cmp us vs)
cmp-append [] [] us vs h = refl
cmp-append [] (c ∷ cs) us vs h = absurd (omega (arith, h))
cmp-append (a ∷ ks) [] us vs h = absurd (omega (arith, h))
cmp-append (a ∷ ks) (c ∷ cs) us vs h = ap (ordering_then (nat_cmp a c)) (cmp-append ks cs us vs (omega (arith, h))) ∙ then-assoc (nat_cmp a c) (slice_cmp nat_cmp ks cs) (slice_cmp nat_cmp us vs)

-- ---- digits

-- numbers are in the order of their front and last digits, and digits in that of their bytes
pub record Counts (b : ℕ) (digit : ℕ → ℕ) : Type 0 where
  pub rises : (u v : ℕ) → u < v → v < b → digit u < digit v
  pub step : (x y : ℕ) (o p : Ordering) → MatchOrdering o (x / b < y / b) (x / b ≡ y / b) (y / b < x / b) → MatchOrdering p (x % b < y % b) (x % b ≡ y % b) (y % b < x % b) → MatchOrdering (ordering_then o p) (x < y) (x ≡ y) (y < x)

hex-Counts : Counts 16 hex_digit
hex-Counts = record { rises = rises; step = step }
  where
    rises : (u v : ℕ) → u < v → v < 16 → hex_digit u < hex_digit v
    rises u v h k = grind (arith, nat_tests)

    step : (x y : ℕ) (o p : Ordering) → MatchOrdering o (x / 16 < y / 16) (x / 16 ≡ y / 16) (y / 16 < x / 16) → MatchOrdering p (x % 16 < y % 16) (x % 16 ≡ y % 16) (y % 16 < x % 16) → MatchOrdering (ordering_then o p) (x < y) (x ≡ y) (y < x)
    step x y Less p h k = omega (arith, h)
    step x y Greater p h k = omega (arith, h)
    step x y Equal Less h k = omega (arith, h, k)
    step x y Equal Equal h k = omega (arith, h, k)
    step x y Equal Greater h k = omega (arith, h, k)

decimals-Counts : Counts 10 (λ d. 48 + d)
decimals-Counts = record { rises = λ u v h k. omega (arith, h); step = step }
  where
    step : (x y : ℕ) (o p : Ordering) → MatchOrdering o (x / 10 < y / 10) (x / 10 ≡ y / 10) (y / 10 < x / 10) → MatchOrdering p (x % 10 < y % 10) (x % 10 ≡ y % 10) (y % 10 < x % 10) → MatchOrdering (ordering_then o p) (x < y) (x ≡ y) (y < x)
    step x y Less p h k = omega (arith, h)
    step x y Greater p h k = omega (arith, h)
    step x y Equal Less h k = omega (arith, h, k)
    step x y Equal Equal h k = omega (arith, h, k)
    step x y Equal Greater h k = omega (arith, h, k)

module _ {b : ℕ} {digit : ℕ → ℕ} {spell : ℕ → ℕ → List ℕ} (s : Spells b digit spell) (c : Counts b digit) where
  digit-match : (u v : ℕ) → u < b → v < b → (o : Ordering) → MatchOrdering o (u < v) (u ≡ v) (v < u) → MatchOrdering o (digit u < digit v) (digit u ≡ digit v) (digit v < digit u)
  digit-match u v hu hv Less h = c.rises u v h hv
  digit-match u v hu hv Equal h = ap digit h
  digit-match u v hu hv Greater h = c.rises v u h hu

  digit-cmp : (u v : ℕ) → u < b → v < b → nat_cmp u v ≡ nat_cmp (digit u) (digit v)
  digit-cmp u v hu hv = nat_cmp_is (digit u) (digit v) (nat_cmp u v) (digit-match u v hu hv (nat_cmp u v) (ranks u v))

  step-cmp : (x y : ℕ) → ordering_then (nat_cmp (x / b) (y / b)) (nat_cmp (x % b) (y % b)) ≡ nat_cmp x y
  step-cmp x y = nat_cmp_is x y (ordering_then (nat_cmp (x / b) (y / b)) (nat_cmp (x % b) (y % b))) (c.step x y (nat_cmp (x / b) (y / b)) (nat_cmp (x % b) (y % b)) (ranks (x / b) (y / b)) (ranks (x % b) (y % b)))

  -- as many digits of two numbers are in the order of the numbers
  pub spell-cmp : (n x y : ℕ) → x < b ^ n → y < b ^ n → slice_cmp nat_cmp (spell n x) (spell n y) ≡ nat_cmp x y
  spell-cmp zero x y hx hy =
      ap (λ (xs : List ℕ). slice_cmp nat_cmp xs (spell zero y)) (s.none x) ∙ ap (slice_cmp nat_cmp []) (s.none y)
      ∙ nat_cmp_is x y Equal (omega (arith, pow-zero b, hx, hy))
  spell-cmp (suc n) x y hx hy =
      let u = digit (x % b) in
      let v = digit (y % b) in
      ap (λ (xs : List ℕ). slice_cmp nat_cmp xs (spell (suc n) y)) (s.more n x) ∙ ap (slice_cmp nat_cmp (spell n (x / b) ++ u ∷ [])) (s.more n y)
      ∙ cmp-append (spell n (x / b)) (spell n (y / b)) (u ∷ []) (v ∷ []) (length-spell s n (x / b) ∙ sym (length-spell s n (y / b)))
      ∙ ap (λ (o : Ordering). ordering_then o (ordering_then (nat_cmp u v) Equal)) (spell-cmp n (x / b) (y / b) (div_below x b (b ^ n) s.some (rw pow-suc at hx)) (div_below y b (b ^ n) s.some (rw pow-suc at hy)))
      ∙ ap (ordering_then (nat_cmp (x / b) (y / b))) (then-equal (nat_cmp u v) ∙ sym (digit-cmp (x % b) (y % b) (mod_below x b s.some) (mod_below y b s.some)))
      ∙ step-cmp x y

-- ---- ids

-- the order says that one is before the other
abbrev pub is_less : Ordering → Bool
is_less Less = true
is_less Equal = false
is_less Greater = false

less-then : (x y : ℕ) (p : Ordering) → is_less (ordering_then (nat_cmp x y) p) ≡ (nat_lt x y || ((x == y) && is_less p))
less-then x y p = by (nat_lt x y) (x == y)
  where
    by : (lt eq : Bool) → is_less (ordering_then (if lt then Less else (if eq then Equal else Greater)) p) ≡ (lt || (eq && is_less p))
    by true eq = refl
    by false true = refl
    by false false = refl

tail-less : (a b : Bool) → is_less (slice_cmp nat_cmp (tail_of a) (tail_of b)) ≡ (not a && b)
tail-less true true = refl
tail-less true false = refl
tail-less false true = refl
tail-less false false = refl

and_three : (p q r : Bool) → (p && (q && r)) ≡ ((p && q) && r)
and_three true q r = refl
and_three false q r = refl

-- names of ids are in the order of ids
pub id_text-order : (a b : Id) → IsId a → IsId b → is_less (slice_cmp nat_cmp (id_text a) (id_text b)) ≡ id_before a b
id_text-order a b ha hb =
    let behind : slice_cmp nat_cmp (hex 8 a.serial ++ tail_of a.bounce) (hex 8 b.serial ++ tail_of b.bounce) ≡ ordering_then (nat_cmp a.serial b.serial) (slice_cmp nat_cmp (tail_of a.bounce) (tail_of b.bounce)) =
    cmp-append (hex 8 a.serial) (hex 8 b.serial) (tail_of a.bounce) (tail_of b.bounce) (length-spell hex-Spells 8 a.serial ∙ sym (length-spell hex-Spells 8 b.serial))
    ∙ ap (λ (o : Ordering). ordering_then o (slice_cmp nat_cmp (tail_of a.bounce) (tail_of b.bounce))) (spell-cmp hex-Spells hex-Counts 8 a.serial b.serial (omega (arith, ha.serial_fits)) (omega (arith, hb.serial_fits))) in
    let all : slice_cmp nat_cmp (id_text a) (id_text b) ≡ ordering_then (nat_cmp a.generation b.generation) (ordering_then (nat_cmp a.serial b.serial) (slice_cmp nat_cmp (tail_of a.bounce) (tail_of b.bounce))) =
    ap (λ (xs : List ℕ). slice_cmp nat_cmp xs (id_text b)) (append_assoc (hex 8 a.generation) (45 ∷ hex 8 a.serial) (tail_of a.bounce))
    ∙ ap (slice_cmp nat_cmp (hex 8 a.generation ++ (45 ∷ (hex 8 a.serial ++ tail_of a.bounce)))) (append_assoc (hex 8 b.generation) (45 ∷ hex 8 b.serial) (tail_of b.bounce))
    ∙ cmp-append (hex 8 a.generation) (hex 8 b.generation) (45 ∷ (hex 8 a.serial ++ tail_of a.bounce)) (45 ∷ (hex 8 b.serial ++ tail_of b.bounce)) (length-spell hex-Spells 8 a.generation ∙ sym (length-spell hex-Spells 8 b.generation))
    ∙ ap (λ (o : Ordering). ordering_then o (slice_cmp nat_cmp (hex 8 a.serial ++ tail_of a.bounce) (hex 8 b.serial ++ tail_of b.bounce))) (spell-cmp hex-Spells hex-Counts 8 a.generation b.generation (omega (arith, ha.generation_fits)) (omega (arith, hb.generation_fits)))
    ∙ ap (ordering_then (nat_cmp a.generation b.generation)) behind in
    ap is_less all
    ∙ less-then a.generation b.generation (ordering_then (nat_cmp a.serial b.serial) (slice_cmp nat_cmp (tail_of a.bounce) (tail_of b.bounce)))
    ∙ ap (λ (t : Bool). nat_lt a.generation b.generation || ((a.generation == b.generation) && t))
    (less-then a.serial b.serial (slice_cmp nat_cmp (tail_of a.bounce) (tail_of b.bounce)) ∙ ap (λ (t : Bool). nat_lt a.serial b.serial || ((a.serial == b.serial) && t)) (tail-less a.bounce b.bounce)
    ∙ ap (λ (t : Bool). nat_lt a.serial b.serial || t) (and_three (a.serial == b.serial) (not a.bounce) b.bounce))

-- ---- names in deferred

-- they are in the order of due times, and names of one due time in the order of ids
pub due_text-order : (a b : DeferredName) → a.due < 10 ^ 12 → b.due < 10 ^ 12 → IsId a.id → IsId b.id → is_less (slice_cmp nat_cmp (due_text a.due a.id) (due_text b.due b.id)) ≡ name_before a b
due_text-order a b da db ha hb =
    let ids = slice_cmp nat_cmp (id_text a.id) (id_text b.id) in
    ap is_less (cmp-append (decimals 12 a.due) (decimals 12 b.due) (45 ∷ id_text a.id) (45 ∷ id_text b.id) (length-spell decimals-Spells 12 a.due ∙ sym (length-spell decimals-Spells 12 b.due))
    ∙ ap (λ (o : Ordering). ordering_then o ids) (spell-cmp decimals-Spells decimals-Counts 12 a.due b.due da db))
    ∙ less-then a.due b.due ids
    ∙ ap (λ (t : Bool). nat_lt a.due b.due || ((a.due == b.due) && t)) (id_text-order a.id b.id ha hb)
