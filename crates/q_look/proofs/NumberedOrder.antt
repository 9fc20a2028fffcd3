-- Names are in the order of ids, and in deferred in that of due times and ids; also those of ids
-- that no file has, whose numbers may be 0.
use Rattle.std.proofs.Common.{◌≡◌, ◌<◌, ◌+◌, ◌/◌, ◌%◌, ◌^◌, ◌&&◌, ◌||◌, ◌++◌, ℕ, Bool, true, false, not, nat_lt, List, [], ◌∷◌, length, if◌then◌else◌, refl, sym, ap, ◌∙◌, arith, append_assoc}
use Rattle.std.specs.Prelude.{◌==◌}
use Rattle.std.proofs.lemmas.Bool.Decides.{nat_tests}
use Rattle.std.specs.Ordering.{MatchOrdering, nat_cmp, ordering_then}
use Rattle.std.specs.declared.cmp.Ordering.{Ordering}
use Rattle.std.specs.declared.cmp.Ordering.TheVariants.{Equal, Greater, Less}
use Rattle.std.specs.Cmp.Lexicographic.{slice_cmp}
use Rattle.q_model.specs.declared.id.Id.{Id}
use Rattle.q_model.specs.declared.rows.DeferredName.{DeferredName}
use Rattle.q_model.specs.Ids.{id_before}
use Rattle.q_model.specs.IdTexts.{decimals, due_text, hex, hex_digit, id_text}
use Rattle.q_model.specs.Scans.{name_before}
use Rattle.q_model.proofs.IdLaws.{tail_of}
use Rattle.q_look.specs.FirstNames.{IsNumbered}
use Rattle.q_model.proofs.NameOrder.{Counts, is_less, spell-cmp}
use Rattle.q_model.proofs.NumberTexts.{decimals-Spells, hex-Spells, length-spell}

then-assoc : (o p q : Ordering) → ordering_then o (ordering_then p q) ≡ ordering_then (ordering_then o p) q
then-assoc Less p q = refl
then-assoc Equal p q = refl
then-assoc Greater p q = refl

-- lists that begin with lists of one length
cmp-append : (ks cs us vs : List ℕ) → length ks ≡ length cs → slice_cmp nat_cmp (ks ++ us) (cs ++ vs) ≡ ordering_then (slice_cmp nat_cmp ks cs) (slice_cmp nat_cmp us vs)
cmp-append [] [] us vs h = refl
cmp-append [] (c ∷ cs) us vs h = absurd (omega (arith, h))
cmp-append (a ∷ ks) [] us vs h = absurd (omega (arith, h))
cmp-append (a ∷ ks) (c ∷ cs) us vs h = ap (ordering_then (nat_cmp a c)) (cmp-append ks cs us vs (omega (arith, h))) ∙ then-assoc (nat_cmp a c) (slice_cmp nat_cmp ks cs) (slice_cmp nat_cmp us vs)

-- ---- digits

hex-Counts : Counts 16 hex_digit
hex-Counts = record { rises = rises; step = step }
  where
    rises : (u v : ℕ) → u < v → v < 16 → hex_digit u < hex_digit v
    rises u v h k = grind (arith, nat_tests)

    step : (x y : ℕ) (o p : Ordering) → MatchOrdering o (x / 16 < y / 16) (x / 16 ≡ y / 16) (y / 16 < x / 16) → MatchOrdering p (x % 16 < y % 16) (x % 16 ≡ y % 16) (y % 16 < x % 16) → MatchOrdering (ordering_then o p) (x < y) (x ≡ y) (y < x)
    step x y Less p h k = omega (arith, h)
    step x y Greater p h k = omega (arith, h)
    step x y Equal Less h k = omega (arith, h, k)
    step x y Equal Equal h k = omega (arith, h, k)
    step x y Equal Greater h k = omega (arith, h, k)

decimals-Counts : Counts 10 (λ d. 48 + d)
decimals-Counts = record { rises = λ u v h k. omega (arith, h); step = step }
  where
    step : (x y : ℕ) (o p : Ordering) → MatchOrdering o (x / 10 < y / 10) (x / 10 ≡ y / 10) (y / 10 < x / 10) → MatchOrdering p (x % 10 < y % 10) (x % 10 ≡ y % 10) (y % 10 < x % 10) → MatchOrdering (ordering_then o p) (x < y) (x ≡ y) (y < x)
    step x y Less p h k = omega (arith, h)
    step x y Greater p h k = omega (arith, h)
    step x y Equal Less h k = omega (arith, h, k)
    step x y Equal Equal h k = omega (arith, h, k)
    step x y Equal Greater h k = omega (arith, h, k)

-- ---- ids

less-then : (x y : ℕ) (p : Ordering) → is_less (ordering_then (nat_cmp x y) p) ≡ (nat_lt x y || ((x == y) && is_less p))
less-then x y p = by (nat_lt x y) (x == y)
  where
    by : (lt eq : Bool) → is_less (ordering_then (if lt then Less else (if eq then Equal else Greater)) p) ≡ (lt || (eq && is_less p))
    by true eq = refl
    by false true = refl
    by false false = refl

tail-less : (a b : Bool) → is_less (slice_cmp nat_cmp (tail_of a) (tail_of b)) ≡ (not a && b)
tail-less true true = refl
tail-less true false = refl
tail-less false true = refl
tail-less false false = refl

and_three : (p q r : Bool) → (p && (q && r)) ≡ ((p && q) && r)
and_three true q r = refl
and_three false q r = refl

-- names of ids are in the order of ids
pub numbered-order : (a b : Id) → IsNumbered a → IsNumbered b → is_less (slice_cmp nat_cmp (id_text a) (id_text b)) ≡ id_before a b
numbered-order a b ha hb =
    let behind : slice_cmp nat_cmp (hex 8 a.serial ++ tail_of a.bounce) (hex 8 b.serial ++ tail_of b.bounce) ≡ ordering_then (nat_cmp a.serial b.serial) (slice_cmp nat_cmp (tail_of a.bounce) (tail_of b.bounce)) =
    cmp-append (hex 8 a.serial) (hex 8 b.serial) (tail_of a.bounce) (tail_of b.bounce) (length-spell hex-Spells 8 a.serial ∙ sym (length-spell hex-Spells 8 b.serial))
    ∙ ap (λ (o : Ordering). ordering_then o (slice_cmp nat_cmp (tail_of a.bounce) (tail_of b.bounce))) (spell-cmp hex-Spells hex-Counts 8 a.serial b.serial (omega (arith, ha.serial)) (omega (arith, hb.serial))) in
    let all : slice_cmp nat_cmp (id_text a) (id_text b) ≡ ordering_then (nat_cmp a.generation b.generation) (ordering_then (nat_cmp a.serial b.serial) (slice_cmp nat_cmp (tail_of a.bounce) (tail_of b.bounce))) =
    ap (λ (xs : List ℕ). slice_cmp nat_cmp xs (id_text b)) (append_assoc (hex 8 a.generation) (45 ∷ hex 8 a.serial) (tail_of a.bounce))
    ∙ ap (slice_cmp nat_cmp (hex 8 a.generation ++ (45 ∷ (hex 8 a.serial ++ tail_of a.bounce)))) (append_assoc (hex 8 b.generation) (45 ∷ hex 8 b.serial) (tail_of b.bounce))
    ∙ cmp-append (hex 8 a.generation) (hex 8 b.generation) (45 ∷ (hex 8 a.serial ++ tail_of a.bounce)) (45 ∷ (hex 8 b.serial ++ tail_of b.bounce)) (length-spell hex-Spells 8 a.generation ∙ sym (length-spell hex-Spells 8 b.generation))
    ∙ ap (λ (o : Ordering). ordering_then o (slice_cmp nat_cmp (hex 8 a.serial ++ tail_of a.bounce) (hex 8 b.serial ++ tail_of b.bounce))) (spell-cmp hex-Spells hex-Counts 8 a.generation b.generation (omega (arith, ha.generation)) (omega (arith, hb.generation)))
    ∙ ap (ordering_then (nat_cmp a.generation b.generation)) behind in
    ap is_less all
    ∙ less-then a.generation b.generation (ordering_then (nat_cmp a.serial b.serial) (slice_cmp nat_cmp (tail_of a.bounce) (tail_of b.bounce)))
    ∙ ap (λ (t : Bool). nat_lt a.generation b.generation || ((a.generation == b.generation) && t))
    (less-then a.serial b.serial (slice_cmp nat_cmp (tail_of a.bounce) (tail_of b.bounce)) ∙ ap (λ (t : Bool). nat_lt a.serial b.serial || ((a.serial == b.serial) && t)) (tail-less a.bounce b.bounce)
    ∙ ap (λ (t : Bool). nat_lt a.serial b.serial || t) (and_three (a.serial == b.serial) (not a.bounce) b.bounce))

-- ---- names in deferred

-- they are in the order of due times, and names of one due time in the order of ids
pub due-order : (a b : DeferredName) → a.due < 10 ^ 12 → b.due < 10 ^ 12 → IsNumbered a.id → IsNumbered b.id → is_less (slice_cmp nat_cmp (due_text a.due a.id) (due_text b.due b.id)) ≡ name_before a b
due-order a b da db ha hb =
    let ids = slice_cmp nat_cmp (id_text a.id) (id_text b.id) in
    ap is_less (cmp-append (decimals 12 a.due) (decimals 12 b.due) (45 ∷ id_text a.id) (45 ∷ id_text b.id) (length-spell decimals-Spells 12 a.due ∙ sym (length-spell decimals-Spells 12 b.due))
    ∙ ap (λ (o : Ordering). ordering_then o ids) (spell-cmp decimals-Spells decimals-Counts 12 a.due b.due da db))
    ∙ less-then a.due b.due ids
    ∙ ap (λ (t : Bool). nat_lt a.due b.due || ((a.due == b.due) && t)) (numbered-order a.id b.id ha hb)
