-- A record that is read is the record that was written, and what was written is read again, whatever follows.
use Rattle.std.proofs.Common.{◌≡◌, ℕ, suc, ◌+◌, ◌^◌, ◌<◌, ◌≤◌, true, eqb, leb, List, [], ◌∷◌, ◌++◌, length, get_or, take, drop, Option, Some, None, refl, sym, ap, subst, ◌∙◌, append_assoc, arith, inl, inr, ◌&&◌}
use Rattle.std.specs.Option.{option_and_then, option_map}
use Rattle.std.specs.Int.{w32, to_be_bytes}
use Rattle.std.proofs.lemmas.Bool.{and_from, and_parts, cases_lt, eq-eqb, eqb-true, le-leb, leb-true, cond-true}
use Rattle.std.proofs.lemmas.Option.{cond_some}
use Rattle.std.proofs.lemmas.List.{take_at, drop_at, take-append-drop, length-append, length-take, get_or-drop, get_or-take, get_or_past}
use Rattle.std.proofs.lemmas.Nat.{be_bytes_4, from_be_bytes-to_be_bytes_4}
use Rattle.q_model.specs.Records.{number, is_whole, take_record, read_record, record_bytes}

-- each is a byte
abbrev pub AreBytes : List ℕ → Type 0
AreBytes bytes = (i : ℕ) → get_or bytes i 0 < 256

pub AreBytes-drop : (n : ℕ) (bytes : List ℕ) → AreBytes bytes → AreBytes (drop n bytes)
AreBytes-drop n bytes h i = rw get_or-drop (h (n + i))

pub AreBytes-take : (n : ℕ) (bytes : List ℕ) → AreBytes bytes → AreBytes (take n bytes)
AreBytes-take n bytes h i =
    elim (cases_lt i n) [
      | inl lt ↦ rw (get_or-take n bytes i 0 lt) (h i)
      | inr le ↦ rw (get_or_past (take n bytes) i 0 (omega (arith, length-take n bytes))) (omega arith)
    ]

-- a value, and the bytes behind it
abbrev pub found : {A : Type 0} → A → List ℕ → Option (A × List ℕ)
found a rest = Some (a, rest)

-- ---- what was written is read

pub number_again : (n : ℕ) (rest : List ℕ) → n < 2 ^ 32 → number (to_be_bytes w32 n ++ rest) ≡ n
number_again n rest lt = from_be_bytes-to_be_bytes_4 n lt

whole_from : (bytes body rest : List ℕ) → number bytes ≡ length body → 4 ≤ length bytes → drop 4 bytes ≡ body ++ rest → is_whole bytes ≡ true
whole_from bytes body rest same long parts =
    and_from (leb 4 (length bytes)) (leb (number bytes) (length (drop 4 bytes))) (le-leb 4 (length bytes) long)
    (le-leb (number bytes) (length (drop 4 bytes)) (omega (arith, same, ap length parts, length-append body rest)))

cut_from : (bytes body rest : List ℕ) (n : ℕ) → n ≡ length body → drop 4 bytes ≡ body ++ rest → found (take n (drop 4 bytes)) (drop n (drop 4 bytes)) ≡ found body rest
cut_from bytes body rest n same parts = rw (parts, take_at body rest n (sym same), drop_at body rest n (sym same)) refl

taken : (kind : ℕ) (bytes body rest : List ℕ) → number bytes ≡ length body → 4 ≤ length bytes → drop 4 bytes ≡ body ++ rest → take_record kind (kind ∷ bytes) ≡ found body rest
taken kind bytes body rest same long parts =
    cond-true ((eqb kind kind) && is_whole bytes) (found (take (number bytes) (drop 4 bytes)) (drop (number bytes) (drop 4 bytes))) None
    (and_from (eqb kind kind) (is_whole bytes) (eq-eqb kind kind refl) (whole_from bytes body rest same long parts))
    ∙ cut_from bytes body rest (number bytes) same parts

pub record_again : (kind : ℕ) (body rest : List ℕ) → length body < 2 ^ 32 → take_record kind (record_bytes kind body ++ rest) ≡ found body rest
record_again kind body rest lt = taken kind ((to_be_bytes w32 (length body) ++ body) ++ rest) body rest (number_again (length body) (body ++ rest) lt) (omega arith) refl

pub read_again : {A : Type 0} (kind : ℕ) (meaning : List ℕ → Option A) (body rest : List ℕ) (a : A) → length body < 2 ^ 32 → meaning body ≡ Some a → read_record kind meaning (record_bytes kind body ++ rest) ≡ found a rest
read_again kind meaning body rest a lt is = rw (record_again kind body rest lt, is) refl

-- ---- what is read was written so

-- a record of this kind whose body is this stands at the front
pub record Takes (kind : ℕ) (bytes body rest : List ℕ) : Type 0 where
  pub parts : bytes ≡ record_bytes kind body ++ rest
  pub body_fits : AreBytes body
  pub rest_fits : AreBytes rest

AreBytes-rest : (b : ℕ) (bytes : List ℕ) → AreBytes (b ∷ bytes) → AreBytes bytes
AreBytes-rest b bytes h i = h (suc i)

number_back : (bytes : List ℕ) → AreBytes bytes → 4 ≤ length bytes → to_be_bytes w32 (number bytes) ≡ take 4 bytes
number_back bytes fits long = be_bytes_4 (take 4 bytes) (number bytes) (omega (arith, length-take 4 bytes)) (AreBytes-take 4 bytes fits) refl

-- a whole record whose kind and length are known
pub takes_at : (kind n : ℕ) (bytes : List ℕ) → AreBytes bytes → n ≡ number bytes → 4 ≤ length bytes → n ≤ length (drop 4 bytes) → Takes kind (kind ∷ bytes) (take n (drop 4 bytes)) (drop n (drop 4 bytes))
takes_at kind n bytes fits is long whole =
    let body = take n (drop 4 bytes) in
    let rest = drop n (drop 4 bytes) in
    let len : length (take n (drop 4 bytes)) ≡ n = omega (arith, length-take n (drop 4 bytes)) in
    let front : to_be_bytes w32 (length (take n (drop 4 bytes))) ≡ take 4 bytes = ap (to_be_bytes w32) (len ∙ is) ∙ number_back bytes fits long in
    record {
      parts = ap (λ (xs : List ℕ). kind ∷ xs) (sym (take-append-drop 4 bytes) ∙ ap (λ (xs : List ℕ). take 4 bytes ++ xs) (sym (take-append-drop n (drop 4 bytes))) ∙ ap (λ (xs : List ℕ). xs ++ (body ++ rest)) (sym front) ∙ sym (append_assoc (to_be_bytes w32 (length (take n (drop 4 bytes)))) body rest));
      body_fits = AreBytes-take n (drop 4 bytes) (AreBytes-drop 4 bytes fits);
      rest_fits = AreBytes-drop n (drop 4 bytes) (AreBytes-drop 4 bytes fits);
    }

pub record_takes : (kind : ℕ) (bytes body rest : List ℕ) → AreBytes bytes → take_record kind bytes ≡ found body rest → Takes kind bytes body rest
record_takes kind [] body rest fits e = absurd cc
record_takes kind (b ∷ bytes) body rest fits e =
    let n = number bytes in
    let d = drop 4 bytes in
    let c = cond_some {A = List ℕ × List ℕ} ((eqb b kind) && is_whole bytes) (take (number bytes) (drop 4 bytes), drop (number bytes) (drop 4 bytes)) (body, rest) e in
    let tests = and_parts (eqb b kind) (is_whole bytes) c.0 in
    let whole = and_parts (leb 4 (length bytes)) (leb (number bytes) (length (drop 4 bytes))) tests.1 in
    let kinds : kind ≡ b = sym (eqb-true b kind tests.0) in
    let made = takes_at kind n bytes (AreBytes-rest b bytes fits) refl (leb-true 4 (length bytes) whole.0) (leb-true (number bytes) (length (drop 4 bytes)) whole.1) in
    let first : Takes kind (b ∷ bytes) (take n d) (drop n d) = subst (λ (k : ℕ). Takes kind (k ∷ bytes) (take n d) (drop n d)) kinds made in
    subst (λ (p : List ℕ × List ℕ). Takes kind (b ∷ bytes) p.0 p.1) c.1 first

-- ---- a step that gave something

pub bind_some : {A B : Type 0} (o : Option A) (f : A → Option B) (y : B) → option_and_then f o ≡ Some y → (x : A) × (o ≡ Some x) × (f x ≡ Some y)
bind_some None f y e = absurd cc
bind_some (Some x) f y e = (x, refl, e)

pub map_some : {A B : Type 0} (f : A → B) (o : Option A) (y : B) → option_map f o ≡ Some y → (x : A) × (o ≡ Some x) × (f x ≡ y)
map_some f None y e = absurd cc
map_some f (Some x) y e = (x, refl, cc)

-- a record at the front whose body means this
pub record Reads {A : Type 0} (kind : ℕ) (meaning : List ℕ → Option A) (bytes : List ℕ) (a : A) (rest : List ℕ) : Type 0 where
  pub body : List ℕ
  pub takes : Takes kind bytes body rest
  pub means : meaning body ≡ Some a

pub read_takes : {A : Type 0} (kind : ℕ) (meaning : List ℕ → Option A) (bytes : List ℕ) (a : A) (rest : List ℕ) → AreBytes bytes → read_record kind meaning bytes ≡ found a rest → Reads kind meaning bytes a rest
read_takes {A} kind meaning bytes a rest fits e =
    let t = bind_some (take_record kind bytes) (λ (r : List ℕ × List ℕ). option_map (λ (x : A). (x, r.1)) (meaning r.0)) (a, rest) e in
    let m = map_some {A = A} {B = A × List ℕ} (λ (x : A). (x, t.0.1)) (meaning t.0.0) (a, rest) t.2 in
    let same_rest : t.0.1 ≡ rest = ap (λ (p : A × List ℕ). p.1) m.2 in
    let same_value : m.0 ≡ a = ap (λ (p : A × List ℕ). p.0) m.2 in
    record {
      body = t.0.0;
      takes = subst (λ (r : List ℕ). Takes kind bytes t.0.0 r) same_rest (record_takes kind bytes t.0.0 t.0.1 fits t.1);
      means = m.1 ∙ ap (λ (x : A). Some x) same_value;
    }
