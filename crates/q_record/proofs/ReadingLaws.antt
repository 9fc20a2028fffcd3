-- What is read is a record that was written so, and what was written is read, whatever follows.
use Rattle.std.proofs.Common.{◌≡◌, ℕ, ◌+◌, ◌-◌, ◌<◌, ◌≤◌, ◌^◌, Bool, true, false, not, ltb, List, [], ◌∷◌, ◌++◌, length, get_or, take, drop, Result, Ok, Err, if◌then◌else◌, refl, sym, ap, subst, ◌∙◌, arith}
use Rattle.std.specs.Int.{w32, to_be_bytes}
use Rattle.std.proofs.lemmas.Bool.{le-ltb, ltb-false}
use Rattle.std.proofs.lemmas.Bool.Decides.{nat_tests}
use Rattle.std.proofs.lemmas.List.{length-append, length-drop, length-take, drop-drop, take_rest}
use Rattle.q_model.specs.Records.{number, record_bytes}
use Rattle.q_record.specs.declared.error.RecError.{RecError}
use Rattle.q_record.specs.declared.error.RecError.TheVariants.{BadKind, BadLength, NotWhole}
use Rattle.q_record.specs.declared.reading.Rec.{Rec}
use Rattle.q_record.specs.Kinds.{is_kind, is_length}
use Rattle.q_record.specs.Reading.{IsRecord, length_from, record_from, whole_from}
use Rattle.q_model.proofs.RecordLaws.{AreBytes, AreBytes-drop, number_again, takes_at}

-- a kind with a length is a kind, and no body is longer than 40,000,000 bytes
pub length_kind : (kind n : ℕ) → is_length kind n ≡ true → is_kind kind ≡ true
length_kind kind n h = grind (arith, nat_tests)

pub length_short : (kind n : ℕ) → is_length kind n ≡ true → n ≤ 40000000
length_short kind n h = grind (arith, nat_tests)

abbrev rec : ℕ → ℕ → ℕ → Rec
rec kind from to = record { kind = kind; from = from; to = to }

-- ---- what was written is read

length_again : (kind : ℕ) (body rest : List ℕ) → is_length kind (length body) ≡ true → length_from kind ((to_be_bytes w32 (length body) ++ body) ++ rest) ≡ Ok (length body)
length_again kind body rest h =
    let small : length body < 2 ^ 32 = omega (arith, length_short kind (length body) h) in
    let long : ltb (length ((to_be_bytes w32 (length body) ++ body) ++ rest)) 4 ≡ false = le-ltb (length ((to_be_bytes w32 (length body) ++ body) ++ rest)) 4 (omega arith) in
    rw (length_kind kind (length body) h, long, number_again (length body) (body ++ rest) small, h) refl

pub record_again : (at kind : ℕ) (bytes body rest : List ℕ) → is_length kind (length body) ≡ true → bytes ≡ record_bytes kind body ++ rest → record_from at bytes ≡ Ok (rec kind (at + 5) (at + 5 + length body))
record_again at kind bytes body rest h is =
    let left : length ((to_be_bytes w32 (length body) ++ body) ++ rest) - 4 ≡ length body + length rest = omega (arith, length-append body rest) in
    let whole : ltb (length body + length rest) (length body) ≡ false = le-ltb (length body + length rest) (length body) (omega arith) in
    ap (record_from at) is ∙ ap (whole_from at kind (length ((to_be_bytes w32 (length body) ++ body) ++ rest) - 4)) (length_again kind body rest h)
    ∙ ap (λ (n : ℕ). whole_from at kind n (Ok (length body))) left
    ∙ ap (λ (t : Bool). if t then Err NotWhole else Ok (rec kind (at + 5) (at + 5 + length body))) whole

-- ---- what is read was written so

-- what a length that was read says
record IsLength (kind : ℕ) (bytes : List ℕ) (n : ℕ) : Type 0 where
  four : 4 ≤ length bytes
  number : n ≡ number bytes
  lawful : is_length kind n ≡ true

is_read : (kind n : ℕ) (bytes : List ℕ) (a b c : Bool) → is_kind kind ≡ a → ltb (length bytes) 4 ≡ b → is_length kind (number bytes) ≡ c → (if not a then Err BadKind else if b then Err NotWhole else if not c then Err BadLength else Ok (number bytes)) ≡ Ok n → IsLength kind bytes n
is_read kind n bytes false b c p q r e = absurd cc
is_read kind n bytes true true c p q r e = absurd cc
is_read kind n bytes true false false p q r e = absurd cc
is_read kind n bytes true false true p q r e =
    let same : number bytes ≡ n = cc in
    record { four = ltb-false (length bytes) 4 q; number = sym same; lawful = ap (is_length kind) (sym same) ∙ r }

length_is : (kind n : ℕ) (bytes : List ℕ) → length_from kind bytes ≡ Ok n → IsLength kind bytes n
length_is kind n bytes e = is_read kind n bytes (is_kind kind) (ltb (length bytes) 4) (is_length kind (number bytes)) refl refl refl e

pub found_whole : (at kind n : ℕ) (bytes rest : List ℕ) → AreBytes bytes → drop at bytes ≡ kind ∷ rest → length_from kind rest ≡ Ok n → n ≤ length rest - 4 → IsRecord bytes at (rec kind (at + 5) (at + 5 + n))
found_whole at kind n bytes rest fits here read whole =
    let k = length_is kind n rest read in
    let rest_is : drop 1 (drop at bytes) ≡ rest = ap (drop 1) here in
    let rest_fits : AreBytes rest = subst AreBytes rest_is (AreBytes-drop 1 (drop at bytes) (AreBytes-drop at bytes fits)) in
    let enough : n ≤ length (drop 4 rest) = omega (arith, length-drop 4 rest) in
    let body_from : drop (at + 5) bytes ≡ drop 4 rest = sym (drop-drop 5 at bytes) ∙ ap (drop 5) here in
    let behind : drop (at + 5 + n) bytes ≡ drop n (drop 4 rest) = sym (drop-drop n (at + 5) bytes) ∙ ap (drop n) body_from in
    let size : at + 5 + n - (at + 5) ≡ n = omega arith in
    let body : take (at + 5 + n - (at + 5)) (drop (at + 5) bytes) ≡ take n (drop 4 rest) = ap (λ (j : ℕ). take j (drop (at + 5) bytes)) size ∙ ap (take n) body_from in
    let len : length (take n (drop 4 rest)) ≡ n = omega (arith, length-take n (drop 4 rest)) in
    record {
      from = refl;
      within = omega (arith, ap length here, length-drop at bytes, k.four);
      lawful = ap (λ (xs : List ℕ). is_length kind (length xs)) body ∙ ap (is_length kind) len ∙ k.lawful;
      written = here ∙ (takes_at kind n rest rest_fits k.number k.four enough).parts
          ∙ ap (λ (xs : List ℕ). record_bytes kind xs ++ drop n (drop 4 rest)) (sym body) ∙ ap (λ (xs : List ℕ). record_bytes kind (take (at + 5 + n - (at + 5)) (drop (at + 5) bytes)) ++ xs) (sym behind);
    }

head_rest : (xs : List ℕ) → 1 ≤ length xs → xs ≡ get_or xs 0 0 ∷ drop 1 xs
head_rest [] h = absurd (omega arith)
head_rest (x ∷ xs) h = refl

-- the same of the bytes from the offset on, taken apart into the first and the others
pub found_read : (at n : ℕ) (bytes tail : List ℕ) (length_read : Result ℕ RecError) → AreBytes bytes → tail ≡ drop at bytes → 1 ≤ length tail
    → length_read ≡ length_from (get_or tail 0 0) (take (length tail - 1) (drop 1 tail)) → length_read ≡ Ok n → n ≤ length (take (length tail - 1) (drop 1 tail)) - 4
    → IsRecord bytes at (rec (get_or tail 0 0) (at + 5) (at + 5 + n))
found_read at n bytes tail length_read fits is some read ok whole =
    let rest : take (length tail - 1) (drop 1 tail) ≡ drop 1 tail = take_rest tail 1 in
    found_whole at (get_or tail 0 0) n bytes (drop 1 tail) fits (sym is ∙ head_rest tail some) (sym (ap (length_from (get_or tail 0 0)) rest) ∙ sym read ∙ ok) (omega (arith, ap length rest))
