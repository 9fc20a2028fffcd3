-- Numbers in a fixed number of digits: their length, their bytes, and that reading gives the number back.
use Rattle.std.proofs.Common.{◌≡◌, ◌≢◌, ◌≤◌, ◌<◌, ◌+◌, ◌/◌, ◌%◌, ◌^◌, ℕ, zero, suc, true, List, [], ◌∷◌, ◌++◌, Result, Ok, Err, length, get_or, refl, ap, sym, ◌∙◌, append_assoc, arith}
use Rattle.std.proofs.Math.Nat.{pow-suc, pow-zero}
use Rattle.std.proofs.lemmas.Bool.Decides.{nat_tests}
use Rattle.std.proofs.lemmas.Int.Digits.{digits_push, digits_value_push}
use Rattle.std.proofs.lemmas.List.{append-nil, length_push}
use Rattle.std.proofs.lemmas.List.Folds.{list_all-append}
use Rattle.std.proofs.lemmas.Nat.{div-add-mod', div_below, mod_below}
use Rattle.std.proofs.lemmas.Str.{IsUtf8-from_ascii}
use Rattle.std.proofs.lemmas.Str.Ascii.{IsAscii-cons, IsAscii-nil}
use Rattle.std.proofs.lemmas.Str.Parse.{without_leading_plus_none}
use Rattle.std.specs.Char.{digit_value}
use Rattle.std.specs.List.{list_all}
use Rattle.std.specs.Str.{IsAscii, IsUtf8}
use Rattle.std.specs.Str.Parse.{AllDigits, digits_value, ParsesUnsigned, without_leading_plus}
use Rattle.q_model.specs.IdTexts.{decimals, hex, hex_digit}
use Rattle.q_model.specs.Texts.{is_name_byte}

-- `spell n x` is the last n digits of x in the base b, each written by `digit`
pub record Spells (b : ℕ) (digit : ℕ → ℕ) (spell : ℕ → ℕ → List ℕ) : Type 0 where
  pub some : 1 ≤ b
  pub few : b ≤ 36
  pub none : (x : ℕ) → spell 0 x ≡ []
  pub more : (n x : ℕ) → spell (suc n) x ≡ spell n (x / b) ++ digit (x % b) ∷ []
  pub value : (d : ℕ) → d < b → digit_value (digit d) ≡ d
  pub byte : (d : ℕ) → d < b → is_name_byte (digit d) ≡ true

pub hex-Spells : Spells 16 hex_digit hex
unfolding hex
hex-Spells = record {
  some = omega arith;
  few = omega arith;
  none = λ x. refl;
  more = λ n x. refl;
  value = λ d h. grind (arith, nat_tests);
  byte = λ d h. grind (arith, nat_tests);
}

pub decimals-Spells : Spells 10 (λ d. 48 + d) decimals
unfolding decimals
decimals-Spells = record {
  some = omega arith;
  few = omega arith;
  none = λ x. refl;
  more = λ n x. refl;
  value = λ d h. grind (arith, nat_tests);
  byte = λ d h. grind (arith, nat_tests);
}

-- as many bytes as were asked for
pub length-spell : {b : ℕ} {digit : ℕ → ℕ} {spell : ℕ → ℕ → List ℕ} → Spells b digit spell → (n x : ℕ) → length (spell n x) ≡ n
length-spell s zero x = ap length (s.none x)
length-spell {b} {digit} {spell} s (suc n) x = omega (arith, ap length (s.more n x), length_push (spell n (x / b)) (digit (x % b)), length-spell s n (x / b))

-- they are bytes that a name may have
pub bytes-spell : {b : ℕ} {digit : ℕ → ℕ} {spell : ℕ → ℕ → List ℕ} → Spells b digit spell → (n x : ℕ) → list_all is_name_byte (spell n x) ≡ true
bytes-spell s zero x = ap (list_all is_name_byte) (s.none x)
bytes-spell {b} {digit} {spell} s (suc n) x =
    let byte : is_name_byte (digit (x % b)) ≡ true = s.byte (x % b) (mod_below x b s.some) in
    ap (list_all is_name_byte) (s.more n x) ∙ list_all-append is_name_byte (spell n (x / b)) (digit (x % b) ∷ []) ∙ rw (bytes-spell s n (x / b), byte) refl

-- each is a digit in the base
pub digits-spell : {b : ℕ} {digit : ℕ → ℕ} {spell : ℕ → ℕ → List ℕ} → Spells b digit spell → (n x : ℕ) → AllDigits b (spell n x)
digits-spell s zero x = rw (s.none x) tt
digits-spell {b} {digit} {spell} s (suc n) x =
    let below : x % b < b = mod_below x b s.some in
    rw (s.more n x) (digits_push b (spell n (x / b)) (digit (x % b)) (digits-spell s n (x / b)) (rw (s.value (x % b) below) below))

-- their value is the number, where it has no more digits
pub value-spell : {b : ℕ} {digit : ℕ → ℕ} {spell : ℕ → ℕ → List ℕ} → Spells b digit spell → (n x : ℕ) → x < b ^ n → digits_value b (spell n x) ≡ x
value-spell {b} s zero x h = ap (digits_value b) (s.none x) ∙ omega (arith, pow-zero b)
value-spell {b} {digit} {spell} s (suc n) x h =
    let small : x / b < b ^ n = div_below x b (b ^ n) s.some (rw pow-suc at h) in
    ap (digits_value b) (s.more n x) ∙ digits_value_push b (spell n (x / b)) (digit (x % b))
    ∙ rw (value-spell s n (x / b) small, s.value (x % b) (mod_below x b s.some)) (div-add-mod' x b)

ascii_digit : (b c : ℕ) → b ≤ 36 → digit_value c < b → c < 128
ascii_digit b c few h = grind (arith, nat_tests)

no_plus : (b c : ℕ) → b ≤ 36 → digit_value c < b → c ≢ 43
no_plus b c few h = grind (arith, nat_tests)

ascii_digits : (b : ℕ) (bs : List ℕ) → b ≤ 36 → AllDigits b bs → IsAscii bs
ascii_digits b [] few d = IsAscii-nil
ascii_digits b (c ∷ cs) few d = IsAscii-cons c cs (ascii_digit b c few d.0) (ascii_digits b cs few d.1)

plain_front : (b : ℕ) (bs : List ℕ) → b ≤ 36 → AllDigits b bs → get_or bs 0 0 ≢ 43
plain_front b [] few d = λ e. absurd (omega (arith, e))
plain_front b (c ∷ cs) few d = no_plus b c few d.0

-- they are a text
pub utf8-spell : {b : ℕ} {digit : ℕ → ℕ} {spell : ℕ → ℕ → List ℕ} → Spells b digit spell → (n x : ℕ) → IsUtf8 (spell n x)
utf8-spell {b} {digit} {spell} s n x = IsUtf8-from_ascii (spell n x) (ascii_digits b (spell n x) s.few (digits-spell s n x))

parsed : {E : Type 0} (bits b x : ℕ) (ds : List ℕ) (r : Result ℕ E) → without_leading_plus ds ≡ ds → 0 < length ds → AllDigits b ds → digits_value b ds ≡ x → x < 2 ^ bits → ParsesUnsigned bits b ds r → r ≡ Ok x
parsed bits b x ds (Ok y) plain some digits value small h = ap Ok (h.1 ∙ ap (digits_value b) plain ∙ value)
parsed bits b x ds (Err e) plain some digits value small h = absurd (h (rw plain (some, digits), rw (plain, value) small))

-- reading the digits of a number gives it back
pub parse-spell : {b : ℕ} {digit : ℕ → ℕ} {spell : ℕ → ℕ → List ℕ} → Spells b digit spell → {E : Type 0} (bits n x : ℕ) (text : List ℕ) (r : Result ℕ E)
    → spell n x ≡ text → 0 < n → x < b ^ n → x < 2 ^ bits → ParsesUnsigned bits b text r → r ≡ Ok x
parse-spell {b} {digit} {spell} s bits n x text r same some fits small h =
    let ds = spell n x in
    let digits : AllDigits b ds = digits-spell s n x in
    parsed bits b x ds r (without_leading_plus_none ds (plain_front b ds s.few digits)) (rw (length-spell s n x) some) digits (value-spell s n x fits) small
    (rw (← same) at h)

-- a text that gets a number's digits at its end, from the first on
pub append-spell_none : {b : ℕ} {digit : ℕ → ℕ} {spell : ℕ → ℕ → List ℕ} → Spells b digit spell → (k x : ℕ) (text : List ℕ) → k ≡ 0 → text ≡ text ++ spell k x
append-spell_none {b} {digit} {spell} s k x text e = sym (ap (λ (j : ℕ). text ++ spell j x) e ∙ ap (λ (ds : List ℕ). text ++ ds) (s.none x) ∙ append-nil text)

pub append-spell_more : {b : ℕ} {digit : ℕ → ℕ} {spell : ℕ → ℕ → List ℕ} → Spells b digit spell → (k j x last : ℕ) (text front new : List ℕ)
    → k ≡ suc j → front ≡ text ++ spell j (x / b) → last ≡ digit (x % b) → new ≡ front ++ last ∷ [] → new ≡ text ++ spell k x
append-spell_more {b} {digit} {spell} s k j x last text front new e f d h =
    h ∙ ap (λ (ds : List ℕ). ds ++ last ∷ []) f ∙ append_assoc text (spell j (x / b)) (last ∷ []) ∙ ap (λ (m : ℕ). text ++ (spell j (x / b) ++ m ∷ [])) d
    ∙ ap (λ (ds : List ℕ). text ++ ds) (sym (ap (λ (m : ℕ). spell m x) e ∙ s.more j x))
