-- What a text that is a number says to std's readers of text.
use Rattle.std.proofs.Common.{◌≡◌, ◌≤◌, ◌<◌, ◌^◌, ◌∙◌, ℕ, zero, suc, true, false, List, length, get_or, refl, sym, ap, ⊎_elim, arith, rules, Ok, Err, Result, Option, Some, None, IfSome, SomeIff}
use Rattle.std.specs.Prelude.{◌&&◌, ◌==◌, decimal, nat_le, nat_lt, IsUtf8}
use Rattle.std.specs.Char.{is_ascii_digit}
use Rattle.std.specs.List.{list_all}
use Rattle.std.specs.Result.{OkIff, result_ok}
use Rattle.std.specs.Str.Parse.{digits_value, ParsesUnsigned}
use Rattle.std.proofs.lemmas.Bool.{and_from, and_parts, both_ways, cond-true, eq-eqb, eqb-true, le-leb, leb-true, lt-ltb, ltb-true, ne_eqb, not-true, not_from_false, or_cases, or_right}
use Rattle.std.proofs.lemmas.Fmt.{decimal-digits_value, decimal_digit, decimal_nonempty, digits_decimal, digits_value-decimal, first_decimal, IsAscii-from_digits}
use Rattle.std.proofs.lemmas.Option.{cond_some}
use Rattle.std.proofs.lemmas.Str.{IsUtf8-from_ascii}
use Rattle.std.proofs.lemmas.Str.Parse.{IsNumeralModel, numerals_by_value, parse_digits}
use Rattle.q_numbers.specs.Numbers.{is_number, number_within}

-- the texts of digits, and their values
own : IsNumeralModel (λ ds. list_all is_ascii_digit ds ≡ true) (digits_value 10)
own = numerals_by_value (λ ds. list_all is_ascii_digit ds ≡ true) (search rules)

digits : (text : List ℕ) → is_number text ≡ true → list_all is_ascii_digit text ≡ true
digits text h = (and_parts (nat_lt 0 (length text)) (list_all is_ascii_digit text) (and_parts _ _ h).0).1

some : (text : List ℕ) → is_number text ≡ true → 0 < length text
some text h = ltb-true 0 (length text) (and_parts (nat_lt 0 (length text)) (list_all is_ascii_digit text) (and_parts _ _ h).0).0

pub number_is_utf8 : (text : List ℕ) → is_number text ≡ true → IsUtf8 text
number_is_utf8 text h = IsUtf8-from_ascii text (IsAscii-from_digits text (own.to text (digits text h)))

value_from : {E : Type 0} (r : Result ℕ E) (few : Type 0) (small : Type 0) (v : ℕ) → few → OkIff r (few × small) v → SomeIff (result_ok r) small v
value_from (Ok x) few small v f p = (p.0.1, p.1)
value_from (Err e) few small v f p = λ s. p (f, s)

pub parsed : {E : Type 0} (text : List ℕ) (r : Result ℕ E) → is_number text ≡ true → ParsesUnsigned 64 10 text r → SomeIff (result_ok r) (digits_value 10 text < 2 ^ 64) (digits_value 10 text)
parsed text r h p = value_from r (0 < length text) (digits_value 10 text < 2 ^ 64) (digits_value 10 text) (some text h) (parse_digits own 64 text r p (digits text h))

leading : (text : List ℕ) → is_number text ≡ true → get_or text 0 0 ≡ 48 → length text ≡ 1
leading text h begins =
    let last = (and_parts (nat_lt 0 (length text) && list_all is_ascii_digit text) _ h).1 in
    ⊎_elim (λ e. eqb-true (length text) 1 e) (λ e. absurd (both_ways (get_or text 0 0 == 48) (not-true _ e) (eq-eqb _ 48 begins))) (or_cases _ _ last)

-- a number is the decimal text of its value
number_is_decimal : (text : List ℕ) → is_number text ≡ true → digits_value 10 text < 2 ^ 64 → text ≡ decimal (digits_value 10 text)
number_is_decimal text h small = sym (decimal-digits_value own text (digits text h) (some text h) (leading text h) small)

-- and each decimal text is a number
decimal_is_number : (n : ℕ) → n < 2 ^ 64 → is_number (decimal n) ≡ true
decimal_is_number zero small = rw (decimal_digit 0 (omega arith)) refl
decimal_is_number (suc n) small =
    let d = decimal (suc n) in
    let first : (get_or d 0 0 == 48) ≡ false = ne_eqb _ 48 (λ e. omega (arith, first_decimal (suc n) (omega arith) small, e)) in
    and_from (nat_lt 0 (length d) && list_all is_ascii_digit d) _
    (and_from (nat_lt 0 (length d)) _ (lt-ltb 0 (length d) (decimal_nonempty (suc n) small)) (digits_decimal own (suc n) small))
    (or_right (length d == 1) _ (not_from_false _ first))

-- what a text that is read writes, and that it is read
read_is_decimal : (low high : ℕ) (text : List ℕ) (n : ℕ) → high < 2 ^ 64 → number_within low high text ≡ Some n → text ≡ decimal n
read_is_decimal low high text n small h =
    let v = digits_value 10 text in
    let (passes, same) = cond_some (is_number text && nat_le low v && nat_le v high) v n h in
    let (front, top) = and_parts (is_number text && nat_le low v) (nat_le v high) passes in
    number_is_decimal text (and_parts (is_number text) (nat_le low v) front).0 (omega (arith, leb-true v high top)) ∙ ap decimal same

pub read_decimal : (low high : ℕ) (text : List ℕ) (r : Option ℕ) → high < 2 ^ 64 → r ≡ number_within low high text → IfSome r (λ n. text ≡ decimal n)
read_decimal low high text None small e = tt
read_decimal low high text (Some n) small e = read_is_decimal low high text n small (sym e)

pub decimal_is_read : (low high : ℕ) (text : List ℕ) (n : ℕ) → high < 2 ^ 64 → low ≤ n → n ≤ high → text ≡ decimal n → number_within low high text ≡ Some n
decimal_is_read low high text n small above below e =
    let fits : n < 2 ^ 64 = omega arith in
    let value : digits_value 10 (decimal n) ≡ n = digits_value-decimal own n fits in
    let tests : (is_number (decimal n) && nat_le low n && nat_le n high) ≡ true =
    and_from (is_number (decimal n) && nat_le low n) _ (and_from (is_number (decimal n)) _ (decimal_is_number n fits) (le-leb low n above)) (le-leb n high below) in
    rw (e, value) (cond-true _ (Some n) None tests)
