-- What a word says, in both directions: numbers and addresses.
use Rattle.std.proofs.Common.{◌≡◌, ◌≤◌, ◌<◌, ◌^◌, ◌∙◌, refl, ℕ, Bool, true, Some, None, List, sym, ap, arith}
use Rattle.std.specs.Prelude.{◌&&◌, decimal, if◌then◌else◌, nat_le}
use Rattle.std.specs.Str.Parse.{digits_value}
use Rattle.std.proofs.lemmas.Bool.{and_parts, cond-true, leb-true}
use Rattle.std.proofs.lemmas.Option.{cond_some}
use Rattle.q_model.specs.Texts.{is_address}
use Rattle.q_numbers.specs.Numbers.{is_number, number_within, number32_of, number64_of}
use Rattle.q_text.specs.ValueForms.{FitsBits, HasAddressForm}
use Rattle.q_text.specs.ValueTexts.{address_of}
use Rattle.q_text.proofs.Exactness.{ExactPart}
use Rattle.q_numbers.proofs.NumberLaws.{decimal_is_read, read_decimal}
use Rattle.q_text.proofs.SolidTexts.{address_is_solid, decimal_solid}

-- a number from low to high
pub number_written : (low high n : ℕ) (text : List ℕ) → high < 2 ^ 64 → number_within low high text ≡ Some n → text ≡ decimal n
number_written low high n text small h = read_decimal low high text (Some n) small (sym h)

pub number_fits : (low high n : ℕ) (text : List ℕ) → number_within low high text ≡ Some n → (low ≤ n) × (n ≤ high)
number_fits low high n text h =
    let v = digits_value 10 text in
    let (passes, same) = cond_some (is_number text && nat_le low v && nat_le v high) v n h in
    let (front, below) = and_parts (is_number text && nat_le low v) (nat_le v high) passes in
    let (_, above) = and_parts (is_number text) (nat_le low v) front in
    (omega (arith, leb-true low v above, same), omega (arith, leb-true v high below, same))

pub exact_number : (low high : ℕ) (is : ℕ → Type 0) → high < 2 ^ 64 → ((n : ℕ) → low ≤ n → n ≤ high → is n) → ((n : ℕ) → is n → (low ≤ n) × (n ≤ high))
    → ExactPart (number_within low high) is decimal
exact_number low high is small from to = record {
  exact = record {
    back = λ text n h. let f = number_fits low high n text h in (from n f.0 f.1, sym (number_written low high n text small h));
    gives = λ n h. let f = to n h in decimal_is_read low high (decimal n) n small f.0 f.1 refl;
  };
  solid = λ n h. let f = to n h in decimal_solid n (omega (arith, f.1, small));
}

pub exact_number32 : ExactPart number32_of (FitsBits 32) decimal
exact_number32 = exact_number 0 4294967295 (FitsBits 32) (omega arith) (λ n a b. omega (arith, b)) (λ n h. (omega arith, omega (arith, h)))

pub exact_number64 : ExactPart number64_of (FitsBits 64) decimal
exact_number64 = exact_number 0 18446744073709551615 (FitsBits 64) (omega arith) (λ n a b. omega (arith, b)) (λ n h. (omega arith, omega (arith, h)))

-- a text that stands for itself
pub as_it_is : (test : List ℕ → Bool) (text a : List ℕ) → (if test text then Some text else None) ≡ Some a → (test a ≡ true) × (a ≡ text)
as_it_is test text a h = let (passes, same) = cond_some (test text) text a h in (ap test (sym same) ∙ passes, sym same)

pub exact_address : ExactPart address_of HasAddressForm (λ a. a)
exact_address = record {
  exact = record { back = as_it_is is_address; gives = λ a h. cond-true (is_address a) (Some a) None h };
  solid = address_is_solid;
}
