-- Texts without spaces.
use Rattle.std.proofs.Common.{◌≡◌, ◌<◌, ◌^◌, ◌+◌, ◌∙◌, ℕ, Bool, true, List, [], ◌∷◌, ◌++◌, length, refl, arith, rules}
use Rattle.std.specs.Char.{is_ascii_digit}
use Rattle.std.specs.List.{list_all}
use Rattle.std.specs.Prelude.{◌&&◌, decimal, nat_le, nat_lt, not}
use Rattle.std.specs.Str.Parse.{digits_value}
use Rattle.std.proofs.lemmas.Bool.{and_from, and_parts}
use Rattle.std.proofs.lemmas.Bool.Decides.{nat_tests}
use Rattle.std.proofs.lemmas.Fmt.{digits_decimal}
use Rattle.std.proofs.lemmas.List.Folds.{list_all-append}
use Rattle.std.proofs.lemmas.Str.Parse.{IsNumeralModel, numerals_by_value}
use Rattle.q_model.specs.IdTexts.{id_text}
use Rattle.q_model.specs.declared.id.Id.{Id}
use Rattle.q_model.specs.Texts.{is_address, is_address_byte, is_hop, is_hop_byte, is_name_byte, domain_from}
use Rattle.q_model.proofs.IdLaws.{is_name-id_text}
use Rattle.q_numbers.specs.Pieces.{is_space}

-- a byte within a word
abbrev pub is_solid : ℕ → Bool
is_solid b = not (is_space b)

all_more : (p q : ℕ → Bool) → ((b : ℕ) → p b ≡ true → q b ≡ true) → (bs : List ℕ) → list_all p bs ≡ true → list_all q bs ≡ true
all_more p q more [] h = refl
all_more p q more (b ∷ bs) h =
    let (here, rest) = and_parts (p b) (list_all p bs) h in
    and_from (q b) (list_all q bs) (more b here) (all_more p q more bs rest)

digit_solid : (b : ℕ) → is_ascii_digit b ≡ true → is_solid b ≡ true
digit_solid b h = grind (arith, nat_tests)

name_solid : (b : ℕ) → is_name_byte b ≡ true → is_solid b ≡ true
name_solid b h = grind (arith, nat_tests)

address_solid : (b : ℕ) → is_address_byte b ≡ true → is_solid b ≡ true
address_solid b h = grind (arith, nat_tests)

hop_solid : (b : ℕ) → is_hop_byte b ≡ true → is_solid b ≡ true
hop_solid b h = grind (arith, nat_tests)

own : IsNumeralModel (λ ds. list_all is_ascii_digit ds ≡ true) (digits_value 10)
own = numerals_by_value (λ ds. list_all is_ascii_digit ds ≡ true) (search rules)

pub decimal_solid : (n : ℕ) → n < 2 ^ 64 → list_all is_solid (decimal n) ≡ true
decimal_solid n h = all_more is_ascii_digit is_solid digit_solid (decimal n) (digits_decimal own n h)

pub id_solid : (id : Id) → list_all is_solid (id_text id) ≡ true
id_solid id =
    let text = id_text id in
    all_more is_name_byte is_solid name_solid text (and_parts (nat_le 1 (length text) && nat_le (length text) 40) (list_all is_name_byte text) (is_name-id_text id)).1

pub address_is_solid : (text : List ℕ) → is_address text ≡ true → list_all is_solid text ≡ true
address_is_solid text h =
    let (front, _) = and_parts _ (nat_lt (length (domain_from text []) + 1) (length text)) h in
    let (printed, _) = and_parts _ (nat_lt 0 (length (domain_from text []))) front in
    all_more is_address_byte is_solid address_solid text (and_parts (nat_le 3 (length text) && nat_le (length text) 254) (list_all is_address_byte text) printed).1

pub hop_is_solid : (text : List ℕ) → is_hop text ≡ true → list_all is_solid text ≡ true
hop_is_solid text h = all_more is_hop_byte is_solid hop_solid text (and_parts (nat_lt 0 (length text) && nat_le (length text) 255) (list_all is_hop_byte text) h).1

-- a word, a colon, and a number
pub coded_solid : (word : List ℕ) (n : ℕ) → list_all is_solid word ≡ true → n < 2 ^ 64 → list_all is_solid (word ++ 58 ∷ decimal n) ≡ true
coded_solid word n h small = list_all-append is_solid word (58 ∷ decimal n) ∙ and_from (list_all is_solid word) (list_all is_solid (58 ∷ decimal n)) h (decimal_solid n small)
