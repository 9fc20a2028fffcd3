-- The texts of the recipients of mails, and of their sender, are addresses.
use Rattle.std.proofs.Common.{◌%◌, ◌+◌, ◌++◌, ◌/◌, ◌<◌, ◌≡◌, ◌≤◌, ◌⊎◌, ◌∷◌, ◌∙◌, [], ap, arith, Bool, false, inl, inr, List, refl, subst, sym, true, ⊎_elim, ℕ}
use Rattle.std.proofs.lemmas.Bool.{cases_lt}
use Rattle.std.proofs.lemmas.Bool.Decides.{nat_tests}
use Rattle.std.proofs.lemmas.Fmt.{decimal_digit, decimal_step}
use Rattle.std.specs.Prelude.{◌==◌, codes, decimal, nat_lt}
use Rattle.q_load.specs.Mails.{recipient}
use Rattle.q_model.specs.Texts.{is_address}

-- what the tests of an address say of a digit
record IsDigit (d : ℕ) : Type 0 where
  low : nat_lt 32 d ≡ true
  high : nat_lt d 127 ≡ true
  comma : (d == 44) ≡ false
  less : (d == 60) ≡ false
  more : (d == 62) ≡ false
  at : (d == 64) ≡ false

digit : (n : ℕ) → n < 10 → IsDigit (48 + n)
digit n h = record {
  low = grind (arith, nat_tests);
  high = grind (arith, nat_tests);
  comma = grind (arith, nat_tests);
  less = grind (arith, nat_tests);
  more = grind (arith, nat_tests);
  at = grind (arith, nat_tests);
}

-- one digit or two
data AreDigits : List ℕ → Type 0 where
  one : (a : ℕ) → IsDigit a → AreDigits (a ∷ [])
  two : (a b : ℕ) → IsDigit a → IsDigit b → AreDigits (a ∷ b ∷ [])

abbrev text : List ℕ → List ℕ → List ℕ
text ds es = codes "u" ++ ds ++ codes "@d" ++ es ++ codes ".example"

text_form : (ds es : List ℕ) → AreDigits ds → AreDigits es → is_address (text ds es) ≡ true
text_form ds es (one a h) (one c k) = rw (h.low, h.high, h.comma, h.less, h.more, k.low, k.high, k.comma, k.less, k.more, k.at) refl
text_form ds es (one a h) (two c d k m) = rw (h.low, h.high, h.comma, h.less, h.more, k.low, k.high, k.comma, k.less, k.more, k.at, m.low, m.high, m.comma, m.less, m.more, m.at) refl
text_form ds es (two a b h i) (one c k) = rw (h.low, h.high, h.comma, h.less, h.more, i.low, i.high, i.comma, i.less, i.more, k.low, k.high, k.comma, k.less, k.more, k.at) refl
text_form ds es (two a b h i) (two c d k m) = rw (h.low, h.high, h.comma, h.less, h.more, i.low, i.high, i.comma, i.less, i.more, k.low, k.high, k.comma, k.less, k.more, k.at, m.low, m.high, m.comma, m.less, m.more, m.at) refl

by_digit : (n : ℕ) → n < 10 → AreDigits (decimal n)
by_digit n h = subst AreDigits (sym (decimal_digit n h)) (one (48 + n) (digit n h))

-- a number below 100 has one digit or two
few_digits : (n : ℕ) → n < 100 → AreDigits (decimal n)
few_digits n h = ⊎_elim (λ small. by_digit n small) (λ large.
    let tens : n / 10 < 10 = omega arith in
    let ones : n % 10 < 10 = omega arith in
    let is : decimal n ≡ (48 + n / 10) ∷ (48 + n % 10) ∷ [] = decimal_step n large (omega arith) ∙ ap (λ (ds : List ℕ). ds ++ ((48 + n % 10) ∷ [])) (decimal_digit (n / 10) tens) in
    subst AreDigits (sym is) (two (48 + n / 10) (48 + n % 10) (digit (n / 10) tens) (digit (n % 10) ones))) (cases_lt n 10)

-- a recipient of a mail
pub recipient_form : (x j : ℕ) → j < 20 → is_address (recipient x j) ≡ true
recipient_form x j h = text_form (decimal j) (decimal ((x + j) % 40)) (few_digits j (omega arith)) (few_digits ((x + j) % 40) (omega arith))

pub sender_form : is_address (codes "s@load.example") ≡ true
sender_form = refl
