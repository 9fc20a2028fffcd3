-- Mails and their recipients, counted.
use Rattle.std.proofs.Common.{◌≡◌, ◌%◌, ◌+◌, ◌/◌, ◌<◌, ◌∙◌, ◌≤◌, [], ◌∷◌, List, ap, arith, length, map, refl, suc, sym, true, ℕ}
use Rattle.std.proofs.lemmas.List.FromFn.{length-map-range_with_len, sum_by-map-range_with_len_more}
use Rattle.std.specs.List.{list_all, range_with_len}
use Rattle.std.specs.Prelude.{sum_by}
use Rattle.q_message.specs.NewFile.{is_receiver}
use Rattle.q_load.specs.Mails.{receiver, recipient_count, recipients}
use Rattle.q_load.specs.Numbers.{next_number, number_of}

-- the number of the next mail
pub number_more : (first i : ℕ) → number_of first (i + 1) ≡ next_number (number_of first i)
number_more first i = let e : i + 1 ≡ suc i = omega arith in ap (number_of first) e

-- the recipients of one mail more
pub sum_more : (mails i number sum : ℕ) → number ≡ number_of mails i → sum ≡ sum_by recipient_count (map (number_of mails) (range_with_len 1 i)) → sum + recipient_count (next_number number) ≡ sum_by recipient_count (map (number_of mails) (range_with_len 1 (i + 1)))
sum_more mails i number sum is before =
    let e : 1 + i ≡ i + 1 = omega arith in
    ap (λ (s : ℕ). s + recipient_count (next_number number)) before
    ∙ ap (λ (x : ℕ). sum_by recipient_count (map (number_of mails) (range_with_len 1 i)) + recipient_count x) (ap next_number is ∙ sym (number_more mails i))
    ∙ sym (sum_by-map-range_with_len_more recipient_count (number_of mails) 1 i (i + 1) e)

others_from : (x : ℕ) (js : List ℕ) → list_all is_receiver (map (receiver x) js) ≡ true
others_from x [] = refl
others_from x (j ∷ js) = others_from x js

-- no recipient has an original address
pub no_others : (x : ℕ) → list_all is_receiver (recipients x) ≡ true
no_others x = others_from x (range_with_len 0 (recipient_count x))

-- a mail has recipients
pub some_recipients : (x : ℕ) → 1 ≤ length (recipients x)
some_recipients x =
    let e : length (recipients x) ≡ recipient_count x = length-map-range_with_len (receiver x) 0 (recipient_count x) in
    omega (arith, e)

pub few_recipients : (x : ℕ) → length (recipients x) ≤ 20
few_recipients x =
    let e : length (recipients x) ≡ recipient_count x = length-map-range_with_len (receiver x) 0 (recipient_count x) in
    let few : x / 65536 % 20 < 20 = omega arith in
    omega (arith, e, few)
