-- How many words a list of addresses has.
use Rattle.std.proofs.Common.{◌≡◌, ◌≤◌, ◌<◌, ◌+◌, ℕ, true, false, None, Some, Option, length, arith, List, refl, sym}
use Rattle.std.specs.List.{count_by}
use Rattle.std.specs.Option.{ok_or}
use Rattle.std.specs.Prelude.{nat_le}
use Rattle.std.proofs.lemmas.Bool.{le-leb, lt-leb}
use Rattle.std.proofs.lemmas.List.Splits.{length-slice_split}
use Rattle.q_model.specs.Values.{Receiver}
use Rattle.q_numbers.specs.Pieces.{is_space, one_or_more, words_in}
use Rattle.q_text.specs.ValueTexts.{plain_of}
use Rattle.q_trace.specs.Answers.{AnswersText}
use Rattle.q_trace.specs.declared.error.EntryError.TheVariants.{BadEntry}
use Rattle.q_trace.specs.PartTexts.{addresses_of}

-- a text has one word more than spaces
word_count : (text : List ℕ) → length (words_in text) ≡ count_by is_space text + 1
word_count text = length-slice_split is_space text

pub too_many : (text : List ℕ) (n : ℕ) → n ≡ count_by is_space text → 50000 ≤ n → addresses_of text ≡ None
too_many text n e h =
    let long : nat_le (length (words_in text)) 50000 ≡ false = lt-leb (length (words_in text)) 50000 (omega (arith, word_count text, e, h)) in
    rw long refl

pub few : (text : List ℕ) (n : ℕ) (o : Option (List Receiver)) → n ≡ count_by is_space text → n < 50000 → o ≡ one_or_more plain_of (words_in text)
    → addresses_of text ≡ o
few text n o e h k =
    let short : nat_le (length (words_in text)) 50000 ≡ true = le-leb (length (words_in text)) 50000 (omega (arith, word_count text, e, h)) in
    rw short (sym k)

pub as_listed : (o : Option (List Receiver)) → AnswersText (ok_or o BadEntry) o
as_listed None = refl
as_listed (Some to) = refl
