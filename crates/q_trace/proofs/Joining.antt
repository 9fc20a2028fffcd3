-- Words with spaces between them, and the words of a text.
use Rattle.std.proofs.Common.{◌≡◌, ◌≤◌, ◌∙◌, ℕ, Bool, true, false, cond, List, [], ◌∷◌, ◌++◌, length, refl, sym, ap, arith}
use Rattle.std.specs.List.{AllByRecursion, list_all, onto_first, slice_split}
use Rattle.std.specs.Prelude.{flat_map}
use Rattle.std.proofs.lemmas.Bool.{eqb-true}
use Rattle.std.proofs.lemmas.List.{append-nil}
use Rattle.std.proofs.lemmas.List.Splits.{length-slice_split}
use Rattle.q_model.specs.Text.{joined, spaced}
use Rattle.q_numbers.specs.Pieces.{is_space, words_in}
use Rattle.q_numbers.proofs.PieceLaws.{pieces_at, pieces_none}
use Rattle.q_text.proofs.SolidTexts.{is_solid}
use Rattle.q_trace.proofs.PartLaws.{cut_at, cut_none}

-- behind another word, the words stand behind a space
pub spaced_joined : (words : List (List ℕ)) → 1 ≤ length words → flat_map spaced words ≡ 32 ∷ joined words
spaced_joined [] h = absurd (omega (arith, h))
spaced_joined (word ∷ words) h = refl

-- words without spaces are read back
pub words_joined : (words : List (List ℕ)) → 1 ≤ length words → AllByRecursion (λ word. list_all is_solid word ≡ true) words → words_in (joined words) ≡ words
words_joined [] h solid = absurd (omega (arith, h))
words_joined (word ∷ []) h solid = ap words_in (append-nil word) ∙ pieces_none 32 word (cut_none word solid.0)
words_joined (word ∷ next ∷ words) h solid =
    let rest = joined (next ∷ words) in
    pieces_at 32 (word ++ 32 ∷ rest) word rest (cut_at word rest solid.0) ∙ ap (λ (ws : List (List ℕ)). word ∷ ws) (words_joined (next ∷ words) (omega arith) solid.1)

some_words : (text : List ℕ) → 1 ≤ length (slice_split is_space text)
some_words text = omega (arith, length-slice_split is_space text)

-- a byte more in front of the first word
joined_onto : (b : ℕ) (words : List (List ℕ)) → 1 ≤ length words → joined (onto_first b words) ≡ b ∷ joined words
joined_onto b [] h = absurd (omega (arith, h))
joined_onto b (word ∷ words) h = refl

joined_split : (b : ℕ) (text : List ℕ) (t : Bool) → is_space b ≡ t → joined (slice_split is_space text) ≡ text
    → joined (cond t ([] ∷ slice_split is_space text) (onto_first b (slice_split is_space text))) ≡ b ∷ text
joined_split b text true e h =
    let space : b ≡ 32 = eqb-true b 32 e in
    spaced_joined (slice_split is_space text) (some_words text) ∙ ap (λ (x : List ℕ). 32 ∷ x) h ∙ ap (λ (x : ℕ). x ∷ text) (sym space)
joined_split b text false e h = joined_onto b (slice_split is_space text) (some_words text) ∙ ap (λ (x : List ℕ). b ∷ x) h

split_back : (text : List ℕ) → joined (slice_split is_space text) ≡ text
split_back [] = refl
split_back (b ∷ text) = joined_split b text (is_space b) refl (split_back text)

-- the words of a text make it
pub joined_words : (text : List ℕ) → joined (words_in text) ≡ text
joined_words text = split_back text

pub has_words : (text : List ℕ) → 1 ≤ length (words_in text)
has_words text = some_words text
