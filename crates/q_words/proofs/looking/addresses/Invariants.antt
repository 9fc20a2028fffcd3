use Rattle.std.proofs.Common.{◌≡◌, ◌++◌, drop, option_map}
use Rattle.q_numbers.specs.Pieces.{each_some}
use Rattle.q_text.specs.ValueTexts.{address_of}
use Rattle.q_words.proofs.WordLaws.{texts}
use Rattle.q_words.proofs.looking.addresses.Given as goal

abbrev pub invariant-loop-word : goal.invariant-loop-word
invariant-loop-word l = record {
  list : each_some address_of (texts l.words) ≡ option_map (λ ys. l.list ++ ys) (each_some address_of (texts (drop l.word-index l.words)));
}
