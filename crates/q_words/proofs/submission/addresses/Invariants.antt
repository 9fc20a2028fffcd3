use Rattle.std.proofs.Common.{◌≡◌, ◌++◌, drop, option_map}
use Rattle.q_numbers.specs.Pieces.{each_some}
use Rattle.q_text.specs.ValueTexts.{plain_of}
use Rattle.q_words.proofs.WordLaws.{texts}
use Rattle.q_words.proofs.submission.addresses.Given as goal

abbrev pub invariant-loop-word : goal.invariant-loop-word
invariant-loop-word l = record {
  list : each_some plain_of (texts l.words) ≡ option_map (λ ys. l.list ++ ys) (each_some plain_of (texts (drop l.word-index l.words)));
}
