-- The first line of which something is read, found line by line.
use Rattle.std.proofs.Common.{◌≡◌, ◌+◌, ◌∙◌, [], ap, List, None, Option, refl, Some, ℕ}
use Rattle.std.specs.List.{enumerate_from}
use Rattle.std.specs.Prelude.{option_map}
use Rattle.std.proofs.lemmas.List.Folds.{fold_stays}
use Rattle.q_text.specs.Lines.{IsFirstLine, lines_in, through_lines}
use Rattle.q_text.proofs.LineLaws.{line_by_line}
use Rattle.q_conf_texts.specs.Lines.{at, At, then_line}

module _ {A : Type 0} (read : List ℕ → Option A) where
  -- what is found from a line of this number on
  abbrev pub found_from : ℕ → List ℕ → Option (At A)
  found_from n text = through_lines (then_line read) None n text

  empty_line : read [] ≡ None → (s : Option (At A)) (n : ℕ) → then_line read s (n, []) ≡ s
  empty_line none (Some found) n = refl
  empty_line none None n = ap (option_map (at n)) none

  first : (n : ℕ) (text line rest : List ℕ) → read [] ≡ None → IsFirstLine text line rest → found_from n text ≡ through_lines (then_line read) (option_map (at n) (read line)) (n + 1) rest
  first n text line rest none is = line_by_line (then_line read) None n text line rest (empty_line none) is

  -- a line that says it is the first one
  pub found_here : (n : ℕ) (text line rest : List ℕ) (a : A) → read [] ≡ None → IsFirstLine text line rest → read line ≡ Some a → found_from n text ≡ Some (at n a)
  found_here n text line rest a none is said =
      first n text line rest none is ∙ ap (λ o. through_lines (then_line read) (option_map (at n) o) (n + 1) rest) said
      ∙ fold_stays (then_line read) (Some (at n a)) (λ _. refl) (enumerate_from (n + 1) (lines_in rest))

  -- where a line doesn't say it the next ones are looked at
  pub found_later : (n : ℕ) (text line rest : List ℕ) → read [] ≡ None → IsFirstLine text line rest → read line ≡ None → found_from n text ≡ found_from (n + 1) rest
  found_later n text line rest none is said =
      first n text line rest none is ∙ ap (λ o. through_lines (then_line read) (option_map (at n) o) (n + 1) rest) said
