-- The lines of a list of ids, one at a time.
use Rattle.std.proofs.Common.{◌≡◌, ◌+◌, ◌∙◌, [], ap, Err, false, List, None, Ok, refl, Result, ℕ}
use Rattle.std.specs.List.{enumerate_from}
use Rattle.std.proofs.lemmas.List.Folds.{fold_stays}
use Rattle.q_input.specs.IdLines.{ids_from, read_id_line, then_id_line}
use Rattle.q_input.specs.declared.error.IdsError.{IdsError}
use Rattle.q_model.specs.declared.id.Id.{Id}
use Rattle.q_input.specs.declared.error.IdsError.TheVariants.{BadLine}
use Rattle.q_text.specs.Blanks.{is_passed_over, trimmed}
use Rattle.q_trace.specs.PartTexts.{id_of}
use Rattle.q_text.specs.Lines.{IsFirstLine, lines_in}
use Rattle.q_text.proofs.LineLaws.{line_by_line}

-- an empty line says nothing
empty_line : (s : Result (List Id) IdsError) (n : ℕ) → then_id_line s (n, []) ≡ s
empty_line (Ok c) n = refl
empty_line (Err e) n = refl

-- the first line, and then the others
pub read_first : (s : Result (List Id) IdsError) (n : ℕ) (bytes line rest : List ℕ) → IsFirstLine bytes line rest
    → ids_from s n bytes ≡ ids_from (then_id_line s (n, line)) (n + 1) rest
read_first s n bytes line rest first = line_by_line then_id_line s n bytes line rest empty_line first

-- a line that is refused is the list's fault
pub read_refused : (n : ℕ) (ids : List Id) (bytes line rest : List ℕ) (e : IdsError) → IsFirstLine bytes line rest → read_id_line n ids line ≡ Err e → ids_from (Ok ids) n bytes ≡ Err e
read_refused n ids bytes line rest e first refused =
    read_first (Ok ids) n bytes line rest first ∙ ap (λ s. ids_from s (n + 1) rest) refused ∙ fold_stays then_id_line (Err e) (λ _. refl) (enumerate_from (n + 1) (lines_in rest))

-- a line that isn't passed over and names no id
pub no_id : (n : ℕ) (ids : List Id) (line : List ℕ) → is_passed_over line ≡ false → id_of (trimmed line) ≡ None → read_id_line n ids line ≡ Err (BadLine n)
no_id n ids line said none = rw said (rw none refl)
