-- The lines of a transport table, one at a time.
use Rattle.std.proofs.Common.{◌≡◌, ◌+◌, ℕ, List, [], Ok, Err, Result, refl, ap, ◌∙◌}
use Rattle.std.specs.List.{enumerate_from}
use Rattle.std.proofs.lemmas.List.Folds.{fold_stays}
use Rattle.q_transport.specs.Contents.{Contents}
use Rattle.q_text.specs.Lines.{IsFirstLine, lines_in}
use Rattle.q_text.proofs.LineLaws.{line_by_line}
use Rattle.q_transport.specs.TableFile.{table_from, then_table_line}
use Rattle.q_transport.specs.Readings.{AnswersTable, read_table_line}
use Rattle.q_transport.specs.declared.error.TableError.{TableError}
use Rattle.q_transport.specs.declared.error.TableError.TheVariants.{BadLine, NoMemory, TooMany, Twice}

-- an empty line says nothing
empty_line : (s : Result Contents TableError) (n : ℕ) → then_table_line s (n, []) ≡ s
empty_line (Ok c) n = refl
empty_line (Err e) n = refl

-- the first line, and then the others
pub read_first : (s : Result Contents TableError) (n : ℕ) (bytes line rest : List ℕ) → IsFirstLine bytes line rest
    → table_from s n bytes ≡ table_from (then_table_line s (n, line)) (n + 1) rest
read_first s n bytes line rest first = line_by_line then_table_line s n bytes line rest empty_line first

-- a line that is refused is the file's fault
read_refused : (n : ℕ) (c : Contents) (bytes line rest : List ℕ) (e : TableError) → IsFirstLine bytes line rest → read_table_line n c line ≡ Err e → table_from (Ok c) n bytes ≡ Err e
read_refused n c bytes line rest e first refused =
    read_first (Ok c) n bytes line rest first ∙ ap (λ s. table_from s (n + 1) rest) refused ∙ fold_stays then_table_line (Err e) (λ _. refl) (enumerate_from (n + 1) (lines_in rest))

-- the answer to a line that is refused is the answer to the file
pub answer_refused : (n : ℕ) (c : Contents) (bytes line rest : List ℕ) (e : TableError) → IsFirstLine bytes line rest → AnswersTable (Err e) (read_table_line n c line) → AnswersTable (Err e) (table_from (Ok c) n bytes)
answer_refused n c bytes line rest NoMemory first refused = tt
answer_refused n c bytes line rest (BadLine m) first refused = read_refused n c bytes line rest (BadLine m) first refused
answer_refused n c bytes line rest (Twice m) first refused = read_refused n c bytes line rest (Twice m) first refused
answer_refused n c bytes line rest (TooMany m) first refused = read_refused n c bytes line rest (TooMany m) first refused
