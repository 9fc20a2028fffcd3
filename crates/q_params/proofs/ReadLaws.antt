-- The lines of a parameter file, one at a time.
use Rattle.std.proofs.Common.{◌≡◌, ◌+◌, ℕ, List, [], Ok, Err, Result, refl, ap, ◌∙◌}
use Rattle.std.specs.List.{enumerate_from}
use Rattle.std.proofs.lemmas.List.Folds.{fold_stays}
use Rattle.q_text.specs.Lines.{IsFirstLine, lines_in}
use Rattle.q_text.proofs.LineLaws.{line_by_line}
use Rattle.q_params.specs.ParameterFile.{settings_from, then_setting_line}
use Rattle.q_params.specs.Readings.{read_setting_line, SettingsSoFar}
use Rattle.q_params.specs.declared.error.ParamCause.{ParamCause}
use Rattle.q_params.specs.declared.error.ParamError.{ParamError}

-- an empty line says nothing
empty_line : (s : Result SettingsSoFar ParamError) (n : ℕ) → then_setting_line s (n, []) ≡ s
empty_line (Ok r) n = refl
empty_line (Err e) n = refl

-- the first line, and then the others
pub read_first : (s : Result SettingsSoFar ParamError) (n : ℕ) (bytes line rest : List ℕ) → IsFirstLine bytes line rest
    → settings_from s n bytes ≡ settings_from (then_setting_line s (n, line)) (n + 1) rest
read_first s n bytes line rest first = line_by_line then_setting_line s n bytes line rest empty_line first

-- a line that is refused is the file's fault
pub read_refused : (n : ℕ) (r : SettingsSoFar) (bytes line rest : List ℕ) (cause : ParamCause) → IsFirstLine bytes line rest → read_setting_line n r line ≡ Err cause
    → settings_from (Ok r) n bytes ≡ Err (record { line = n; cause = cause })
read_refused n r bytes line rest cause first e =
    let fault : ParamError = record { line = n; cause = cause } in
    let refused : then_setting_line (Ok r) (n, line) ≡ Err fault = rw e refl in
    read_first (Ok r) n bytes line rest first ∙ ap (λ s. settings_from s (n + 1) rest) refused
    ∙ fold_stays then_setting_line (Err fault) (λ _. refl) (enumerate_from (n + 1) (lines_in rest))
