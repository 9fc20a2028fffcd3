-- The lines that a file is refused for, line by line.
use Rattle.std.specs.Option.{option_map_or}
use Rattle.std.specs.Prelude.{◌+◌, ◌++◌, ◌≡◌, ◌∷◌, [], List, Result, take, ℕ}
use Rattle.std.specs.Result.{result_ok}
use Rattle.q_check.specs.Faults.{faults}
use Rattle.q_conf.specs.declared.error.ConfFile.TheVariants as conf_files
use Rattle.q_params.specs.ParameterFile.{nothing_read}
use Rattle.q_params.specs.Readings.{read_setting_line}
use Rattle.q_text.specs.Lines.{lines_in}
use Rattle.q_transport.specs.Contents.{empty_contents}
use Rattle.q_transport.specs.Readings.{read_table_line}

-- the numbers of the lines that are refused, of which the first has number n; a line that is refused adds
-- nothing to what was read
abbrev pub refused : {S E : Type 0} → (ℕ → S → List ℕ → Result S E) → ℕ → S → List (List ℕ) → List ℕ
refused read n s [] = []
refused read n s (line ∷ lines) =
    option_map_or (λ t. refused read (n + 1) t lines) (result_ok (read n s line))
    (n ∷ refused read (n + 1) s lines)

-- the lines of a table that are refused
abbrev pub refused_entries : List ℕ → List ℕ
refused_entries bytes = refused read_table_line 1 empty_contents (lines_in bytes)

-- the lines of a parameter file that are refused
abbrev pub refused_settings : List ℕ → List ℕ
refused_settings bytes = refused read_setting_line 1 nothing_read (lines_in bytes)

-- What is told of a table are the lines that are refused.
abbrev pub AreTableFaults : Type 0
AreTableFaults = (most : ℕ) (bytes : List ℕ)
    → faults conf_files.Table most bytes ≡ take most (refused_entries bytes)

-- What is told of a parameter file are the lines that are refused, and then those of values that disagree.
abbrev pub AreParamFaults : Type 0
AreParamFaults = (most : ℕ) (bytes : List ℕ) → (others : List ℕ)
    × (faults conf_files.Parameters most bytes ≡ take most (refused_settings bytes) ++ others)
