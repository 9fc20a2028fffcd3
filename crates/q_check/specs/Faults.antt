-- The lines of a file of conf that are at fault, and not the first alone.
use Rattle.std.specs.Prelude.{◌-◌, ◌==◌, ◌∷◌, [], if◌then◌else◌, List, Option, option_map, suc, zero, ℕ}
use Rattle.std.specs.Option.{option_map_or}
use Rattle.std.specs.Result.{result_err}
use Rattle.q_conf.specs.Confs.{conf_line_of}
use Rattle.q_conf.specs.declared.error.ConfFile.{ConfFile}
use Rattle.q_conf.specs.declared.error.ConfFile.TheVariants as conf_files
use Rattle.q_params.specs.ParameterFile.{settings_of_file as params_of}
use Rattle.q_transport.specs.TableFile.{table_of_file as contents_of}

-- the line for which a life is refused
abbrev pub fault_in : ConfFile → List ℕ → Option ℕ
fault_in conf_files.Parameters bytes = option_map (λ e. e.line) (result_err (params_of bytes))
fault_in conf_files.Table bytes = option_map conf_line_of (result_err (contents_of bytes))

-- a byte, which is a space where it stands in the line that is to be blank, the one of this number
abbrev pub shown : ℕ → ℕ → ℕ
shown n b = if b == 10 then b else if n == 1 then 32 else b

-- the number of the line that is to be blank, counted from behind this byte
abbrev pub behind : ℕ → ℕ → ℕ
behind n b = if b == 10 then n - 1 else n

-- a file in which this line, counted from 1, is blank
abbrev pub blanked : ℕ → List ℕ → List ℕ
blanked n [] = []
blanked n (b ∷ bytes) = shown n b ∷ blanked (behind n b) bytes

-- the first lines at fault, so many at most: that for which a life is refused, and those of the file
-- in which that line is blank
unfoldable pub faults : ConfFile → ℕ → List ℕ → List ℕ
faults file zero bytes = []
faults file (suc most) bytes =
    option_map_or (λ n. n ∷ faults file most (blanked n bytes)) (fault_in file bytes) []
