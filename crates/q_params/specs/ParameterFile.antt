-- The parameter file as a whole: its first fault, or its settings.
use Rattle.std.specs.Option.{option_map_or}
use Rattle.std.specs.Prelude.{◌++◌, [], Bool, Err, if◌then◌else◌, List, max, nat_lt, Ok, replicate, Result, ℕ, ◌∷◌}
use Rattle.std.specs.Result.{result_map_both}
use Rattle.q_model.specs.Lists.{least}
use Rattle.q_model.specs.Settings.{defaults, Settings}
use Rattle.q_text.specs.Lines.{through_lines}
use Rattle.q_params.specs.Readings.{setting_line, read_setting_line, SettingsSoFar}
use Rattle.q_params.specs.declared.error.ParamCause.{ParamCause}
use Rattle.q_params.specs.declared.error.ParamCause.TheVariants.{BadValue}
use Rattle.q_params.specs.declared.error.ParamError.{ParamError}
use Rattle.q_params.specs.declared.parameter.Parameter.{Parameter}
use Rattle.q_params.specs.declared.parameter.Parameter.TheVariants as p

-- before the first line
abbrev pub nothing_read : SettingsSoFar
nothing_read = record { settings = defaults; lines = replicate 21 0 }

-- a fault of line n
abbrev pub at_line : ℕ → ParamCause → ParamError
at_line n cause = record { line = n; cause = cause }

-- a line with its number, unless an earlier line was at fault
abbrev pub then_setting_line : Result SettingsSoFar ParamError → ℕ × List ℕ → Result SettingsSoFar ParamError
then_setting_line (Err e) line = Err e
then_setting_line (Ok r) line = result_map_both (λ r. r) (at_line line.0) (read_setting_line line.0 r line.1)

-- the lines of these bytes, of which the first has number n
abbrev pub settings_from : Result SettingsSoFar ParamError → ℕ → List ℕ → Result SettingsSoFar ParamError
settings_from r n bytes = through_lines then_setting_line r n bytes

-- all lines, which count from 1
abbrev pub read_lines : List ℕ → Result SettingsSoFar ParamError
read_lines bytes = settings_from (Ok nothing_read) 1 bytes

-- the later of the lines that set two parameters, where these disagree
abbrev pub later_line : Bool → SettingsSoFar → Parameter → Parameter → List ℕ
later_line disagree r a b = if disagree then max (setting_line r a) (setting_line r b) ∷ [] else []

-- the later line of each pair that disagrees
abbrev pub disagreements : SettingsSoFar → List ℕ
disagreements r =
    later_line (nat_lt r.settings.recipient_limit r.settings.recipient_minimum) r
    p.RecipientLimit p.RecipientMinimum
    ++ later_line (nat_lt r.settings.maximal_backoff r.settings.minimal_backoff) r
    p.MaximalBackoff p.MinimalBackoff

-- the settings, unless two of them disagree
abbrev pub agreed : SettingsSoFar → Result Settings ParamError
agreed r =
    option_map_or (λ line. Err (at_line line BadValue)) (least nat_lt (disagreements r)) (Ok r.settings)

-- the settings of a reading without a fault
abbrev pub agreed_of : Result SettingsSoFar ParamError → Result Settings ParamError
agreed_of (Err e) = Err e
agreed_of (Ok r) = agreed r

-- what the bytes of a file say
abbrev pub settings_of_file : List ℕ → Result Settings ParamError
settings_of_file bytes = agreed_of (read_lines bytes)
