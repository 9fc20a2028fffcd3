-- What a line of a parameter file says, with what the lines before it said.
use Rattle.std.specs.List.{list_all}
use Rattle.std.specs.Option.{option_map_or}
use Rattle.std.specs.Prelude.{◌==◌, ◌≡◌, bytes_eq, Err, find, if◌then◌else◌, List, None, Ok, Option, Result, set, slice_index, Some, ℕ}
use Rattle.q_model.specs.Settings.{Settings}
use Rattle.q_params.specs.Parameters.{all_parameters, name_of, place_of}
use Rattle.q_text.specs.Blanks.{is_passed_over, is_text_byte, trimmed}
use Rattle.q_numbers.specs.Pieces.{cut}
use Rattle.q_params.specs.Values.{set_to}
use Rattle.q_params.specs.declared.error.ParamCause.{ParamCause}
use Rattle.q_params.specs.declared.error.ParamCause.TheVariants.{BadValue, NoEquals, NotText, Twice, UnknownName}
use Rattle.q_params.specs.declared.parameter.Parameter.{Parameter}

-- the settings so far, and for each parameter the line that set it, 0 where none did
pub record SettingsSoFar : Type 0 where
  pub settings : Settings
  pub lines : List ℕ

-- the line that set a parameter
abbrev pub setting_line : SettingsSoFar → Parameter → ℕ
setting_line r p = slice_index r.lines (place_of p)

-- line n set a parameter, so that the settings are these
abbrev pub with_line : ℕ → SettingsSoFar → Parameter → Settings → SettingsSoFar
with_line n r p s = record { settings = s; lines = set r.lines (place_of p) n }

-- line n sets a parameter to a value
abbrev pub set_at : ℕ → SettingsSoFar → List ℕ → Parameter → Result SettingsSoFar ParamCause
set_at n r value p =
    if setting_line r p == 0
    then option_map_or (λ s. Ok (with_line n r p s)) (set_to p value r.settings) (Err BadValue)
    else Err Twice

-- line n sets what has this name to a value
abbrev pub set_named : ℕ → SettingsSoFar → List ℕ → List ℕ → Result SettingsSoFar ParamCause
set_named n r name value =
    option_map_or (set_at n r value) (find (λ p. bytes_eq (name_of p) name) all_parameters) (Err UnknownName)

-- the first equals sign stands between a name and its value
abbrev pub read_setting : ℕ → SettingsSoFar → List ℕ → Result SettingsSoFar ParamCause
read_setting n r line =
    option_map_or (λ (c : List ℕ × List ℕ). set_named n r (trimmed c.0) (trimmed c.1)) (cut 61 line)
    (Err NoEquals)

-- line n
abbrev pub read_setting_line : ℕ → SettingsSoFar → List ℕ → Result SettingsSoFar ParamCause
read_setting_line n r line =
    if is_passed_over line then Ok r
    else if list_all is_text_byte line then read_setting n r line
    else Err NotText

-- a value is set and no line changes, or nothing changes, since the text is none of the parameter
abbrev pub Sets : Parameter → List ℕ → SettingsSoFar → SettingsSoFar → Option (Unit {0}) → Type 0
Sets p text old new None = (set_to p text old.settings ≡ None) × (new ≡ old)
Sets p text old new (Some _) = (set_to p text old.settings ≡ Some new.settings) × (new.lines ≡ old.lines)

-- a call that changes a reading in place does what is read: at Ok its new state is the reading
abbrev pub BecomesSettings : Result (Unit {0}) ParamCause → SettingsSoFar → Result SettingsSoFar ParamCause → Type 0
BecomesSettings (Ok _) new read = read ≡ Ok new
BecomesSettings (Err e) new read = read ≡ Err e
