-- The values that are told are those that the program goes by.
use Rattle.std.specs.Option.{option_map_or}
use Rattle.std.specs.Prelude.{◌≡◌, List, Ok, Option, Some, ℕ}
use Rattle.q_conf_texts.specs.Lines.{At}
use Rattle.q_conf_texts.specs.Params.{default_text, setting_of}
use Rattle.q_model.specs.Settings.{Settings}
use Rattle.q_params.specs.ParameterFile.{settings_of_file}
use Rattle.q_params.specs.Values.{set_to}
use Rattle.q_params.specs.declared.parameter.Parameter.{Parameter}

-- the value that is told of a parameter: the one that a line sets, or else the default
abbrev pub told_value : Parameter → Option (At (List ℕ)) → List ℕ
told_value p setting = option_map_or (λ (found : At (List ℕ)). found.says) setting (default_text p)

-- Of each file without fault, to set any parameter to the value that is told of it changes nothing.
abbrev pub TellsValuesInForce : Type 0
TellsValuesInForce = (bytes : List ℕ) (s : Settings) → settings_of_file bytes ≡ Ok s
    → (p : Parameter) → set_to p (told_value p (setting_of p bytes)) s ≡ Some s
