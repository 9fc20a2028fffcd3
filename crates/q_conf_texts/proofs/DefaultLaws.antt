-- What is told of a spool without parameters, read back.
use Rattle.std.proofs.Common.{◌≡◌, [], Ok, refl}
use Rattle.q_conf_texts.specs.Params.{params_text}
use Rattle.q_model.specs.Settings.{defaults}
use Rattle.q_numbers.specs.Pieces.{cut}
use Rattle.q_params.specs.ParameterFile.{settings_of_file}
use Rattle.q_params.specs.Values.{set_to}

-- the lines that are told without a file are a file that says what no file says
pub defaults_back : settings_of_file (params_text []) ≡ Ok defaults
unfolding cut params_text set_to
defaults_back = refl
