-- The parameters in force: of each its value, and where it comes from (postconf(1)).
use Rattle.std.specs.Prelude.{◌++◌, bytes_eq, codes, decimal, flat_map, if◌then◌else◌, List, None, Option, option_and_then, Some, ℕ}
use Rattle.q_conf_texts.specs.Lines.{At, first_line_with}
use Rattle.q_model.specs.TextParts.{text_line}
use Rattle.q_numbers.specs.Pieces.{cut}
use Rattle.q_params.specs.Parameters.{all_parameters, name_of}
use Rattle.q_params.specs.declared.parameter.Parameter.{Parameter}
use Rattle.q_params.specs.declared.parameter.Parameter.TheVariants as p
use Rattle.q_text.specs.Blanks.{is_passed_over, trimmed}

-- the value that it has where no line sets it
abbrev pub default_text : Parameter → List ℕ
default_text p.ActiveLimit = codes "20000"
default_text p.RecipientLimit = codes "20000"
default_text p.RecipientMinimum = codes "10"
default_text p.InitialConcurrency = codes "5"
default_text p.ConcurrencyLimit = codes "20"
default_text p.EntryLimit = codes "50"
default_text p.PositiveFeedback = codes "1"
default_text p.NegativeFeedback = codes "1"
default_text p.FailedCohortLimit = codes "1"
default_text p.ProcessLimit = codes "100"
default_text p.SlotCost = codes "5"
default_text p.SlotLoan = codes "3"
default_text p.SlotDiscount = codes "50"
default_text p.MinimumSlots = codes "3"
default_text p.QueueRunDelay = codes "300s"
default_text p.MinimalBackoff = codes "300s"
default_text p.MaximalBackoff = codes "4000s"
default_text p.QueueLifetime = codes "5d"
default_text p.BounceLifetime = codes "5d"
default_text p.MarkSyncLimit = codes "1"
default_text p.RateDelay = codes "0s"

-- the value of a name and a value that stand round an equals sign, where the name is the parameter's
abbrev pub value_named : Parameter → List ℕ × List ℕ → Option (List ℕ)
value_named p c = if bytes_eq (trimmed c.0) (name_of p) then Some (trimmed c.1) else None

-- the value to which a line sets the parameter, as it stands there
abbrev pub value_in : Parameter → List ℕ → Option (List ℕ)
value_in p line = if is_passed_over line then None else option_and_then (value_named p) (cut 61 line)

-- the first line that sets it
abbrev pub setting_of : Parameter → List ℕ → Option (At (List ℕ))
setting_of p bytes = first_line_with (value_in p) bytes

-- its value, and where a line sets it the line's number and the default
abbrev pub value_text : Parameter → Option (At (List ℕ)) → List ℕ
value_text p None = default_text p
value_text p (Some found) =
    found.says ++ codes " (line " ++ decimal found.line ++ codes ", default " ++ default_text p ++ codes ")"

abbrev pub parameter_line : List ℕ → Parameter → List ℕ
parameter_line bytes p = text_line (name_of p ++ codes " = " ++ value_text p (setting_of p bytes))

-- of all parameters a line each, by the bytes of the file
unfoldable pub params_text : List ℕ → List ℕ
params_text bytes = flat_map (parameter_line bytes) all_parameters
