-- What the words of queue tools name: messages or a domain.
use Rattle.std.specs.Prelude.{◌≡◌, bytes_eq, codes, if◌then◌else◌, List, Option, option_and_then, option_map, Some}
use Rattle.clap.specs.Words.{first_of, matches_of, Row, Text}
use Rattle.q_trace.specs.PartTexts.{hop_of, id_of}
use Rattle.q_words.specs.declared.tool.Chosen.{Chosen}
use Rattle.q_words.specs.declared.tool.Chosen.TheVariants.{Listed, One}
use Rattle.q_words.specs.declared.tool.Target.{Target}
use Rattle.q_words.specs.declared.tool.Target.TheVariants.{All, Only}
use Rattle.q_words.specs.Commands.{domain_app, id_app}

-- those of the input, or that of the id
abbrev pub chosen_of : Text → Option Chosen
chosen_of word = if bytes_eq word (codes "-") then Some Listed else option_map One (id_of word)

-- all messages, or those
abbrev pub target_of : Text → Option Target
target_of word = if bytes_eq word (codes "ALL") then Some All else option_map Only (chosen_of word)

abbrev pub target_in : List Row → Option Target
target_in rows = option_and_then target_of (first_of (codes "id") rows)

abbrev pub chosen_in : List Row → Option Chosen
chosen_in rows = option_and_then chosen_of (first_of (codes "id") rows)

abbrev pub domain_in : List Row → Option Text
domain_in rows = option_and_then hop_of (first_of (codes "domain") rows)

-- the words of this command name these messages
abbrev pub IsTarget : Text → List Text → Target → Type 0
IsTarget command words target = target_in (matches_of (id_app command) words) ≡ Some target

-- those of `expire` name these
abbrev pub IsChosen : List Text → Chosen → Type 0
IsChosen words chosen = chosen_in (matches_of (id_app (codes "expire")) words) ≡ Some chosen

-- those of `flush` name this domain
abbrev pub IsDomain : List Text → Text → Type 0
IsDomain words domain = domain_in (matches_of domain_app words) ≡ Some domain
