-- What the words of commands name that look: a message or addresses.
use Rattle.std.specs.Prelude.{◌≡◌, [], codes, List, Option, option_and_then, Some, unwrap_or}
use Rattle.clap.specs.Words.{all_of, first_of, matches_of, Row, Text}
use Rattle.q_model.specs.declared.id.Id.{Id}
use Rattle.q_numbers.specs.Pieces.{one_or_more}
use Rattle.q_text.specs.ValueTexts.{address_of}
use Rattle.q_trace.specs.PartTexts.{id_of}
use Rattle.q_words.specs.Commands.{id_app, route_app}

abbrev pub id_in : List Row → Option Id
id_in rows = option_and_then id_of (first_of (codes "id") rows)

-- the addresses; None where a word is none
abbrev pub addresses_in : List Row → Option (List Text)
addresses_in rows = one_or_more address_of (unwrap_or (all_of (codes "address") rows) [])

-- the words of `show` name this message
abbrev pub IsOne : List Text → Id → Type 0
IsOne words id = id_in (matches_of (id_app (codes "show")) words) ≡ Some id

-- those of `route` name these addresses
abbrev pub IsRoute : List Text → List Text → Type 0
IsRoute words addresses = addresses_in (matches_of route_app words) ≡ Some addresses
