-- Where the mail to addresses goes (postmap(1), -q), which line of the table decides, and whether a
-- connection can be opened there.
use Rattle.std.specs.Option.{option_map_or}
use Rattle.std.specs.Prelude.{◌++◌, [], Bool, bytes_eq, codes, decimal, false, flat_map, if◌then◌else◌, List, map, None, Option, option_map, position, Some, take, ℕ}
use Rattle.q_conf_texts.specs.Lines.{At, first_line_with}
use Rattle.q_link.specs.Routes.{has_route}
use Rattle.q_model.specs.Lists.{first_some}
use Rattle.q_model.specs.Text.{transport_text}
use Rattle.q_model.specs.TextParts.{text_line}
use Rattle.q_model.specs.Texts.{lower}
use Rattle.q_text.specs.Blanks.{is_blank, is_passed_over}
use Rattle.q_transport.specs.Contents.{Contents}
use Rattle.q_transport.specs.Routing.{patterns_of, route_of, table_of}

-- the pattern of a line: what stands before its first blank
abbrev pub pattern_in : List ℕ → Option (List ℕ)
pattern_in line =
    if is_passed_over line then None else option_map (λ n. take n line) (position is_blank line)

-- the line has an entry of this pattern, which is in lower case
abbrev pub has_entry : List ℕ → List ℕ → Bool
has_entry pattern line = option_map_or (λ text. bytes_eq (map lower text) pattern) (pattern_in line) false

abbrev pub entry_in : List ℕ → List ℕ → Option (Unit {0})
entry_in pattern line = if has_entry pattern line then Some tt else None

-- the first line that has one
abbrev pub line_of_pattern : List ℕ → List ℕ → Option ℕ
line_of_pattern bytes pattern =
    option_map (λ (found : At (Unit {0})). found.line) (first_line_with (entry_in pattern) bytes)

-- the line that decides where an address goes, by what is looked up for it, in this order
abbrev pub deciding_line : List ℕ → List ℕ → Option ℕ
deciding_line bytes address = first_some (line_of_pattern bytes) (patterns_of address)

abbrev pub line_text : Option ℕ → List ℕ
line_text None = codes "no line"
line_text (Some n) = codes "line " ++ decimal n

abbrev pub reach_text : List ℕ → List ℕ
reach_text hop = if has_route hop then [] else codes ", can't be reached"

-- an address, its transport and next hop, and what decides
abbrev pub site_line : List ℕ → List ℕ → List ℕ → Option ℕ → List ℕ
site_line address transport hop line = text_line (address ++ codes " " ++ transport ++ codes ":" ++ hop
    ++ codes " (" ++ line_text line ++ reach_text hop ++ codes ")")

abbrev pub route_line : Contents → List ℕ → List ℕ → List ℕ
route_line c bytes address = site_line address
    (transport_text (table_of c) (route_of c address).transport) (route_of c address).hop
    (deciding_line bytes address)

-- a line for each address
abbrev pub routes_text : Contents → List ℕ → List (List ℕ) → List ℕ
routes_text c bytes addresses = flat_map (route_line c bytes) addresses
