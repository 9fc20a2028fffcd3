-- The parts of a line of a transport table: `pattern transport:nexthop` (transport(5)).
use Rattle.std.specs.List.{list_all}
use Rattle.std.specs.Option.{option_map_or}
use Rattle.std.specs.Prelude.{◌==◌, ◌≡◌, drop, if◌then◌else◌, List, None, Option, option_and_then, option_map, position, Some, take, true, ℕ}
use Rattle.q_model.specs.Lists.{has_none}
use Rattle.q_model.specs.Texts.{is_hop}
use Rattle.q_text.specs.Blanks.{is_blank, is_text_byte, trimmed_start}
use Rattle.q_numbers.specs.Pieces.{cut}
use Rattle.q_transport.specs.Texts.{is_transport}

-- a pattern, the name of a transport, and a next hop; none is the domain of the recipient
pub record Parts : Type 0 where
  pub pattern : List ℕ
  pub transport : List ℕ
  pub hop : Option (List ℕ)

-- the name and the next hop have their forms
pub record AreParts (p : Parts) : Type 0 where
  pub transport : is_transport p.transport ≡ true
  pub hop : option_map_or is_hop p.hop true ≡ true

-- a next hop, which may be empty
abbrev pub next_hop_of : List ℕ → Option (Option (List ℕ))
next_hop_of text = if has_none text then Some None else if is_hop text then Some (Some text) else None

-- the parts with this next hop
abbrev pub with_hop : List ℕ → List ℕ → Option (List ℕ) → Parts
with_hop pattern name hop = record { pattern = pattern; transport = name; hop = hop }

-- the parts, where the name and the next hop have their forms
abbrev pub parts_of : List ℕ → List ℕ → List ℕ → Option Parts
parts_of pattern name text =
    if is_transport name then option_map (with_hop pattern name) (next_hop_of text) else None

-- the first colon stands between the name and the next hop
abbrev pub behind_pattern : List ℕ → List ℕ → Option Parts
behind_pattern pattern text =
    option_and_then (λ (c : List ℕ × List ℕ). parts_of pattern c.0 c.1) (cut 58 text)

-- the pattern stands before this place, and isn't empty
abbrev pub divided_at : List ℕ → ℕ → Option Parts
divided_at line at =
    if at == 0 then None else behind_pattern (take at line) (trimmed_start (drop at line))

-- the first blank stands behind the pattern
abbrev pub divided_line : List ℕ → Option Parts
divided_line line = option_and_then (divided_at line) (position is_blank line)

-- the parts of a line
abbrev pub parts_of_line : List ℕ → Option Parts
parts_of_line line = if list_all is_text_byte line then divided_line line else None
