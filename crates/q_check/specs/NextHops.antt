-- The entries of a transport table whose next hop can't be reached.
use Rattle.std.specs.Option.{option_map_or}
use Rattle.std.specs.Prelude.{◌++◌, [], Bool, false, if◌then◌else◌, List, not, Option, option_map, ℕ}
use Rattle.q_link.specs.Routes.{has_route}
use Rattle.q_check.specs.Lines.{conf_line, hop_text}
use Rattle.q_conf.specs.declared.error.ConfFile.TheVariants as conf_files
use Rattle.q_text.specs.Blanks.{is_passed_over}
use Rattle.q_text.specs.Lines.{through_lines}
use Rattle.q_transport.specs.TableLines.{parts_of_line, Parts}

-- the next hop of an entry; none is the domain of the recipient
abbrev pub hop_in : Option Parts → Option (Option (List ℕ))
hop_in parts = option_map (λ p. p.hop) parts

-- no connection can be opened to it, and none to a domain
abbrev pub is_unreachable_hop : Option (List ℕ) → Bool
is_unreachable_hop hop = not (option_map_or has_route hop false)

-- a line is an entry whose next hop can't be reached
abbrev pub is_unreachable : List ℕ → Bool
is_unreachable line =
    if is_passed_over line then false
    else option_map_or is_unreachable_hop (hop_in (parts_of_line line)) false

-- the warning of line n
abbrev pub hop_line : ℕ → List ℕ
hop_line n = conf_line conf_files.Table n hop_text

-- what is told of line n
abbrev pub text_of_line : ℕ → List ℕ → List ℕ
text_of_line n line = if is_unreachable line then hop_line n else []

-- a line with its number, behind what is told of the lines before
abbrev pub then_hop_line : List ℕ → ℕ × List ℕ → List ℕ
then_hop_line told line = told ++ text_of_line line.0 line.1

-- what is told of the lines of these bytes, of which the first has number n, behind what is told before
abbrev pub hops_from : List ℕ → ℕ → List ℕ → List ℕ
hops_from told n bytes = through_lines then_hop_line told n bytes

-- what is told of the lines of a table, which count from 1
abbrev pub hop_lines : List ℕ → List ℕ
hop_lines bytes = hops_from [] 1 bytes
