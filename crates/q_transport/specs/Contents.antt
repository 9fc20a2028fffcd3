-- What a transport table says (transport(5)).
use Rattle.std.specs.List.{list_all}
use Rattle.std.specs.Option.{option_map_or}
use Rattle.std.specs.Prelude.{◌&&◌, ◌≡◌, ◌≤◌, [], Bool, bytes_eq, find, length, List, nat_lt, Option, true, ℕ, ◌++◌, ◌∷◌}
use Rattle.q_model.specs.Texts.{is_hop}
use Rattle.q_transport.specs.Names.{AreTransportNames}

-- an entry: a pattern in lower case, the number of its transport, and its next hop; none is the domain
-- of the recipient
pub record Rule : Type 0 where
  pub pattern : List ℕ
  pub transport : ℕ
  pub hop : Option (List ℕ)

-- the entry of these
abbrev pub rule_from : List ℕ → ℕ → Option (List ℕ) → Rule
rule_from pattern transport hop = record { pattern = pattern; transport = transport; hop = hop }

-- the names of its transports, in order of first appearance, and its entries in order
pub record Contents : Type 0 where
  pub names : List (List ℕ)
  pub entries : List Rule

-- the entry has one of so many transports, and a next hop of the form of one
abbrev pub is_rule : ℕ → Rule → Bool
is_rule transports entry = nat_lt entry.transport transports && option_map_or is_hop entry.hop true

-- there are at most 20 names, no two the same, and the transport of each entry is one of them
pub record AreContents (c : Contents) : Type 0 where
  pub few : length c.names ≤ 20
  pub names : AreTransportNames c.names
  pub entries : list_all (is_rule (length c.names)) c.entries ≡ true

-- a table without lines
abbrev pub empty_contents : Contents
empty_contents = record { names = []; entries = [] }

-- the entry of a pattern
abbrev pub rule_of_pattern : List Rule → List ℕ → Option Rule
rule_of_pattern entries pattern = find (λ entry. bytes_eq entry.pattern pattern) entries

-- with one more entry
abbrev pub with_rule : Rule → Contents → Contents
with_rule rule c = record c { entries = c.entries ++ rule ∷ [] }
