-- The entries of a transport table as they lie in a map: by their patterns, in order.
use Rattle.std.specs.Prelude.{List, map, Option, option_map, Vec, ℕ}
use Rattle.q_transport.specs.Contents.{rule_of_pattern, Rule}
use Rattle.q_transport.specs.declared.entries.Target.{Target}

-- a pattern and where its addresses go
abbrev pub rule_of : {A : Type 0} → Vec ℕ A × Target → Rule
rule_of entry = record { pattern = entry.0.items; transport = entry.1.transport; hop = entry.1.hop }

abbrev pub rules_of : {A : Type 0} → List (Vec ℕ A × Target) → List Rule
rules_of entries = map rule_of entries

-- an entry without its pattern
abbrev pub target_of : Rule → Target
target_of entry = record { transport = entry.transport; hop = entry.hop }

-- where the addresses of a pattern go
abbrev pub target_at : List Rule → List ℕ → Option Target
target_at entries pattern = option_map target_of (rule_of_pattern entries pattern)
