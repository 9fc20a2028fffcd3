-- How a transport table routes an address (transport(5)).
use Rattle.std.specs.Option.{option_map_or}
use Rattle.std.specs.Prelude.{◌++◌, ◌==◌, [], codes, if◌then◌else◌, List, map, Option, unwrap_or, ℕ, ◌∷◌}
use Rattle.q_model.specs.Lists.{first_some}
use Rattle.q_model.specs.Settings.{Table}
use Rattle.q_model.specs.Texts.{domain_of, lower}
use Rattle.q_model.specs.Values.{Site}
use Rattle.q_transport.specs.Contents.{Contents, rule_of_pattern, Rule}
use Rattle.q_transport.specs.Names.{number_of, smtp, with_name}

-- the parents of a domain, the nearest first: what stands behind each dot, with that dot before it
abbrev pub parents : List ℕ → List (List ℕ)
parents [] = []
parents (b ∷ bs) = if b == 46 then (b ∷ bs) ∷ parents bs else parents bs

-- what is looked up for an address, in this order: itself, its domain, the parents of that, `*`
abbrev pub patterns_of : List ℕ → List (List ℕ)
patterns_of address =
    map lower address ∷ domain_of address ∷ parents (domain_of address) ++ codes "*" ∷ []

-- the entry that decides
abbrev pub deciding : List Rule → List ℕ → Option Rule
deciding entries address = first_some (rule_of_pattern entries) (patterns_of address)

-- the site that an entry gives; without a next hop it is at the domain
abbrev pub site_by : List ℕ → Rule → Site
site_by address entry = record {
  transport = entry.transport;
  hop = unwrap_or entry.hop (domain_of address);
}

-- `smtp` at the domain
abbrev pub site_without_entry : Contents → List ℕ → Site
site_without_entry c address = record {
  transport = number_of c.names smtp;
  hop = domain_of address;
}

-- the site of an address
abbrev pub route_of : Contents → List ℕ → Site
route_of c address =
    option_map_or (site_by address) (deciding c.entries address) (site_without_entry c address)

-- the table; `smtp` is its last transport where no entry names it
abbrev pub table_of : Contents → Table
table_of c = record { transports = with_name c.names smtp; route = route_of c }
