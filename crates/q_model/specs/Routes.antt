-- The routes of recipients where no table stands.
use Rattle.std.specs.Prelude.{[], codes, ◌∷◌}
use Rattle.q_model.specs.Settings.{Settings, Table, World}
use Rattle.q_model.specs.Texts.{domain_of}

-- one transport, `smtp`; the next hop of an address is its domain in lower case (transport(5))
abbrev pub no_table : Table
no_table =
    record { transports = codes "smtp" ∷ []; route = λ address. record { transport = 0; hop = domain_of address } }

-- these parameters, without a table
abbrev pub world_without_table : Settings → World
world_without_table settings = record { settings = settings; table = no_table }
