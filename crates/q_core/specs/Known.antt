-- The sites that the core knows, as their records and with their counts.
use Rattle.std.specs.Prelude.{filter, if◌then◌else◌, length, List, map, nat_lt, ℕ}
use Rattle.q_dest.specs.declared.dest.Dest.{Dest}
use Rattle.q_dest.specs.Dests.{is_remembered}
use Rattle.q_model.specs.Lists.{drop_first}
use Rattle.q_model.specs.Values.{Site, SiteRecord}

abbrev pub site_of : Dest → Site
site_of d = d.known.site

-- the records without their counts
abbrev pub known_records : List Dest → List SiteRecord
known_records ds = map (λ d. d.known) ds

-- the dead site that nothing goes to for the longest time is forgotten, where more are remembered
abbrev pub forgotten : ℕ → List Dest → List Dest
forgotten limit ds = if nat_lt limit (length (filter is_remembered ds))
    then drop_first is_remembered ds else ds
