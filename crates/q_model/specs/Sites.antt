-- Equality of sites.
use Rattle.std.specs.Prelude.{◌&&◌, ◌==◌, Bool, bytes_eq}
use Rattle.q_model.specs.Values.{Site}

-- the same transport and the same next hop, byte by byte
abbrev pub site_eq : Site → Site → Bool
site_eq a b = (a.transport == b.transport) && bytes_eq a.hop b.hop
