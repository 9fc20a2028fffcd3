-- The transports of a table and the sites that it gives are within the bounds of a trace.
use Rattle.std.proofs.Common.{◌≡◌, ◌<◌, ℕ, List, length, true}
use Rattle.q_model.specs.Settings.{Table}
use Rattle.q_model.specs.Texts.{is_address}
use Rattle.q_trace.specs.Bounds.{IsSite, IsTransport}
use Rattle.q_transport.specs.Lawful.{IsLawful}

pub lawful_transport : (table : Table) (n : ℕ) → IsLawful table → n < length table.transports → IsTransport table n
lawful_transport table n h below = (below, h.numbers n below, h.words n below)

pub lawful_site : (table : Table) (address : List ℕ) → IsLawful table → is_address address ≡ true → IsSite table (table.route address)
lawful_site table address h form = (lawful_transport table (table.route address).transport h (h.routed address), h.hops address form)
